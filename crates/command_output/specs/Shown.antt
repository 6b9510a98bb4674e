-- What a command shows: a status, a text, and the history where there was a run.
use Rattle.std.specs.Prelude.{◌≢◌, ℕ, List, [], ◌∷◌, ◌++◌, Option, None, option_map}
use Rattle.teb_rules.specs.declared.history.Event.{Event}
use Rattle.teb_rules.specs.history.Written.{Written}

pub record Shown : Type 0 where
  pub status : ℕ
  pub text : List ℕ
  pub history : Option (List Event)

-- one line, where there was no run
abbrev pub line_alone : ℕ → List ℕ → Shown
line_alone status line = record { status = status; text = line ++ 10 ∷ []; history = None }

abbrev pub events_of : Option Written → Option (List Event)
events_of history = option_map (λ w. w.events) history

-- a status with which something is shown: not that of a read or a write that failed, and not that of out of memory
pub record IsShowable (status : ℕ) : Type 0 where
  pub no_read_fault : status ≢ 3
  pub no_write_fault : status ≢ 4
  pub not_out_of_memory : status ≢ 8
