-- The record of each commit of a history.
use Rattle.std.specs.Prelude.{ℕ, Bool, not, ◌&&◌, List, [], ◌∷◌, ◌++◌, filter}
use Rattle.std.specs.List.{list_all, list_any}
use Rattle.teb_rules.specs.declared.names.Cell.{Cell}
use Rattle.teb_rules.specs.names.Cells.{same_cell}
use Rattle.teb_rules.specs.declared.history.Event.{Event}
use Rattle.teb_rules.specs.declared.history.Event.TheVariants.{Put, Done}
use Rattle.teb_rules.specs.history.Phases.{txns, committed}
use Rattle.teb_rules.specs.history.Accesses.{wrote}
use Rattle.teb_rules.specs.history.OwnEvents.{own_events}
use Rattle.teb_rules.specs.Setup.{Setup}
use Rattle.teb_rules.specs.Versions.{precedes}
use Rattle.record_journal.specs.Format.{Record}

-- the last Put of each cell that the events put, the newest first
unfoldable pub last_puts : List Event → Record
last_puts [] = []
last_puts (Put t x v ∷ es) = record { cell = x; value = v } ∷ filter (λ c. not (same_cell c.cell x)) (last_puts es)
last_puts (_ ∷ es) = last_puts es

-- one of the changes is of the cell
abbrev pub has : Record → Cell → Bool
has cs x = list_any (λ c. same_cell c.cell x) cs

-- what t put
abbrev pub puts_of : List Event → ℕ → Record
puts_of H t = last_puts (own_events H t)

-- no committed version of x follows t's
unfoldable pub is_newest : Setup → List Event → ℕ → Cell → Bool
is_newest S H t x = list_all (λ w. not (committed H w && wrote H w x && precedes S H x t w)) (txns H)

-- the record of t, which is about to commit: its last Put of each cell of which no committed version follows t's
abbrev pub record_of : Setup → List Event → ℕ → Record
record_of S H t = filter (λ c. is_newest S H t c.cell) (puts_of H t)

-- the records of all commits, the oldest first
unfoldable pub records_of : Setup → List Event → List Record
records_of S [] = []
records_of S (Done t ∷ P) = records_of S P ++ record_of S P t.0 ∷ []
records_of S (_ ∷ P) = records_of S P
