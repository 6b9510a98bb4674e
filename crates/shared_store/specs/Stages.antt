-- Where the life of a store is, and how an epoch follows another.
use Rattle.std.specs.Prelude.{◌≡◌, ℕ, ◌+◌, Bool, true, false, []}
use Rattle.teb_rules.specs.declared.names.Reply.{Reply}
use Rattle.teb_rules.specs.declared.names.Request.{Request}
use Rattle.teb_rules.specs.declared.names.Session.{Session}
use Rattle.teb_rules.specs.Answer.{answer}
use Rattle.commit_laws.specs.Commits.{commit_count}
use Rattle.shared_store.specs.Served.{IsBegun, Standing}

-- the present epoch, how many commits the epochs before it have, and whether the log has failed, after which nothing is asked
pub record Stage : Type 0 where
  pub standing : Standing
  pub past : ℕ
  pub stopped : Bool

-- a store of nothing
abbrev pub no_stage : Stage
no_stage = record { standing = record { store = record { setup = record { types = 0; profiles = []; tree = [] }; tables = 0; rows = [] }; events = [] }; past = 0; stopped = false }

-- where a life begins
abbrev pub first_stage : Standing → Stage
first_stage x = record { standing = x; past = 0; stopped = false }

-- what the rules answer here, and where the life is then
abbrev pub reply_at : Stage → Session → Request → Reply
reply_at g s q = (answer g.standing.store g.standing.events s q).0

abbrev pub asked_at : Stage → Session → Request → Stage
asked_at g s q = record { standing = record { store = g.standing.store; events = (answer g.standing.store g.standing.events s q).1 }; past = g.past; stopped = g.stopped }

abbrev pub stopped_at : Stage → Stage
stopped_at g = record { standing = g.standing; past = g.past; stopped = true }

-- how many commits the life has so far
abbrev pub commits_at : Stage → ℕ
commits_at g = g.past + commit_count g.standing.events

-- an epoch that was drained, and the next one
pub record IsNextEpoch (g h : Stage) : Type 0 where
  pub runs : (g.stopped ≡ false) × (h.stopped ≡ false)
  pub begun : IsBegun g.standing h.standing
  pub past : h.past ≡ commits_at g
