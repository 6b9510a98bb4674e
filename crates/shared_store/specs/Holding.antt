-- A server with the list of its life.
use Rattle.std.specs.Prelude.{◌≡◌, ℕ, ◌+◌, ◌≤◌, Bool, false, List}
use Rattle.teb_rules.specs.declared.history.Event.{Event}
use Rattle.teb_rules.specs.Setup.{Store}
use Rattle.commit_laws.specs.Commits.{commit_count}
use Rattle.shared_store.specs.declared.entry.LifeEntry.{LifeEntry}
use Rattle.shared_store.specs.Stages.{Stage, commits_at}
use Rattle.shared_store.specs.Lives.{LeadsTo, Runs, has_stop, taken_of}
use Rattle.shared_store.specs.Served.{Standing}

-- where the life is, by the server behind it
abbrev pub stage_of : ℕ → Bool → Standing → Stage
stage_of past stopped x = record { standing = x; past = past; stopped = stopped }

-- from its first stage the list leads to where the server is, and the count is that of all commits of the life
pub record IsLifeOf (first now : Stage) (commits : ℕ) (entries : List LifeEntry) : Type 0 where
  pub leads : LeadsTo first entries now
  pub counted : commits ≡ commits_at now

-- the commits since the log last took them wait
pub record IsWaiting (wait_since : List Event → Type 0) (first now : Stage) (entries : List LifeEntry) : Type 0 where
  pub taken : Stage
  pub leads : Runs first (taken_of entries) taken
  pub store : taken.standing.store ≡ now.standing.store
  pub past : taken.past ≡ now.past
  pub fewer : commits_at taken ≤ commits_at now
  pub wait : wait_since taken.standing.events

-- a batch of commits that were taken: it brings the commits from where the list was last taken up to its end
pub record IsBrought (brings : Store → List Event → List Event → Type 0) (first : Stage) (commits : ℕ) (old new : List LifeEntry) : Type 0 where
  pub before : Stage
  pub after : Stage
  pub begins : Runs first (taken_of old) before
  pub ends : Runs first (taken_of new) after
  pub store : before.standing.store ≡ after.standing.store
  pub past : before.past ≡ after.past
  pub fewer : commits_at before ≤ commits_at after
  pub counted : commits ≡ commits_at after
  pub brought : brings after.standing.store before.standing.events after.standing.events
  pub runs : has_stop old ≡ false → has_stop new ≡ false

-- what a log keeps of a life: at least its first `total` commits. Behind where the list was last taken it keeps none; before, it keeps all,
-- unless it has failed. While it has not failed, the life tells of no failure
pub record IsKept (keep : Store → List Event → ℕ → Type 0) (first : Stage) (failed : Bool) (total : ℕ) (entries : List LifeEntry) : Type 0 where
  pub taken : Stage
  pub leads : Runs first (taken_of entries) taken
  pub count : ℕ
  pub keeps : keep taken.standing.store taken.standing.events count
  pub counted : total ≡ taken.past + count
  pub all : failed ≡ false → count ≡ commit_count taken.standing.events
  pub runs : failed ≡ false → has_stop entries ≡ false
