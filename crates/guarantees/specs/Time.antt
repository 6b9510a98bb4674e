-- The serial order and the time at which transactions begin and commit.
use Rattle.std.specs.Prelude.{◌≡◌, ℕ, ◌<◌, List, [], ◌∷◌, ◌++◌, IsTrue}
use Rattle.teb_rules.specs.declared.history.Event.{Event}
use Rattle.teb_rules.specs.declared.history.Event.TheVariants.{Done}
use Rattle.teb_rules.specs.history.Phases.{began_at, done_at, committed}
use Rattle.teb_rules.specs.Setup.{Setup}
use Rattle.teb_rules.specs.Ranks.{serial_order}
use Rattle.teb_rules.specs.Serializes.{StandsBefore}
use Rattle.guarantees.specs.Shapes.{orders_by_commits, keeps_time}

-- a transaction that committed before another one began precedes it in the serial order
abbrev pub KeepsRealTime : Setup → List Event → Type 0
KeepsRealTime S H = (t u : ℕ) → IsTrue (committed H t) → IsTrue (committed H u) → done_at H t < began_at H u → StandsBefore (serial_order S H) t u

-- this holds if the root orders by commits, is a leaf, or admits one transaction a batch
abbrev pub IsStrict : Setup → List Event → Type 0
IsStrict S H = IsTrue (keeps_time S) → KeepsRealTime S H

-- the transactions in the order of their commits
abbrev pub commit_order : List Event → List ℕ
commit_order [] = []
commit_order (Done t ∷ P) = commit_order P ++ t.0 ∷ []
commit_order (_ ∷ P) = commit_order P

-- the serial order is the order of the commits
abbrev pub FollowsCommits : Setup → List Event → Type 0
FollowsCommits S H = serial_order S H ≡ commit_order H

-- this holds if the root is a locks or a pipeline node, whatever is below it
abbrev pub IsCommitOrdered : Setup → List Event → Type 0
IsCommitOrdered S H = IsTrue (orders_by_commits S) → FollowsCommits S H
