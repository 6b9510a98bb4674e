-- The first commits of a history, and the table that they leave.
use Rattle.std.specs.Prelude.{ℕ, zero, suc, cond, leb, ◌&&◌, List, [], ◌∷◌, filter}
use Rattle.teb_rules.specs.declared.history.Event.{Event}
use Rattle.teb_rules.specs.declared.history.Event.TheVariants.{Put, Done}
use Rattle.teb_rules.specs.history.Phases.{txns, committed}
use Rattle.teb_rules.specs.history.Accesses.{wrote}
use Rattle.teb_rules.specs.Setup.{Store}
use Rattle.teb_rules.specs.Versions.{latest}
use Rattle.teb_rules.specs.Replay.{Values}
use Rattle.teb_rules.specs.Serializes.{value_of}

-- how many commits there are
unfoldable pub commit_count : List Event → ℕ
commit_count [] = zero
commit_count (Done t ∷ P) = suc (commit_count P)
commit_count (_ ∷ P) = commit_count P

-- how many puts there are
unfoldable pub put_count : List Event → ℕ
put_count [] = zero
put_count (Put t x v ∷ P) = suc (put_count P)
put_count (_ ∷ P) = put_count P

-- the history up to its k-th commit, that one included
unfoldable pub up_to_commit : ℕ → List Event → List Event
up_to_commit k [] = []
up_to_commit k (Done t ∷ P) = let r = up_to_commit k P in cond (leb k (commit_count P)) r (Done t ∷ P)
up_to_commit k (_ ∷ P) = up_to_commit k P

-- the final table where only the first k commits count
unfoldable pub rows_after : Store → List Event → ℕ → Values
rows_after X H k x = value_of X H x (latest X.setup H x (filter (λ w. committed (up_to_commit k H) w && wrote H w x) (txns H)))
