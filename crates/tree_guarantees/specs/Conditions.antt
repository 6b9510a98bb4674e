-- What an answer on a tree says of the setups and stores that have it.
use Rattle.std.specs.Prelude.{◌≡◌, ℕ, Bool, not, ◌&&◌, ◌||◌, List, length, Some, IsTrue}
use Rattle.std.specs.List.{list_all}
use Rattle.teb_rules.specs.declared.names.Cell.{Cell}
use Rattle.teb_rules.specs.declared.names.Session.{Session}
use Rattle.teb_rules.specs.declared.names.Spot.{Spot}
use Rattle.teb_rules.specs.declared.names.Request.{Request}
use Rattle.teb_rules.specs.declared.names.Request.TheVariants.{Read, Scan}
use Rattle.teb_rules.specs.declared.history.Event.{Event}
use Rattle.teb_rules.specs.history.Phases.{unfinished, held, spot_of}
use Rattle.teb_rules.specs.Setup.{NodeRow, Setup, Store, among}
use Rattle.teb_rules.specs.Tree.{below, has_batches, row, way}
use Rattle.teb_rules.specs.Accepted.{IsSound}
use Rattle.teb_rules.specs.Alone.{is_served}
use Rattle.teb_rules.specs.Answer.{answer}
use Rattle.teb_rules.specs.laws.Laws.{reached}

-- the answer is the condition P of each setup with this tree
abbrev pub IsCondition : (Setup → Bool) → List NodeRow → Bool → Type 0
IsCondition P T answer = (S : Setup) → S.tree ≡ T → answer ≡ P S

-- P holds of each sound store with this tree and the history of every run of it
abbrev pub Guarantees : List NodeRow → (Store → List Event → Type 0) → Type 0
Guarantees T P = (X : Store) → X.setup.tree ≡ T → IsSound X.setup → (asked : List (Session × Request)) → P X (reached X asked)

-- each read and each scan of a running transaction of this type and instance is granted at once, unless it is refused
abbrev pub ServesReads : Spot → Store → List Event → Type 0
ServesReads s X H = (c : Session) (t : ℕ) → held H c.0 ≡ Some t → IsTrue (unfinished H t) → spot_of H t ≡ s → (x : Cell) → IsTrue (is_served (Read x) (answer X H c (Read x)).0)
    × ((n : ℕ) → IsTrue (is_served (Scan x n) (answer X H c (Scan x n)).0))

-- each node on the way to n keeps batches
abbrev pub way_has_batches : List NodeRow → ℕ → Bool
way_has_batches T n = list_all (has_batches T) (way T n)

-- if n is a leaf of type k, so does each node on the way to it
abbrev pub has_batches_for : List NodeRow → ℕ → ℕ → Bool
has_batches_for T k n = not (among k (row T n).types) || way_has_batches T n

-- the root keeps batches, and each node on the way to a leaf of type k
abbrev pub type_has_batches : List NodeRow → ℕ → Bool
type_has_batches T k = way_has_batches T 0 && list_all (has_batches_for T k) (below (length T))

abbrev pub spot : ℕ → ℕ → Spot
spot k i = record { kind = record { 0 = k }; instance = i }
