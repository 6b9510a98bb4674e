-- The holders of a cell at a node, by the history.
use Rattle.std.specs.Prelude.{◌≡◌, ◌<◌, ◌≤◌, ℕ, suc, Bool, false, ◌&&◌, ◌||◌, List, filter, map, IsTrue, IsFalse}
use Rattle.teb_rules.specs.declared.names.Cell.{Cell}
use Rattle.teb_rules.specs.declared.history.Event.{Event}
use Rattle.teb_rules.specs.declared.history.Event.TheVariants.{Began, Got, Put, Ready, Done, Gone, Told}
use Rattle.teb_rules.specs.history.Phases.{txns, begun_count, unfinished}
use Rattle.teb_rules.specs.history.Accesses.{wrote, got}
use Rattle.teb_rules.specs.Setup.{Setup}
use Rattle.teb_rules.specs.Tree.{on}
use Rattle.hold_book.specs.declared.Hold.{Hold}
use Rattle.hold_book.specs.Books.{Held, shown}

-- u, which has n on its path, is unfinished and has accessed x
unfoldable pub holds : Setup → List Event → ℕ → Cell → ℕ → Bool
holds S H n x u = on S H n u && unfinished H u && (wrote H u x || got H u x)

-- its hold says whether it has put x
abbrev pub hold_of : List Event → Cell → ℕ → Hold
hold_of H x u = record { txn = record { 0 = u }; wrote = wrote H u x }

-- those that hold x at n, in ascending number
abbrev pub holds_in : Setup → List Event → ℕ → Cell → List Hold
holds_in S H n x = map (hold_of H x) (filter (holds S H n x) (txns H))

-- the book shows the holds at node n
pub record HoldsOf (b : Held) (S : Setup) (H : List Event) (n : ℕ) : Type 0 where
  pub shows : (x : Cell) → shown b x ≡ holds_in S H n x

-- t may access a cell at n: it has begun, is unfinished, and n is on its path
pub record MayHold (S : Setup) (H : List Event) (n t : ℕ) : Type 0 where
  pub some : 0 < t
  pub begun : t ≤ begun_count H
  pub unfinished : IsTrue (unfinished H t)
  pub on : IsTrue (on S H n t)

-- the event changes no hold at n: it is a Began of a new transaction, or no access and no end, or it is of a transaction off the path
abbrev pub LeavesHolds : Setup → List Event → ℕ → Event → Type 0
LeavesHolds S P n (Began t s k i) = (t.0 ≡ suc (begun_count P)) × ((x : Cell) → (wrote P t.0 x ≡ false) × (got P t.0 x ≡ false))
LeavesHolds S P n (Got t x w v) = IsFalse (on S P n t.0)
LeavesHolds S P n (Put t x v) = IsFalse (on S P n t.0)
LeavesHolds S P n (Ready t) = Unit {0}
LeavesHolds S P n (Done t) = IsFalse (on S P n t.0)
LeavesHolds S P n (Gone t c) = IsFalse (on S P n t.0)
LeavesHolds S P n (Told t) = Unit {0}
