-- The batches of a node in a history, as a book shows them.
use Rattle.std.specs.Prelude.{◌≡◌, ◌<◌, ℕ, suc, cond, ◌&&◌, eqb, leb, List, [], ◌∷◌, map, filter, find, count_by, Option, Some, None, IsTrue, IsFalse}
use Rattle.teb_rules.specs.declared.history.Event.{Event}
use Rattle.teb_rules.specs.declared.history.Event.TheVariants.{Began, Done, Gone}
use Rattle.teb_rules.specs.history.Positions.{came}
use Rattle.teb_rules.specs.history.Phases.{txns, begun, begun_count, unfinished}
use Rattle.teb_rules.specs.Setup.{Setup}
use Rattle.teb_rules.specs.Tree.{on, side, on_path, side_at}
use Rattle.teb_rules.specs.Batches.{start, close}
use Rattle.batch_book.specs.Book.{Row, Running, Book}

-- the event may follow P: a Began has the next number, and only an unfinished transaction finishes
abbrev pub MayCome : List Event → Event → Type 0
MayCome P (Began t s k i) = t.0 ≡ suc (begun_count P)
MayCome P (Done t) = IsTrue (unfinished P t.0)
MayCome P (Gone t c) = IsTrue (unfinished P t.0)
MayCome P _ = Unit {0}

-- transactions are numbered from 1 on as they begin, and each finishes at most once, after its Began
unfoldable pub IsNumbered : List Event → Type 0
IsNumbered [] = Unit {0}
IsNumbered (e ∷ P) = MayCome P e × IsNumbered P

-- the transactions with n on their paths, in ascending number
abbrev pub members : Setup → List Event → ℕ → List ℕ
members S H n = filter (on S H n) (txns H)

-- the close of t's batch, if it has closed
unfoldable pub closing : Setup → List Event → ℕ → ℕ → Option ℕ
closing S H n t = cond (came H (close S H n t)) (Some (close S H n t)) None

-- how many transactions of side s have t's start
unfoldable pub admitted : Setup → List Event → ℕ → ℕ → ℕ → ℕ
admitted S H n s t = count_by (λ u. eqb (start S H n u) (start S H n t)) (filter (λ u. on S H n u && eqb (side S H n u) s) (txns H))

abbrev pub row_of : Setup → List Event → ℕ → ℕ → Row
row_of S H n t = record { txn = t; side = side S H n t; start = start S H n t; close = closing S H n t }

abbrev pub running_of : Setup → List Event → ℕ → ℕ → Running
running_of S H n t = record { txn = t; side = side S H n t; start = start S H n t; admitted = admitted S H n (side S H n t) t }

abbrev pub rows_in : Setup → List Event → ℕ → List Row
rows_in S H n = map (row_of S H n) (members S H n)

abbrev pub running_in : Setup → List Event → ℕ → List Running
running_in S H n = map (running_of S H n) (filter (unfinished H) (members S H n))

-- the book holds the batches of node n in the history
pub record BatchesOf (b : Book) (S : Setup) (H : List Event) (n : ℕ) : Type 0 where
  pub numbered : IsNumbered H
  pub rows : b.rows ≡ rows_in S H n
  pub running : b.running ≡ running_in S H n

-- the least unfinished transaction of side s of n whose batch has admitted `size`
unfoldable pub full_at : Setup → List Event → ℕ → ℕ → ℕ → Option ℕ
full_at S H n s size = find (λ u. leb size (admitted S H n s u)) (filter (unfinished H) (filter (λ u. on S H n u && eqb (side S H n u) s) (txns H)))

-- the event is the Began of t, on side s of n
abbrev pub Joins : Setup → ℕ → ℕ → ℕ → Event → Type 0
Joins S n s t (Began u z k i) = (u.0 ≡ t) × IsTrue (on_path S.tree n (record { kind = k; instance = i })) × (side_at S.tree n (record { kind = k; instance = i }) t ≡ s)
Joins S n s t _ = ⊥

-- the event is the Done or the Gone of t
abbrev pub Finishes : ℕ → Event → Type 0
Finishes t (Done u) = u.0 ≡ t
Finishes t (Gone u c) = u.0 ≡ t
Finishes t _ = ⊥

-- the event does not concern the node: it neither begins nor finishes a transaction with n on its path
abbrev pub Passes : Setup → List Event → ℕ → Event → Type 0
Passes S P n (Began t s k i) = IsFalse (on_path S.tree n (record { kind = k; instance = i }))
Passes S P n (Done t) = IsFalse (on S P n t.0)
Passes S P n (Gone t c) = IsFalse (on S P n t.0)
Passes S P n _ = Unit {0}

-- each member numbered below m was of a batch that closed before t's started
abbrev pub ClosedBelow : Setup → List Event → ℕ → ℕ → ℕ → Type 0
ClosedBelow S H n t m = (u : ℕ) → u < m → IsTrue (begun H u) → IsTrue (on S H n u) → close S H n u < start S H n t
