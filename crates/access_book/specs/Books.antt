-- What contracts see of a book of accesses.
use Rattle.std.specs.Prelude.{◌≡◌, ℕ, zero, suc, Bool, eqb, List, [], ◌∷◌, MatchOption, Option}
use Rattle.std.specs.List.{list_any}
use Rattle.teb_rules.specs.declared.names.Cell.{Cell}
use Rattle.teb_rules.specs.declared.names.Txn.{Txn}
use Rattle.teb_rules.specs.history.Ascending.{IsAscendingBy}
use Rattle.teb_rules.specs.history.Live.{number_of}
use Rattle.cell_index.specs.Lists.{list_for}
use Rattle.arena_multimap.specs.NumberedLists.{list_in}
use Rattle.access_book.specs.declared.accesses.Access.{Access}
use Rattle.access_book.specs.declared.accesses.Access.TheVariants as access
use Rattle.access_book.specs.Touched.{Touched, Reads, Puts}

-- the cells, and for each of them in that order the transactions that accessed it; what each transaction accessed, in the order in which
-- they began and the newest first; how many have begun, how many Puts may still be committed, and for how many events there is room
pub record Shown : Type 0 where
  pub cells : List Cell
  pub readers : List (List Txn)
  pub writers : List (List Txn)
  pub committed : List (List Txn)
  pub touched : List (List Touched)
  pub begun : ℕ
  pub pending : ℕ
  pub spare : ℕ

-- the list of x, of lists in the order of the cells
unfoldable pub list_of : List Cell → List (List Txn) → Cell → List Txn
list_of cells lists x = list_for cells lists x

abbrev pub readers_of : Shown → Cell → List Txn
readers_of b = list_of b.cells b.readers

abbrev pub writers_of : Shown → Cell → List Txn
writers_of b = list_of b.cells b.writers

abbrev pub committed_of : Shown → Cell → List Txn
committed_of b = list_of b.cells b.committed

-- the list of the transaction of a number: lists are numbered from 0, and transactions from 1
unfoldable pub list_by : List (List Touched) → ℕ → List Touched
list_by lists zero = []
list_by lists (suc i) = list_in lists i

abbrev pub touched_of : Shown → ℕ → List Touched
touched_of b = list_by b.touched

-- u is one of the transactions
abbrev pub is_among : ℕ → List Txn → Bool
is_among u ts = list_any (λ t. eqb t.0 u) ts

-- u is among the accessors of x
abbrev pub is_accessor : (Cell → List Txn) → Cell → ℕ → Bool
is_accessor f x u = is_among u (f x)

-- the accessors of each cell ascend
pub record AreFiled (b : Shown) : Type 0 where
  pub readers : (x : Cell) → IsAscendingBy number_of (readers_of b x)
  pub writers : (x : Cell) → IsAscendingBy number_of (writers_of b x)
  pub committed : (x : Cell) → IsAscendingBy number_of (committed_of b x)

-- no cell was accessed, and no transaction has begun
pub record IsEmpty (b : Shown) : Type 0 where
  pub readers : (x : Cell) → readers_of b x ≡ []
  pub writers : (x : Cell) → writers_of b x ≡ []
  pub committed : (x : Cell) → committed_of b x ≡ []
  pub touched : (u : ℕ) → touched_of b u ≡ []
  pub begun : b.begun ≡ 0
  pub pending : b.pending ≡ 0

-- the accessors of one kind are unchanged
abbrev pub AreKept : (a b : Cell → List Txn) → Type 0
AreKept a b = (x : Cell) → b x ≡ a x

-- all but the room is unchanged
pub record IsKept (a b : Shown) : Type 0 where
  pub readers : AreKept (readers_of a) (readers_of b)
  pub writers : AreKept (writers_of a) (writers_of b)
  pub committed : AreKept (committed_of a) (committed_of b)
  pub touched : (u : ℕ) → touched_of b u ≡ touched_of a u
  pub begun : b.begun ≡ a.begun
  pub pending : b.pending ≡ a.pending

-- an access shows z, with the transactions that accessed its cell in the other way
abbrev pub IsAccess : Shown → Access → Touched → Type 0
IsAccess b (access.Read writers) (Reads x) = writers.now ≡ writers_of b x
IsAccess b (access.Put readers) (Puts x) = readers.now ≡ readers_of b x
IsAccess b _ _ = ⊥

-- the remaining accesses of a walk, and the book
pub record Walk : Type 0 where
  pub book : Shown
  pub left : List Touched

-- a step of a walk
abbrev pub Steps : Walk → Option Access → Walk → Type 0
Steps s r t = (t.book ≡ s.book) × MatchOption r ((s.left ≡ []) × (t.left ≡ [])) (λ a. (z : Touched) × (s.left ≡ z ∷ t.left) × IsAccess s.book a z)
