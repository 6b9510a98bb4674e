-- What a book of batches shows, and what a join and a finish make of it.
use Rattle.std.specs.Prelude.{◌<◌, ℕ, suc, Bool, cond, not, false, eqb, leb, ltb, List, [], ◌∷◌, ◌++◌, map, filter, Option, Some, None}
use Rattle.std.specs.List.{list_any}

-- a transaction that has joined: its side, and the start and the close of its batch; None while the batch is open
pub record Row : Type 0 where
  pub txn : ℕ
  pub side : ℕ
  pub start : ℕ
  pub close : Option ℕ

-- an unfinished one, with how many its batch has admitted
pub record Running : Type 0 where
  pub txn : ℕ
  pub side : ℕ
  pub start : ℕ
  pub admitted : ℕ

-- the size of a batch, all that have joined and the unfinished ones, each ascending, and how many more may join without memory
pub record Book : Type 0 where
  pub size : ℕ
  pub rows : List Row
  pub running : List Running
  pub spare : ℕ

-- some transaction on side s is unfinished
abbrev pub is_busy : List Running → ℕ → Bool
is_busy rs s = list_any (λ r. eqb r.side s) rs

-- the start of the open batch of side s, or `at` if there is none; how many it has admitted
abbrev pub start_on : List Running → ℕ → ℕ → ℕ
start_on [] s at = at
start_on (r ∷ rs) s at = let i = start_on rs s at in cond (eqb r.side s) r.start i

abbrev pub admitted_on : List Running → ℕ → ℕ
admitted_on [] s = 0
admitted_on (r ∷ rs) s = let i = admitted_on rs s in cond (eqb r.side s) r.admitted i

-- t joins side s at position `at`
abbrev pub admit : ℕ → Running → Running
admit s r = record { txn = r.txn; side = r.side; start = r.start; admitted = cond (eqb r.side s) (suc r.admitted) r.admitted }

abbrev pub rows_joined : List Running → List Row → ℕ → ℕ → ℕ → List Row
rows_joined rs rows s t at = rows ++ record { txn = t; side = s; start = start_on rs s at; close = None } ∷ []

abbrev pub running_joined : List Running → ℕ → ℕ → ℕ → List Running
running_joined rs s t at = map (admit s) rs ++ record { txn = t; side = s; start = start_on rs s at; admitted = suc (admitted_on rs s) } ∷ []

-- t finishes at position `at`: the open batch of its side closes if t was the last unfinished one there
abbrev pub running_finished : List Running → ℕ → List Running
running_finished rs t = filter (λ r. not (eqb r.txn t)) rs

abbrev pub closed_at : Bool → ℕ → Option ℕ → Option ℕ
closed_at idle at (Some c) = Some c
closed_at idle at None = cond idle (Some at) None

abbrev pub row_finished : List Running → ℕ → Row → Row
row_finished left at r = record { txn = r.txn; side = r.side; start = r.start; close = closed_at (not (is_busy left r.side)) at r.close }

abbrev pub rows_finished : List Running → List Row → ℕ → ℕ → List Row
rows_finished rs rows t at = map (row_finished (running_finished rs t) at) rows

-- the least unfinished transaction of side s, if its batch has admitted `size`
abbrev pub full_on : ℕ → ℕ → List Running → Option ℕ
full_on size s [] = None
full_on size s (r ∷ rs) = let o = full_on size s rs in cond (eqb r.side s) (cond (leb size r.admitted) (Some r.txn) None) o

-- keys below n
abbrev pub AllBelow : {A : Type 0} → (A → ℕ) → ℕ → List A → Type 0
AllBelow key n [] = Unit {0}
AllBelow key n (x ∷ xs) = (key x < n) × AllBelow key n xs

-- t has joined
abbrev pub has_joined : Book → ℕ → Bool
has_joined b t = list_any (λ r. eqb r.txn t) b.rows

-- each of them has a number below t
pub record IsNew (b : Book) (t : ℕ) : Type 0 where
  pub rows : AllBelow (λ (r : Row). r.txn) t b.rows
  pub running : AllBelow (λ (r : Running). r.txn) t b.running

-- it closed, before position i
abbrev pub closes_before : Option ℕ → ℕ → Bool
closes_before None i = false
closes_before (Some c) i = ltb c i
