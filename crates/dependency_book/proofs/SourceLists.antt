-- The lists of sources by transaction.
use Rattle.std.proofs.Common.{◌≡◌, ℕ, zero, suc, ◌-◌, ◌<◌, List, [], ◌∷◌, ◌++◌, set, refl, ap, arith}
use Rattle.teb_rules.specs.declared.names.Txn.{Txn}
use Rattle.teb_rules.specs.history.Ascending.{IsAscendingBy}
use Rattle.teb_rules.specs.history.Live.{number_of}
use Rattle.arena_multimap.specs.NumberedLists.{list_in}
use Rattle.dependency_book.specs.Books.{list_of, SourcesAscend}

-- the list at index n - 1 is that of transaction n, if n is not 0
pub list_before : (ls : List (List Txn)) (n : ℕ) → 0 < n → list_in ls (n - 1) ≡ list_of ls n
list_before ls zero p = absurd (omega arith)
list_before ls (suc i) p = ap (list_in ls) (let e : suc i - 1 ≡ i = omega arith in e)

pub no_lists : (n : ℕ) → list_of [] n ≡ []
no_lists zero = refl
no_lists (suc i) = refl

-- an empty list is added at the end
pub one_more : (ls : List (List Txn)) (n : ℕ) → list_of (ls ++ [] ∷ []) n ≡ list_of ls n
one_more ls zero = refl
one_more ls (suc i) = go ls i
  where
    go : (ls : List (List Txn)) (i : ℕ) → list_in (ls ++ [] ∷ []) i ≡ list_in ls i
    go [] zero = refl
    go [] (suc i) = refl
    go (l ∷ ls) zero = refl
    go (l ∷ ls) (suc i) = go ls i

-- ascending lists still ascend if one of them is replaced by an ascending one
pub set_ascends : (ls : List (List Txn)) (i : ℕ) (L : List Txn) → SourcesAscend ls → IsAscendingBy number_of L → SourcesAscend (set ls i L)
set_ascends ls i L a l t = go ls i (λ k. a (record { 0 = suc k })) t.0
  where
    inner : (ls : List (List Txn)) (i : ℕ) → ((k : ℕ) → IsAscendingBy number_of (list_in ls k)) → (k : ℕ) → IsAscendingBy number_of (list_in (set ls i L) k)
    inner [] i a k = a k
    inner (x ∷ xs) zero a zero = l
    inner (x ∷ xs) zero a (suc k) = a (suc k)
    inner (x ∷ xs) (suc i) a zero = a zero
    inner (x ∷ xs) (suc i) a (suc k) = inner xs i (λ k. a (suc k)) k

    go : (ls : List (List Txn)) (i : ℕ) → ((k : ℕ) → IsAscendingBy number_of (list_in ls k)) → (n : ℕ) → IsAscendingBy number_of (list_of (set ls i L) n)
    go ls i a zero = tt
    go ls i a (suc k) = inner ls i a k
