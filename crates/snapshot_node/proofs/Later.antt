-- The transactions of an ascending list that are numbered from a number on.
use Rattle.std.proofs.Common.{◌≡◌, ℕ, zero, suc, ◌-◌, ◌<◌, ◌≤◌, Bool, true, false, cond, not, ◌&&◌, ltb, leb, eqb, eq-eqb, lt-ltb}
use Rattle.std.proofs.Common.{le-ltb, List, [], ◌∷◌, length, drop, filter, find, get_or, Some, refl, sym, ◌∙◌, ap, inl, inr, arith}
use Rattle.std.specs.List.Sorted.{IsNonDecreasingBy, IsPartitionPoint}
use Rattle.std.proofs.lemmas.Bool.{and_parts, both_ways, or_left, or_right, cases_lt}
use Rattle.std.proofs.lemmas.Bool.Decides.{nat_tests}
use Rattle.std.proofs.lemmas.List.{get_or_default}
use Rattle.teb_rules.specs.declared.names.Cell.{Cell}
use Rattle.teb_rules.specs.declared.names.Txn.{Txn}
use Rattle.teb_rules.specs.declared.history.Event.{Event}
use Rattle.teb_rules.specs.history.Phases.{begun, committed, unfinished}
use Rattle.teb_rules.specs.history.Ascending.{AllAbove, IsAscendingBy}
use Rattle.teb_rules.specs.history.Live.{number_of}
use Rattle.teb_rules.specs.Setup.{Setup}
use Rattle.teb_rules.specs.Tree.{meets}
use Rattle.teb_rules.specs.Batches.{start, close}
use Rattle.phase_api.specs.declared.facts.Facts.{Facts}
use Rattle.phase_api.specs.FactsView.{IsOrderly, setup_of, events_of}
use Rattle.batch_book.specs.Histories.{IsNumbered, ClosedBelow}
use Rattle.batch_book.proofs.Closings.{still_open, unfinished_open}
use Rattle.access_book.specs.Books.{is_among}
use Rattle.snapshot_node.specs.Asking.{comes_first, is_met}
use Rattle.snapshot_node.specs.Standing.{writers_in}
use Rattle.snapshot_node.proofs.Listed.{puts_parts, among_writers}

above_at : (n : ℕ) (xs : List Txn) → AllAbove number_of n xs → (i : ℕ) (d : Txn) → i < length xs → n < number_of (get_or xs i d)
above_at n [] h i d l = absurd (omega arith)
above_at n (x ∷ xs) h zero d l = h.0
above_at n (x ∷ xs) h (suc i) d l = above_at n xs h.1 i d (omega arith)

pub numbers_rise : (xs : List Txn) → IsAscendingBy number_of xs → IsNonDecreasingBy number_of xs
numbers_rise [] h i j d le l = absurd (omega arith)
numbers_rise (x ∷ xs) h zero zero d le l = omega arith
numbers_rise (x ∷ xs) h zero (suc j) d le l = let above = above_at x.0 xs h.0 j d (omega arith) in omega arith
numbers_rise (x ∷ xs) h (suc i) zero d le l = absurd (omega arith)
numbers_rise (x ∷ xs) h (suc i) (suc j) d le l = numbers_rise xs h.1 i j d (omega arith) (omega arith)

leb_ltb : (t n : ℕ) (b : Bool) → ltb n t ≡ b → leb t n ≡ not b
leb_ltb t n true h = grind (arith, nat_tests)
leb_ltb t n false h = grind (arith, nat_tests)

-- the members from the boundary on are those numbered t or above
module _ (t : ℕ) where
  all_from : (xs : List Txn) → ((i : ℕ) (d : Txn) → i < length xs → ltb (get_or xs i d).0 t ≡ false) → xs ≡ filter (λ u. leb t u.0) xs
  all_from [] h = refl
  all_from (x ∷ xs) h = rw (leb_ltb t x.0 false (h zero x (omega arith))) (ap (λ (ys : List Txn). x ∷ ys) (all_from xs (λ i d l. h (suc i) d (omega arith))))

  pub part_from : (xs : List Txn) (k : ℕ) → k ≤ length xs → IsPartitionPoint (λ u. ltb u.0 t ≡ true) (λ u. ltb u.0 t ≡ false) xs k → drop k xs ≡ filter (λ u. leb t u.0) xs
  part_from [] zero l h = refl
  part_from [] (suc k) l h = absurd (omega arith)
  part_from (x ∷ xs) zero l h = all_from (x ∷ xs) (λ i d m. h.1 i d (omega arith) m)
  part_from (x ∷ xs) (suc k) l h =
      rw (leb_ltb t x.0 true (h.0 zero x (omega arith) (omega arith)))
      (part_from xs k (omega arith) (λ i d a b. h.0 (suc i) d (omega arith) (omega arith), λ i d a b. h.1 (suc i) d (omega arith) (omega arith)))

-- if the member before place k is numbered below t and the one at k is not, those from t on start at k
pub parts_at : (t : ℕ) (xs : List Txn) (k : ℕ) (e : Txn) → IsAscendingBy number_of xs → 0 < k → k ≤ length xs → (get_or xs (k - 1) e).0 < t → (k < length xs → t ≤ (get_or xs k e).0)
    → drop k xs ≡ filter (λ u. leb t u.0) xs
parts_at t xs k e a p l below from = part_from t xs k l (λ i d s m. lt-ltb _ _ (before i d m), λ i d s m. le-ltb _ _ (behind i d s m))
  where
    before : (i : ℕ) (d : Txn) → i < k → (get_or xs i d).0 < t
    before i d m =
        let r = numbers_rise xs a i (k - 1) d (omega arith) (omega arith) in
        let q = ap number_of (get_or_default xs (k - 1) d e (omega arith)) in
        omega (arith, below, q, r)

    behind : (i : ℕ) (d : Txn) → k ≤ i → i < length xs → t ≤ (get_or xs i d).0
    behind i d s m =
        let r = numbers_rise xs a k i d s m in
        let q = ap number_of (get_or_default xs k d e (omega arith)) in
        let b = from (omega arith) in
        omega (arith, b, q, r)

-- a search in the filtered list finds the same, if every transaction that it can find passes the filter
pub find_kept : (p r : Txn → Bool) (xs : List Txn) → ((x : Txn) → is_among x.0 xs ≡ true → p x ≡ true → r x ≡ true) → find p (filter r xs) ≡ find p xs
find_kept p r [] h = refl
find_kept p r (x ∷ xs) h = go (r x) refl (p x) refl (find_kept p r xs (λ y i. h y (or_right (eqb x.0 y.0) _ i)))
  where
    go : (b : Bool) → r x ≡ b → (c : Bool) → p x ≡ c → find p (filter r xs) ≡ find p xs → find p (cond b (x ∷ filter r xs) (filter r xs)) ≡ cond c (Some x) (find p xs)
    go true e true f ih = rw f refl
    go true e false f ih = rw f ih
    go false e true f ih = absurd (both_ways _ e (h x (or_left (eqb x.0 x.0) _ (eq-eqb x.0 x.0 refl)) f))
    go false e false f ih = ih

-- a writer whose batch is not closed before t's starts is numbered from t's horizon m on
module _ (S : Setup) (H : List Event) (n m : ℕ) (x : Cell) (o : IsOrderly S H) (t : ℕ) (below : ClosedBelow S H n t m) (u : Txn) (a : is_among u.0 (writers_in S H n x) ≡ true) where
  late : not (ltb (close S H n u.0) (start S H n t)) ≡ true → leb m u.0 ≡ true
  late h = elim (cases_lt u.0 m) [
    | inl l ↦ (let p = puts_parts S H n x u.0 (sym (among_writers S H n x u.0 o) ∙ a) in
        let c = lt-ltb _ _ (below u.0 l (o.wrote u.0 x p.2) p.0) in
        absurd (both_ways _ (ap not c) h))
    | inr l ↦ leb_ltb m u.0 false (le-ltb _ _ l)
  ]

  -- a writer that comes first is numbered from m on
  first_late : comes_first S H n t u ≡ true → leb m u.0 ≡ true
  first_late h = late (and_parts (committed H u.0) (not (ltb (close S H n u.0) (start S H n t))) (and_parts (committed H u.0 && not (ltb (close S H n u.0) (start S H n t))) (meets S H n t u.0) h).0).1

  -- so is an unfinished writer
  met_late : IsNumbered H → begun H t ≡ true → is_met S H n t u ≡ true → leb m u.0 ≡ true
  met_late k b h =
      let p = puts_parts S H n x u.0 (sym (among_writers S H n x u.0 o) ∙ a) in
      late (ap not (sym (still_open S H n u.0 t (sym (unfinished_open S H n u.0 k (and_parts (unfinished H u.0) (meets S H n t u.0) h).0 p.0)) b)))

-- the writers of a cell that are numbered from t's horizon m on
module _ (f : Facts) (n m : ℕ) (x : Cell) (o : IsOrderly (setup_of f) (events_of f)) (ts : List Txn) (e : ts ≡ filter (λ u. leb m u.0) (writers_in (setup_of f) (events_of f) n x))
    (t : ℕ) (below : ClosedBelow (setup_of f) (events_of f) n t m) where
  found_later : (p : Txn → Bool) → ((u : Txn) → is_among u.0 (writers_in (setup_of f) (events_of f) n x) ≡ true → p u ≡ true → leb m u.0 ≡ true)
      → find p ts ≡ find p (writers_in (setup_of f) (events_of f) n x)
  found_later p only = ap (λ (us : List Txn). find p us) e ∙ find_kept p (λ u. leb m u.0) (writers_in (setup_of f) (events_of f) n x) only

  -- the first of them that comes first is the first of all writers
  pub first_later : find (comes_first (setup_of f) (events_of f) n t) ts ≡ find (comes_first (setup_of f) (events_of f) n t) (writers_in (setup_of f) (events_of f) n x)
  first_later = found_later (comes_first (setup_of f) (events_of f) n t) (first_late (setup_of f) (events_of f) n m x o t below)

  -- the first unfinished one of them is the first of all writers
  pub met_later : IsNumbered (events_of f) → begun (events_of f) t ≡ true → find (is_met (setup_of f) (events_of f) n t) ts ≡ find (is_met (setup_of f) (events_of f) n t)
      (writers_in (setup_of f) (events_of f) n x)
  met_later k b = found_later (is_met (setup_of f) (events_of f) n t) (λ u a. met_late (setup_of f) (events_of f) n m x o t below u a k b)
