-- The lists of an arena, in order, and the effect of an edit of one of them.
use Rattle.std.proofs.Common.{◌≡◌, ℕ, ◌+◌, ◌<◌, Bool, cond, eqb, List, [], ◌∷◌, ◌++◌, length, set, sym, ◌∙◌, ap, inl, inr, arith, length-append}
use Rattle.std.proofs.Math.ListN.{get_or-map, length-set, get_or-append}
use Rattle.std.proofs.lemmas.List.{length-map, get_or-set_other, get_or_push, get_or_default, same_lists}
use Rattle.std.proofs.lemmas.Grind.{get_or-set_at}
use Rattle.std.proofs.lemmas.Bool.{cases_lt}
use Rattle.std.proofs.lemmas.Bool.Decides.{eqb_tells}
use Rattle.arena_multimap.specs.declared.arena.Arena.{Arena}
use Rattle.arena_multimap.specs.Arenas.{list_at, lists, none, values_at}
use Rattle.arena_multimap.specs.NumberedLists.{all_lists, list_in}
use Rattle.arena_multimap.proofs.Segments.{no_list}

module _ {V : Type 0} where
  -- list i is element i of all lists
  pub one_of_all : (a : Arena V) (i : ℕ) → list_in (all_lists a) i ≡ list_at a i
  one_of_all a i = get_or-map (values_at a.values.items) a.segments.items i none

  pub length-all_lists : (a : Arena V) → length (all_lists a) ≡ lists a
  length-all_lists a = length-map a.segments.items (values_at a.values.items)

  -- all lists, compared one by one
  same_all : (a : Arena V) (ls : List (List V)) → length ls ≡ lists a → ((k : ℕ) → k < lists a → list_at a k ≡ list_in ls k) → all_lists a ≡ ls
  same_all a ls count each =
      let n = length-all_lists a in
      same_lists (all_lists a) ls (n ∙ sym count)
      (λ k d lt. get_or_default (all_lists a) k d [] lt ∙ one_of_all a k ∙ each k (omega (arith, lt, n)) ∙ get_or_default ls k [] d (omega (arith, lt, n, count)))

  module _ (a a' : Arena V) where
    -- every list is unchanged
    pub kept_all : lists a' ≡ lists a → ((j : ℕ) → list_at a' j ≡ list_at a j) → all_lists a' ≡ all_lists a
    kept_all count kept = same_all a' (all_lists a) (length-all_lists a ∙ sym count) (λ k lt. kept k ∙ sym (one_of_all a k))

    -- an empty list is appended
    pub begun_all : lists a' ≡ lists a + 1 → ((j : ℕ) → list_at a' j ≡ list_at a j) → all_lists a' ≡ all_lists a ++ [] ∷ []
    begun_all count kept =
        let n = length-all_lists a in
        let m = length-append (all_lists a) ([] ∷ []) in
        same_all a' (all_lists a ++ [] ∷ []) (omega (arith, n, m, count))
        (λ k lt. kept k ∙ elim (cases_lt k (lists a)) [
          | inl l ↦ sym (one_of_all a k) ∙ sym (get_or-append (all_lists a) ([] ∷ []) [] k (omega (arith, l, n)))
          | inr ge ↦ no_list a k ge ∙ sym (get_or_push (all_lists a) [] [] k (omega (arith, ge, lt, count, n)))
        ])

    -- list i is replaced by L
    pub edited_all : (i : ℕ) (L : List V) → lists a' ≡ lists a → ((j : ℕ) → list_at a' j ≡ cond (eqb j i) L (list_at a j)) → all_lists a' ≡ set (all_lists a) i L
    edited_all i L count edit =
        let n = length-all_lists a in
        same_all a' (set (all_lists a) i L) (length-set (all_lists a) i L ∙ n ∙ sym count)
        (λ k lt. edit k ∙ elim (eqb_tells k i) [
          | inl p ↦ ap (λ (b : Bool). cond b L (list_at a k)) p.0 ∙ sym (get_or-set_at (all_lists a) i k L [] p.1 (omega (arith, lt, p.1, n, count)))
          | inr p ↦ ap (λ (b : Bool). cond b L (list_at a k)) p.0 ∙ sym (one_of_all a k) ∙ sym (get_or-set_other (all_lists a) i k L [] p.1)
        ])
