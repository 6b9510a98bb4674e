-- The lists of cells after a value is pushed to one of them or removed from it.
use Rattle.std.proofs.Common.{◌≡◌, ℕ, Bool, cond, List, [], ◌∷◌, ◌++◌, length, set, remove, Some, inl, inr, sym, ◌∙◌, ap, subst, arith}
use Rattle.std.proofs.lemmas.Bool.{cases_lt}
use Rattle.std.proofs.lemmas.List.{get_or_past}
use Rattle.teb_rules.specs.declared.names.Cell.{Cell}
use Rattle.teb_rules.specs.names.Cells.{same_cell}
use Rattle.cell_index.specs.Cells.{place_in, with_cell, with_place}
use Rattle.cell_index.specs.Lists.{list_for}
use Rattle.cell_index.proofs.ListEdits.{at_cell, list_edited, placed_list, placed_edited}
use Rattle.sorted_multimap.specs.LastMatches.{IsLastPlace, without_last}
use Rattle.sorted_multimap.proofs.TakenMatches.{last_there}
use Rattle.arena_multimap.specs.NumberedLists.{list_in}

module _ {V : Type 0} (cells : List Cell) (lists : List (List V)) (c : Cell) (paired : length lists ≡ length cells) where
  -- c is added, and v is pushed to its list
  pub pushed : (cells' : List Cell) (lists1 lists' : List (List V)) (p : ℕ) (v : V) → cells' ≡ with_cell cells c → lists1 ≡ with_place cells c lists → p ≡ place_in cells c
      → lists' ≡ set lists1 p (list_in lists1 p ++ v ∷ [])
      → (x : Cell) → list_for cells' lists' x ≡ cond (same_cell c x) (list_for cells lists x ++ v ∷ []) (list_for cells lists x)
  pushed cells' lists1 lists' p v e f here push x =
      placed_edited cells lists c paired cells' lists1 e f p here lists' _ push x
      ∙ ap (λ (l : List V). cond (same_cell c x) (l ++ v ∷ []) (list_for cells lists x)) (placed_list cells lists c paired cells' lists1 e f p here)
      ∙ at_cell (list_for cells lists) (λ l. l ++ v ∷ []) c x

  -- the last value that passes is removed from the list of c
  pub taken : (q : V → Bool) (lists' : List (List V)) (p i : ℕ) → p ≡ place_in cells c → IsLastPlace q (list_in lists p) (Some i) → lists' ≡ set lists p (remove (list_in lists p) i)
      → (x : Cell) → list_for cells lists' x ≡ cond (same_cell c x) (without_last q (list_for cells lists x)) (list_for cells lists x)
  taken q lists' p i here last take x = elim (cases_lt p (length lists)) [
    | inl lt ↦
        let own = subst (λ (m : ℕ). IsLastPlace q (list_in lists m) (Some i)) here last in
        list_edited cells lists lists' c p _ paired here lt take x
        ∙ ap (λ (l : List V). cond (same_cell c x) l (list_for cells lists x)) (ap (λ (m : ℕ). remove (list_in lists m) i) here ∙ sym (last_there q (list_for cells lists c) i own))
        ∙ at_cell (list_for cells lists) (without_last q) c x
    | inr ge ↦ let n = ap length (get_or_past lists p [] ge) in absurd (omega (arith, last.0, n))
  ]
