-- The leaves of a type: their number, and the number of parts of the type.
use Rattle.std.proofs.Common.{◌≡◌, ℕ, suc, Bool, true, false, cond, ltb, List, [], ◌∷◌, length, map, filter, count_by, Option, Some, None, refl, sym, ◌∙◌, ap, le_refl}
use Rattle.std.specs.List.{find}
use Rattle.std.specs.Option.{option_map}
use Rattle.std.proofs.lemmas.List.{take_all}
use Rattle.std.proofs.lemmas.List.Sums.{length-filter}
use Rattle.teb_rules.specs.Setup.{NodeRow, among}
use Rattle.teb_rules.specs.Tree.{below, row}
use Rattle.teb_rules.specs.Accepted.{are_few, homes, is_homeless}
use Rattle.store_setup.specs.tree.Homes.{parts_of}
use Rattle.store_setup.proofs.lemmas.tree.Below.{rows_below}

-- there are fewer rows than parts of the first row
abbrev few_rows : List NodeRow → Bool
few_rows [] = true
few_rows (r ∷ rs) = ltb (suc (length rs)) r.parts

abbrev few_by : Option ℕ → ℕ → Bool
few_by None n = true
few_by (Some p) n = ltb n p

few_map : (T : List NodeRow) (ns : List ℕ) → are_few T ns ≡ few_rows (map (row T) ns)
few_map T [] = refl
few_map T (n ∷ ns) = ap (λ (z : ℕ). ltb (suc z) (row T n).parts) (sym (length_map ns))
  where
    length_map : (ns : List ℕ) → length (map (row T) ns) ≡ length ns
    length_map [] = refl
    length_map (n ∷ ns) = ap suc (length_map ns)

filter_rows : (p : NodeRow → Bool) (T : List NodeRow) (ns : List ℕ) → map (row T) (filter (λ n. p (row T n)) ns) ≡ filter p (map (row T) ns)
filter_rows p T [] = refl
filter_rows p T (n ∷ ns) = go (p (row T n)) (filter_rows p T ns)
  where
    go : (b : Bool) → map (row T) (filter (λ n. p (row T n)) ns) ≡ filter p (map (row T) ns) →
        map (row T) (cond b (n ∷ filter (λ n. p (row T n)) ns) (filter (λ n. p (row T n)) ns)) ≡ cond b (row T n ∷ filter p (map (row T) ns)) (filter p (map (row T) ns))
    go true e = ap (λ (z : List NodeRow). row T n ∷ z) e
    go false e = e

few_filter : (p : NodeRow → Bool) (T : List NodeRow) → few_rows (filter p T) ≡ few_by (option_map (λ r. r.parts) (find p T)) (length (filter p T))
few_filter p [] = refl
few_filter p (r ∷ rs) = go (p r) (few_filter p rs)
  where
    go : (b : Bool) → few_rows (filter p rs) ≡ few_by (option_map (λ r. r.parts) (find p rs)) (length (filter p rs)) →
        few_rows (cond b (r ∷ filter p rs) (filter p rs)) ≡ few_by (option_map (λ r. r.parts) (cond b (Some r) (find p rs))) (length (cond b (r ∷ filter p rs) (filter p rs)))
    go true e = refl
    go false e = e

homeless_is : (T : List NodeRow) (k : ℕ) → is_homeless T k ≡ few_by (parts_of k T) (count_by (λ r. among k r.types) T)
unfolding homes
homeless_is T k =
    few_map T (homes T k) ∙ ap few_rows
    (filter_rows (λ r. among k r.types) T (below (length T)) ∙ ap (filter (λ r. among k r.types)) (rows_below T (length T) (le_refl _) ∙ take_all (length T) T (le_refl _))) ∙
    few_filter (λ r. among k r.types) T ∙ ap (few_by (parts_of k T)) (length-filter (λ r. among k r.types) T)

-- a type is homeless if it has no row, or fewer rows than parts
pub homeless_none : (T : List NodeRow) (k : ℕ) → parts_of k T ≡ None → is_homeless T k ≡ true
homeless_none T k e = homeless_is T k ∙ ap (λ (o : Option ℕ). few_by o (count_by (λ r. among k r.types) T)) e

pub homeless_some : (T : List NodeRow) (k p : ℕ) → parts_of k T ≡ Some p → is_homeless T k ≡ ltb (count_by (λ r. among k r.types) T) p
homeless_some T k p e = homeless_is T k ∙ ap (λ (o : Option ℕ). few_by o (count_by (λ r. among k r.types) T)) e
