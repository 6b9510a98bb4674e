-- Rows without a fault, with the paths of their parts, are a tree.
use Rattle.std.proofs.Common.{◌≡◌, ℕ, ◌<◌, ◌≤◌, true, eqb, List, [], ◌∷◌, length, get_or, map, None, sym, ◌∙◌, ap, subst, inl, inr, suc, arith, eqb-true}
use Rattle.std.specs.List.{All}
use Rattle.std.proofs.lemmas.Bool.{or_cases}
use Rattle.std.proofs.lemmas.List.{get_or-map, length-map}
use Rattle.teb_rules.specs.declared.names.Kind.{Kind}
use Rattle.teb_rules.specs.Accepted.{tree_fault}
use Rattle.teb_rules.specs.Setup.{NodeRow, among}
use Rattle.teb_rules.specs.Tree.{below, no_row, row}
use Rattle.teb_rules.proofs.lemmas.laws.Sound.{tree_facts}
use Rattle.store_setup.specs.declared.tree.rows.NodeRow.{NodeRow as Row}
use Rattle.store_setup.specs.declared.tree.tree.Tree.TheInside.{Inside}
use Rattle.store_setup.specs.tree.Grown.{Grown, kind_numbers, row_of, rows_of}
use Rattle.store_setup.specs.tree.Homes.{part_lists, part_paths, spot_of}
use Rattle.store_setup.specs.tree.Sound.{IsAccepted}
use Rattle.store_setup.specs.tree.Stored.{IsStored, grown, path_among, paths_of}
use Rattle.store_setup.proofs.lemmas.tree.Facts.{setup_of_tree, sound_of}
use Rattle.store_setup.proofs.lemmas.tree.Parts.{get_map, length_below, path_of_part}

among_under : (ks : List Kind) (types k : ℕ) → All (λ j. j.0 < types) ks → among k (kind_numbers ks) ≡ true → k < types
among_under [] types k h i = absurd (cc)
among_under (j ∷ js) types k h i = elim (or_cases (eqb j.0 k) (among k (kind_numbers js)) i) [
  | inl e ↦ (let q = eqb-true j.0 k e in let z = h 0 j (omega arith) in omega arith)
  | inr e ↦ among_under js types k (λ m d l. h (suc m) d (omega arith)) e
]

-- the conditions on the stored rows
pub record Asked (rs : List Row) (types : ℕ) : Type 0 where
  pub some : 0 < length rs
  pub few : length rs ≤ 64
  pub few_types : types < 256
  pub kinds : All (λ r. All (λ k. k.0 < types) r.types.items) rs
  pub batches : All (λ r. (1 ≤ r.batch) × (r.batch ≤ 1024)) rs
  pub parts : All (λ r. (1 ≤ r.of) × (r.of ≤ 16) × (r.part < r.of)) rs

-- a property of each stored row holds for each row of the tree
each_row : (P : NodeRow → Type 0) (rs : List Row) → All (λ r. P (row_of r)) rs → (n : ℕ) → n < length (rows_of rs) → P (row (rows_of rs) n)
each_row P [] h n l = absurd (omega arith)
each_row P (r ∷ rs) h n l =
    let m : n < length (r ∷ rs) = omega (arith, length-map (r ∷ rs) row_of) in
    subst P (sym (get_or-map row_of (r ∷ rs) n r no_row m)) (h n r m)

-- rows that meet these conditions and have no fault are accepted
pub accepted_rows : (rs : List Row) (types : ℕ) → Asked rs types → tree_fault (rows_of rs) types ≡ None → IsAccepted (record { rows = rows_of rs; types = types })
accepted_rows rs types a e =
    let T : Grown = record { rows = rows_of rs; types = types } in
    let n : length (rows_of rs) ≡ length rs = length-map rs row_of in
    let z = a.some in
    let y = a.few in
    let p : (m : ℕ) → m < length (rows_of rs) → (row (rows_of rs) m).part < (row (rows_of rs) m).parts = each_row (λ r. r.part < r.parts) rs (λ k d l. (a.parts k d l).2) in
    let s = sound_of T (omega arith) p e in
    record {
      some = omega arith;
      few = omega arith;
      few_types = a.few_types;
      faultless = e;
      parts = p;
      batches = each_row (λ r. (1 ≤ r.batch) × (r.batch ≤ 1024)) rs a.batches;
      parents = (tree_facts (setup_of_tree T) s).parents;
      kinds = λ m k l i. each_row (λ r. among k r.types ≡ true → k < types) rs (λ j d h. among_under (get_or rs j d).types.items types k (a.kinds j d h)) m l i;
    }

-- the stored paths are those of the parts of each type
pub stored_tree : (t : Inside) → IsAccepted (grown t) → paths_of t ≡ map (λ k. part_paths (rows_of t.rows.items) k) (below (length t.paths.items)) → IsStored t
stored_tree t a e =
    let f : ℕ → List (List ℕ) = λ k. part_paths (rows_of t.rows.items) k in
    let n : length (paths_of t) ≡ length t.paths.items = length-map t.paths.items part_lists in
    let at : (k : ℕ) → k < length (paths_of t) → get_or (paths_of t) k [] ≡ f k = (λ k h. ap (λ (z : List (List (List ℕ))). get_or z k []) e ∙ get_map f (length t.paths.items) k [] (omega arith)) in
    record {
      accepted = a;
      some = λ k h. subst (λ (z : List (List ℕ)). 0 < length z) (sym (at k h)) (path_of_part (grown t) a (spot_of k 0) (omega arith)).0;
      right = λ s h. ap (λ (z : List (List ℕ)). path_among z s) (at s.kind.0 h) ∙ (path_of_part (grown t) a s (omega arith)).1;
    }

-- there is one list of paths for each type
pub count_types : (t : Inside) (types : ℕ) → paths_of t ≡ map (λ k. part_paths (rows_of t.rows.items) k) (below types) → length t.paths.items ≡ types
count_types t types e = sym (length-map t.paths.items part_lists) ∙ ap length e ∙ length-map (below types) (λ k. part_paths (rows_of t.rows.items) k) ∙ length_below types
