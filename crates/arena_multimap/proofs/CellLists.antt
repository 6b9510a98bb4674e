-- Lists by cell: the place of a cell's list, and the effect of an edit of one list.
use Rattle.std.proofs.Common.{◌≡◌, ℕ, suc, ◌+◌, ◌<◌, ◌≤◌, max, Bool, true, false, cond, not, eqb, List, [], ◌∷◌, ◌++◌, map, length, refl, sym, ◌∙◌, ap, subst, inl, inr, arith, eqb-true}
use Rattle.std.specs.List.{list_any, IsDistinct, AllByRecursion}
use Rattle.std.specs.Ordering.{is_eq}
use Rattle.std.proofs.lemmas.List.Sums.{prefix_len-le-length}
use Rattle.std.proofs.lemmas.Map.Keys.{IsDistinct-head, IsDistinct-tail}
use Rattle.std.proofs.lemmas.Bool.{cases_lt}
use Rattle.std.proofs.lemmas.Bool.Decides.{eqb_tells}
use Rattle.teb_rules.specs.declared.names.Cell.{Cell}
use Rattle.teb_rules.specs.names.Cells.{same_cell, cell_cmp}
use Rattle.teb_rules.proofs.lemmas.names.CellOrder.{same_cell-cell_cmp}
use Rattle.cell_index.specs.Cells.{Shown as Cells, place_in, with_cell}
use Rattle.teb_rules.proofs.lemmas.names.SameCells.{same_laws}
use Rattle.cell_index.proofs.Places.{decided, place_none, same_place, with_known, with_new, put_place, put_length, put_other, put_distinct}
use Rattle.sorted_multimap.specs.Multimap.{values_of}
use Rattle.arena_multimap.specs.declared.arena.Arena.{Arena}
use Rattle.arena_multimap.specs.Arenas.{list_at, lists, IsArena, HasRoom}
use Rattle.arena_multimap.specs.CellMultimap.{entries_from, AreListed}
use Rattle.arena_multimap.proofs.Segments.{known, no_list}

-- if no cell of a list is x, none is a cell equal to x
apart_too : (x q : Cell) (xs : List Cell) → same_cell q x ≡ true → AllByRecursion (λ y. same_cell x y ≡ false) xs → AllByRecursion (λ y. same_cell q y ≡ false) xs
apart_too x q [] e h = tt
apart_too x q (y ∷ xs) e h = (same_laws.congr q x y e ∙ h.0, apart_too x q xs e h.1)

-- whether two cells are the same, by their comparison
tied : (x q : Cell) (b : Bool) → same_cell q x ≡ b → is_eq (cell_cmp x q) ≡ b
tied x q b e = sym (same_cell-cell_cmp x q) ∙ same_laws.symm x q ∙ e

module _ {V : Type 0} where
  one_cell : (x : Cell) (vs : List V) (es : List (Cell × V)) (q : Cell) (b : Bool) → is_eq (cell_cmp x q) ≡ b → values_of cell_cmp (map (λ v. (x, v)) vs ++ es) q ≡ cond b
      (vs ++ values_of cell_cmp es q) (values_of cell_cmp es q)
  one_cell x [] es q true e = refl
  one_cell x [] es q false e = refl
  one_cell x (v ∷ vs) es q true e = (λ j. cond (e j) (v ∷ one_cell x vs es q true e j) (one_cell x vs es q true e j))
  one_cell x (v ∷ vs) es q false e = (λ j. cond (e j) (v ∷ one_cell x vs es q false e j) (one_cell x vs es q false e j))

  nowhere : (f : ℕ → List V) (n : ℕ) (xs : List Cell) (q : Cell) → AllByRecursion (λ y. same_cell q y ≡ false) xs → values_of cell_cmp (entries_from f n xs) q ≡ []
  nowhere f n [] q h = refl
  nowhere f n (x ∷ xs) q h = one_cell x (f n) (entries_from f (suc n) xs) q false (tied x q false h.0) ∙ nowhere f (suc n) xs q h.1

  no_more : (vs ws : List V) → ws ≡ [] → vs ++ ws ≡ vs
  no_more [] ws e = e
  no_more (v ∷ vs) ws e = ap (λ (us : List V). v ∷ us) (no_more vs ws e)

  -- the values of a cell are those of the list at the cell's place
  found : (f : ℕ → List V) (n : ℕ) (xs : List Cell) (q : Cell) → IsDistinct same_cell xs → f (n + length xs) ≡ [] → values_of cell_cmp (entries_from f n xs) q ≡ f (n + place_in xs q)
  found f n [] q d end = sym end
  found f n (x ∷ xs) q d end = go (same_cell q x) refl (found f (suc n) xs q (IsDistinct-tail same_cell x xs d) (ap f (omega arith) ∙ end))
    where
      go : (b : Bool) → same_cell q x ≡ b → values_of cell_cmp (entries_from f (suc n) xs) q ≡ f (suc n + place_in xs q) → values_of cell_cmp (entries_from f n (x ∷ xs)) q ≡ f
          (n + place_in (x ∷ xs) q)
      go true e ih =
          let z = ap (λ (b : Bool). cond (not b) (1 + place_in xs q) 0) e in
          one_cell x (f n) (entries_from f (suc n) xs) q true (tied x q true e)
          ∙ no_more (f n) _ (nowhere f (suc n) xs q (apart_too x q xs e (IsDistinct-head same_cell x xs d)))
          ∙ ap f (omega (arith, z))
      go false e ih =
          let z = ap (λ (b : Bool). cond (not b) (1 + place_in xs q) 0) e in
          one_cell x (f n) (entries_from f (suc n) xs) q false (tied x q false e) ∙ ih ∙ ap f (omega (arith, z))

  -- the same for an arena with one list for each cell
  lent : (xs : List Cell) (a : Arena V) → IsDistinct same_cell xs → length xs ≡ lists a → (q : Cell) → values_of cell_cmp (entries_from (list_at a) 0 xs) q ≡ list_at a (place_in xs q)
  lent xs a unique paired q = found (list_at a) 0 xs q unique (no_list a (0 + length xs) (omega (arith, paired))) ∙ ap (list_at a) (omega arith)

  -- a list that has values exists
  pub has_list : (a : Arena V) (i at : ℕ) → lists a ≤ i → at < length (list_at a i) → ⊥
  has_list a i at far lt = let l = known a.segments.items a.values.items i at lt in omega (arith, l, far)

  module _ (cells : Cells) (a : Arena V) (n : ℕ) (h : AreListed cells a n) where
    pub shown : (q : Cell) → values_of cell_cmp (entries_from (list_at a) 0 cells.cells) q ≡ list_at a (place_in cells.cells q)
    shown q = lent cells.cells a h.unique h.paired q

    pub place_within : (q : Cell) → place_in cells.cells q ≤ lists a
    place_within q = omega (arith, prefix_len-le-length (λ x. not (same_cell q x)) cells.cells, h.paired)

    -- the cells and lists are unchanged, and there is at least as much room
    pub widened : (cells' : Cells) (a' : Arena V) → cells'.cells ≡ cells.cells → cells.spare ≤ cells'.spare → IsArena a' → lists a' ≡ lists a → HasRoom a' n → AreListed cells' a' n
    widened cells' a' same spare sound count room = record {
      unique = subst (IsDistinct same_cell) (sym same) h.unique;
      paired = ap length same ∙ h.paired ∙ sym count;
      sound = sound;
      cells_room = omega (arith, spare, h.cells_room);
      room = room;
    }

    -- the list of x becomes L, and the others are unchanged
    module _ (a' : Arena V) (x : Cell) (L : List V) (edit : (j : ℕ) → list_at a' j ≡ cond (eqb j (place_in cells.cells x)) L (list_at a j)) where
      at_place : (j : ℕ) (b : Bool) → eqb j (place_in cells.cells x) ≡ b → list_at a' j ≡ cond b L (list_at a j)
      at_place j b e = edit j ∙ ap (λ (o : Bool). cond o L (list_at a j)) e

      -- the values of each of the cells xs after the edit
      told : (xs : List Cell) (q : Cell) → values_of cell_cmp (entries_from (list_at a') 0 xs) q ≡ cond (same_cell x q) L (list_at a (place_in cells.cells q))
          → values_of cell_cmp (entries_from (list_at a') 0 xs) q ≡ cond (is_eq (cell_cmp x q)) L (values_of cell_cmp (entries_from (list_at a) 0 cells.cells) q)
      told xs q e = e ∙ ap (λ (b : Bool). cond b L (list_at a (place_in cells.cells q))) (same_cell-cell_cmp x q) ∙ ap (λ (l : List V). cond (is_eq (cell_cmp x q)) L l) (sym (shown q))

      -- the cells are unchanged
      module _ (count : lists a' ≡ lists a) where
        pub kept_listed : IsArena a' → ((m : ℕ) → HasRoom a m → HasRoom a' m) → AreListed cells a' n
        kept_listed sound room = record { unique = h.unique; paired = h.paired ∙ sym count; sound = sound; cells_room = h.cells_room; room = room n h.room }

        module _ (missing : lists a ≤ place_in cells.cells x → L ≡ []) where
          absent : length cells.cells ≤ place_in cells.cells x → (q : Cell) (b : Bool) → same_cell x q ≡ b → list_at a' (place_in cells.cells q) ≡ cond b L (list_at a (place_in cells.cells q))
          absent le q true e =
              let far : length cells.cells ≤ place_in cells.cells q = elim (cases_lt (place_in cells.cells q) (length cells.cells)) [
                | inl lt ↦ let z = same_place cells.cells q x lt ∙ same_laws.symm q x ∙ e in let w = eqb-true _ _ z in absurd (omega (arith, w, lt, le))
                | inr ge ↦ ge
              ] in
              no_list a' (place_in cells.cells q) (omega (arith, far, h.paired, count)) ∙ sym (missing (omega (arith, le, h.paired)))
          absent le q false e = elim (eqb_tells (place_in cells.cells q) (place_in cells.cells x)) [
            | inl t ↦ at_place (place_in cells.cells q) true t.0 ∙ missing (omega (arith, le, h.paired)) ∙ sym (no_list a (place_in cells.cells q) (omega (arith, le, t.1, h.paired)))
            | inr t ↦ at_place (place_in cells.cells q) false t.0
          ]

          at_kept : (q : Cell) → list_at a' (place_in cells.cells q) ≡ cond (same_cell x q) L (list_at a (place_in cells.cells q))
          at_kept q = elim (cases_lt (place_in cells.cells x) (length cells.cells)) [
            | inl lt ↦ at_place (place_in cells.cells q) (same_cell x q) (same_place cells.cells x q lt)
            | inr ge ↦ absent ge q (same_cell x q) refl
          ]

          pub kept_values : (q : Cell) → values_of cell_cmp (entries_from (list_at a') 0 cells.cells) q ≡ cond (is_eq (cell_cmp x q)) L (values_of cell_cmp (entries_from (list_at a) 0 cells.cells) q)
          kept_values q = told cells.cells q (lent cells.cells a' h.unique (h.paired ∙ sym count) q ∙ at_kept q)

      -- x is added to the cells if it is not there
      module _ (cells' : Cells) (put : cells'.cells ≡ with_cell cells.cells x) (count : lists a' ≡ max (lists a) (place_in cells.cells x + 1)) where
        unique' : IsDistinct same_cell cells'.cells
        unique' = subst (IsDistinct same_cell) (sym put) (elim (decided (list_any (same_cell x) cells.cells)) [
          | inl e ↦ subst (IsDistinct same_cell) (sym (with_known cells.cells x e)) h.unique
          | inr e ↦ subst (IsDistinct same_cell) (sym (with_new cells.cells x e)) (put_distinct cells.cells x h.unique (place_none cells.cells x e))
        ])

        paired' : length cells'.cells ≡ lists a'
        paired' = ap length put ∙ put_length cells.cells x ∙ (let e = h.paired in omega (arith, e, count))

        pub put_listed : (m : ℕ) → n ≡ m + 1 → cells.spare ≤ cells'.spare + 1 → IsArena a' → ((m : ℕ) → HasRoom a (m + 1) → HasRoom a' m) → AreListed cells' a' m
        put_listed m one spare sound room = record {
          unique = unique';
          paired = paired';
          sound = sound;
          cells_room = omega (arith, one, spare, h.cells_room);
          room = room m (subst (HasRoom a) one h.room);
        }

        same_list : (q : Cell) → list_at a (place_in cells'.cells q) ≡ list_at a (place_in cells.cells q)
        same_list q = elim (put_other cells.cells x q) [
          | inl s ↦ ap (list_at a) (ap (λ (l : List Cell). place_in l q) put ∙ s)
          | inr s ↦ ap (λ (l : List Cell). list_at a (place_in l q)) put ∙ no_list a _ (omega (arith, s.0, h.paired)) ∙ sym (no_list a _ (omega (arith, s.1, h.paired)))
        ]

        at_put : (q : Cell) → list_at a' (place_in cells'.cells q) ≡ cond (same_cell x q) L (list_at a (place_in cells.cells q))
        at_put q =
            let own : place_in cells'.cells x ≡ place_in cells.cells x = ap (λ (l : List Cell). place_in l x) put ∙ put_place cells.cells x in
            let lt : place_in cells'.cells x < length cells'.cells = omega (arith, own, paired', count) in
            at_place (place_in cells'.cells q) (same_cell x q) (ap (λ (m : ℕ). eqb (place_in cells'.cells q) m) (sym own) ∙ same_place cells'.cells x q lt)
            ∙ ap (λ (l : List V). cond (same_cell x q) L l) (same_list q)

        pub put_values : (q : Cell) → values_of cell_cmp (entries_from (list_at a') 0 cells'.cells) q ≡ cond (is_eq (cell_cmp x q)) L (values_of cell_cmp (entries_from (list_at a) 0 cells.cells) q)
        put_values q = told cells'.cells q (lent cells'.cells a' unique' paired' q ∙ at_put q)
