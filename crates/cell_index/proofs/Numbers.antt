-- The numbers of cells, before and after one is added.
use Rattle.std.proofs.Common.{◌≡◌, ◌≢◌, ℕ, ◌+◌, ◌-◌, ◌%◌, ◌<◌, ◌≤◌, ◌||◌, Bool, true, false, List, [], ◌∷◌, ◌++◌, length, refl, sym, ◌∙◌, ap, subst, inl, inr, arith, Some, None, if◌then◌else◌, get_or}
use Rattle.std.specs.Prelude.{Vec, vec_len, vec_capacity}
use Rattle.std.specs.declared.alloc.Global.{Global}
use Rattle.std.specs.List.{list_any, IsDistinct}
use Rattle.std.specs.Option.{option_map_or}
use Rattle.std.proofs.lemmas.Bool.Decides.{nat_tests}
use Rattle.std.proofs.lemmas.List.Folds.{list_any-append, position_or_len_push}
use Rattle.indexmap.specs.IndexMap.{IndexMap, spare}
use Rattle.teb_rules.specs.declared.names.Cell.{Cell}
use Rattle.teb_rules.specs.names.Cells.{same_cell}
use Rattle.cell_index.specs.declared.blocks.Owner.{Owner}
use Rattle.cell_index.specs.declared.blocks.Blocks.{Blocks}
use Rattle.cell_index.specs.Blocks.{keys, owner_of, has_cell, entry_by, number_or, IsPaged}
use Rattle.cell_index.specs.Cells.{place_in}
use Rattle.cell_index.specs.Index.{number_in, far_number, IsIndex}
use Rattle.teb_rules.proofs.lemmas.names.SameCells.{same_cell-true, same_laws}
use Rattle.cell_index.proofs.Places.{decided, place_none, place_some, put_distinct}

abbrev number_at : List Cell → Cell → Bool → ℕ
number_at cells x b = if b then place_in cells x + 1 else 0

-- a cell without a number has no place
pub number_none : (cells : List Cell) (x : Cell) → number_in cells x ≡ 0 → place_in cells x ≡ length cells
number_none cells x h = elim (decided (list_any (same_cell x) cells)) [
  | inl e ↦ absurd (let z = sym (ap (number_at cells x) e) ∙ h in omega (arith, z))
  | inr e ↦ place_none cells x e
]

module _ (cells : List Cell) (c : Cell) where
  pushed_known : (x : Cell) → list_any (same_cell x) cells ≡ true → number_in (cells ++ c ∷ []) x ≡ place_in cells x + 1
  pushed_known x e =
      let any = list_any-append (same_cell x) cells (c ∷ []) ∙ ap (λ (b : Bool). b || (same_cell x c || false)) e in
      let lt = place_some cells x e in
      ap (number_at (cells ++ c ∷ []) x) any ∙ ap (λ n. n + 1) (position_or_len_push (same_cell x) cells c) ∙ grind (arith, nat_tests, lt)

  pushed_new : (x : Cell) → list_any (same_cell x) cells ≡ false → number_in (cells ++ c ∷ []) x ≡ (if same_cell x c then length cells + 1 else 0)
  pushed_new x e = go (same_cell x c) refl
    where
      any : (b : Bool) → same_cell x c ≡ b → list_any (same_cell x) (cells ++ c ∷ []) ≡ b
      any true s = list_any-append (same_cell x) cells (c ∷ []) ∙ (λ j. e j || (s j || false))
      any false s = list_any-append (same_cell x) cells (c ∷ []) ∙ (λ j. e j || (s j || false))

      go : (b : Bool) → same_cell x c ≡ b → number_in (cells ++ c ∷ []) x ≡ (if b then length cells + 1 else 0)
      go true s = ap (number_at (cells ++ c ∷ []) x) (any true s) ∙ ap (λ n. n + 1) (position_or_len_push (same_cell x) cells c) ∙ (let end = place_none cells x e in grind (arith, nat_tests, end, s))
      go false s = ap (number_at (cells ++ c ∷ []) x) (any false s)

  -- the added cell gets the next number, and the others keep theirs
  pub number_push : place_in cells c ≡ length cells → (x : Cell) → number_in (cells ++ c ∷ []) x ≡ (if same_cell c x then length cells + 1 else number_in cells x)
  number_push absent x = elim (decided (list_any (same_cell x) cells)) [
    | inl e ↦ pushed_known x e ∙ sym (λ j. if other e j then length cells + 1 else number_at cells x (e j))
    | inr e ↦ pushed_new x e ∙ (λ j. if same_laws.symm x c j then length cells + 1 else sym (ap (number_at cells x) e) j)
  ]
    where
      other : list_any (same_cell x) cells ≡ true → same_cell c x ≡ false
      other e = elim (decided (same_cell c x)) [
        | inl s ↦ absurd (let lt = place_some cells c (ap (λ (y : Cell). list_any (same_cell y) cells) (same_cell-true c x s) ∙ e) in omega (arith, lt, absent))
        | inr s ↦ s
      ]

-- if the slot of x has no owner, the map has no number for x either
pub far_vacant : {S : Type 0} (b : Blocks) (far : IndexMap Cell ℕ S) (cells : Vec Cell Global) (n : ℕ) → IsIndex b far cells n → (x : Cell) → owner_of b x ≡ None → far_number far x ≡ 0
far_vacant b far cells n h x e = sym (ap (λ o. option_map_or (λ i. get_or b.numbers.items i 0) (entry_by o x) (far_number far x)) e) ∙ h.found x ∙ h.vacant x e

-- the map gets a number for a cell whose block has no page
pub number_far : {S : Type 0} (b : Blocks) (far far' : IndexMap Cell ℕ S) (c : Cell) (o : Owner) (n : ℕ) → owner_of b c ≡ Some o → has_cell o c ≡ false
    → ((x : Cell) → far_number far' x ≡ (if same_cell c x then n else far_number far x)) → (x : Cell)
    → number_or b x (far_number far' x) ≡ (if same_cell c x then n else number_or b x (far_number far x))
number_far b far far' c o n owner other put x = go (same_cell c x) refl
  where
    go : (s : Bool) → same_cell c x ≡ s → number_or b x (far_number far' x) ≡ (if s then n else number_or b x (far_number far x))
    go true s =
        let entry : entry_by (owner_of b x) x ≡ None = ap (λ z. entry_by (owner_of b z) z) (sym (same_cell-true c x s)) ∙ ap (λ p. entry_by p c) owner
        ∙ ap (λ (h : Bool). if h then Some (o.page + c.key % keys) else None) other in
        ap (λ e. option_map_or (λ i. get_or b.numbers.items i 0) e (far_number far' x)) entry ∙ put x ∙ ap (λ (h : Bool). if h then n else far_number far x) s
    go false s = ap (number_or b x) (put x ∙ ap (λ (h : Bool). if h then n else far_number far x) s)

-- c is added: its block or the map has the next number for it, and every other cell keeps its number
module _ {S : Type 0} (b b' : Blocks) (far far' : IndexMap Cell ℕ S) (cells cells' : Vec Cell Global) (n : ℕ) (c : Cell) (h : IsIndex b far cells n) (some : 0 < n)
    (absent : place_in cells.items c ≡ length cells.items) where
  pub index_push : IsPaged b' → owner_of b' c ≢ None → ((x : Cell) → owner_of b' x ≡ None → owner_of b x ≡ None) → length b'.owners.items ≡ length b.owners.items
      → ((x : Cell) → number_or b' x (far_number far' x) ≡ (if same_cell c x then length cells.items + 1 else number_or b x (far_number far x))) → spare far ≤ spare far' + 1
      → cells'.items ≡ cells.items ++ c ∷ [] → vec_len cells' ≡ vec_len cells + 1 → vec_capacity cells' ≡ vec_capacity cells → IsIndex b' far' cells' (n - 1)
  index_push paged owner owners slots numbers far_spare items len capacity = record {
    unique = subst (IsDistinct same_cell) (sym items) (put_distinct cells.items c h.unique absent);
    paged = paged;
    found = λ x. numbers x ∙ ap (λ m. if same_cell c x then length cells.items + 1 else m) (h.found x) ∙ pushed x;
    vacant = λ x e. sym (pushed x) ∙ (λ j. if other x e j then length cells.items + 1 else h.vacant x (owners x e) j);
    slots_room = λ _. let room = h.slots_room some in omega (arith, room, slots);
    far_room = omega (arith, some, far_spare, h.far_room);
    cells_room = omega (arith, some, len, capacity, h.cells_room);
    short = omega (arith, some, len, h.short);
  }
    where
      pushed : (x : Cell) → (if same_cell c x then length cells.items + 1 else number_in cells.items x) ≡ number_in cells'.items x
      pushed x = sym (number_push cells.items c absent x) ∙ ap (λ l. number_in l x) (sym items)

      other : (x : Cell) → owner_of b' x ≡ None → same_cell c x ≡ false
      other x e = elim (decided (same_cell c x)) [
        | inl s ↦ absurd (owner (ap (owner_of b') (same_cell-true c x s) ∙ e))
        | inr s ↦ s
      ]
