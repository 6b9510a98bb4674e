-- The range of a cell in a sorted list: how it is found, the versions in it, and the effect of edits.
use Rattle.std.proofs.Common.{◌≡◌, ℕ, zero, suc, ◌+◌, ◌-◌, ◌≤◌, ◌<◌, Bool, true, false, not, cond, eqb, List, [], ◌∷◌}
use Rattle.std.proofs.Common.{◌++◌, length, take, drop, map, get_or, set, refl, sym, ap, subst, ◌∙◌, arith, inl, inr}
use Rattle.std.specs.declared.cmp.Ordering.{Ordering}
use Rattle.std.specs.declared.cmp.Ordering.TheVariants.{Less, Equal, Greater}
use Rattle.std.specs.Ordering.{is_lt, ordering_index, ordering_reverse}
use Rattle.std.specs.List.{filter, insert}
use Rattle.std.specs.List.Sorted.{IsPartitionedBy, IsPartitionPoint}
use Rattle.std.proofs.lemmas.Bool.{cases_lt, cases_eq}
use Rattle.std.proofs.lemmas.Cmp.{tied_itself}
use Rattle.std.proofs.Math.Seq.{take-length}
use Rattle.std.proofs.lemmas.List.{length-take, length-drop, length-set, get_or-take, get_or-drop, take-append-drop, get_or-set_same, get_or-set_other, map-append, take-map, drop-map, get_or-map}
use Rattle.std.proofs.lemmas.List.Edits.{length-insert, get_or-insert_below, get_or-insert_at, get_or-insert_above}
use Rattle.std.proofs.lemmas.List.Kept.{IsSortedBy-filter}
use Rattle.std.proofs.lemmas.List.Sorted.{searchable_from_sorted, ranks_by}
use Rattle.teb_rules.specs.declared.names.Cell.{Cell}
use Rattle.teb_rules.specs.declared.names.Txn.{Txn}
use Rattle.teb_rules.specs.names.Cells.{same_cell}
use Rattle.version_chain.specs.declared.sorted.Stored.{Stored}
use Rattle.version_chain.specs.CellOrder.{cell_cmp}
use Rattle.version_chain.specs.Lists.{Version, set_value, without}
use Rattle.version_chain.specs.Stored.{version, of_cell, IsSortedByCell, IsRange}
use Rattle.version_chain.proofs.Cells.{cells_total, cells_exact, same_cell-itself, same_cell-exact, same_cell-less, same_cell-greater, same_cell-other}
use Rattle.version_chain.proofs.Middle.{Says, middle, middle_insert, middle_set, filter_insert_none, filter_set_none}

-- the tests that find a range
abbrev pub is_before : Cell → Stored → Bool
is_before x v = is_lt (cell_cmp v.cell x)

abbrev pub is_of : Cell → Stored → Bool
is_of x v = same_cell v.cell x

rank : Cell → Stored → ℕ
rank x v = ordering_index (cell_cmp v.cell x)

less_is : (o : Ordering) → is_lt o ≡ true → o ≡ Less
less_is Less e = refl
less_is Equal e = let z : false ≡ true = e in cc
less_is Greater e = let z : false ≡ true = e in cc

less_of : (o : Ordering) → ordering_index o ≤ 0 → is_lt o ≡ true
less_of Less h = refl
less_of Equal h = absurd (omega (arith, h))
less_of Greater h = absurd (omega (arith, h))

less_index : (o : Ordering) → is_lt o ≡ true → ordering_index o ≤ 0
less_index Less e = omega arith
less_index Equal e = let z : false ≡ true = e in cc
less_index Greater e = let z : false ≡ true = e in cc

index_more : (o : Ordering) → is_lt o ≡ false → 1 ≤ ordering_index o
index_more Less e = let z : true ≡ false = e in cc
index_more Equal e = omega arith
index_more Greater e = omega arith

greater_is : (o : Ordering) → 2 ≤ ordering_index o → o ≡ Greater
greater_is Less h = absurd (omega (arith, h))
greater_is Equal h = absurd (omega (arith, h))
greater_is Greater h = refl

equal_is : (o : Ordering) → 1 ≤ ordering_index o → ordering_index o ≤ 1 → o ≡ Equal
equal_is Less h k = absurd (omega (arith, h))
equal_is Equal h k = refl
equal_is Greater h k = absurd (omega (arith, k))

pub parted_before : (vs : List Stored) (x : Cell) → IsSortedByCell vs → IsPartitionedBy (is_before x) vs
unfolding rank
parted_before vs x sorted i j d le lt e =
    let up = searchable_from_sorted cells_total (λ (v : Stored). v.cell) vs x sorted i j d le lt in
    less_of _ (omega (arith, up, less_index _ e))

module _ (vs : List Stored) (x : Cell) (sorted : IsSortedByCell vs) (start : ℕ) (within : start ≤ length vs)
    (starts : IsPartitionPoint (λ v. is_before x v ≡ true) (λ v. is_before x v ≡ false) vs start) where
  rest_rank : (j : ℕ) (d : Stored) → start ≤ j → j < length vs → 1 ≤ ordering_index (cell_cmp (get_or vs j d).cell x)
  rest_rank j d le lt = index_more _ (starts.1 j d le lt)

  rest_len : length (drop start vs) ≡ length vs - start
  rest_len = length-drop start vs

  of_rest : (j : ℕ) (d : Stored) → get_or (drop start vs) j d ≡ get_or vs (start + j) d
  of_rest j d = get_or-drop start vs j d

  equal_of : (v : Stored) → is_of x v ≡ true → ordering_index (cell_cmp v.cell x) ≤ 1
  equal_of v e =
      let same : v.cell ≡ x = same_cell-exact v.cell x e in
      let tied : cell_cmp v.cell x ≡ Equal = ap (λ (y : Cell). cell_cmp y x) same ∙ tied_itself cells_total x in
      rw tied (omega arith)

  of_equal : (v : Stored) → cell_cmp v.cell x ≡ Equal → is_of x v ≡ true
  of_equal v e = ap (λ (y : Cell). same_cell y x) (cells_exact v.cell x e) ∙ same_cell-itself x

  pub parted_of : IsPartitionedBy (is_of x) (drop start vs)
  parted_of i j d le lt e =
      let up = searchable_from_sorted cells_total (λ (v : Stored). v.cell) vs x sorted (start + i) (start + j) d (omega (arith, le)) (omega (arith, lt, rest_len)) in
      let low = rest_rank (start + i) d (omega arith) (omega (arith, le, lt, rest_len)) in
      let high = equal_of (get_or vs (start + j) d) (ap (is_of x) (sym (of_rest j d)) ∙ e) in
      ap (is_of x) (of_rest i d) ∙ of_equal (get_or vs (start + i) d) (equal_is _ low (omega (arith, up, high)))

  pub ranged : (len : ℕ) → len ≤ length (drop start vs) → IsPartitionPoint (λ v. is_of x v ≡ true) (λ v. is_of x v ≡ false) (drop start vs) len → IsRange vs x start len
  ranged len fits ends = record {
    within = omega (arith, fits, rest_len, within);
    before = λ j d lt. less_is _ (starts.0 j d (omega arith) lt);
    here = λ j d le lt. same_cell-exact _ x (ap (is_of x) (place j d le) ∙ ends.0 (j - start) d (omega arith) (omega (arith, lt, le)));
    after = λ j d le lt.
        let off = ends.1 (j - start) d (omega (arith, le)) (omega (arith, lt, le, rest_len)) in
        let low = rest_rank j d (omega (arith, le)) lt in
        greater_is _ (more _ low (λ e. let z : true ≡ false = sym (of_equal (get_or vs j d) e) ∙ (ap (is_of x) (place j d (omega (arith, le))) ∙ off) in cc));
  }
    where
      place : (j : ℕ) (d : Stored) → start ≤ j → get_or vs j d ≡ get_or (drop start vs) (j - start) d
      place j d le = let e : j ≡ start + (j - start) = omega (arith, le) in ap (λ k. get_or vs k d) e ∙ sym (of_rest (j - start) d)

      more : (o : Ordering) → 1 ≤ ordering_index o → (o ≡ Equal → ⊥) → 2 ≤ ordering_index o
      more Less h ne = absurd (omega (arith, h))
      more Equal h ne = absurd (ne refl)
      more Greater h ne = omega arith

-- `&vs[start..]`
pub tail_is : {X : Type 0} (vs : List X) (start : ℕ) → take (length vs - start) (drop start vs) ≡ drop start vs
tail_is vs start = ap (λ n. take n (drop start vs)) (sym (length-drop start vs)) ∙ take-length (drop start vs)

map-insert : {X Y : Type 0} (f : X → Y) (xs : List X) (i : ℕ) (x : X) → map f (insert xs i x) ≡ insert (map f xs) i (f x)
map-insert f xs i x = map-append f (take i xs) (x ∷ drop i xs) ∙ (ap (λ l. l ++ f x ∷ map f (drop i xs)) (sym (take-map f i xs)) ∙ ap (λ l. take i (map f xs) ++ f x ∷ l) (sym (drop-map f i xs)))

map_set_value : (ms : List Stored) (i : ℕ) (v d : Stored) → v.writer ≡ (get_or ms i d).writer → map version (set ms i v) ≡ set_value i v.value (map version ms)
map_set_value [] i v d e = refl
map_set_value (m ∷ ms) zero v d e = ap (λ (t : Txn). (t, v.value) ∷ map version ms) e
map_set_value (m ∷ ms) (suc i) v d e = ap (λ l. version m ∷ l) (map_set_value ms i v d e)

-- an edit of another cell does not change the versions of y
pub of_cell-insert_other : (y : Cell) (vs : List Stored) (k : ℕ) (v : Stored) → same_cell y v.cell ≡ false → of_cell y (insert vs k v) ≡ of_cell y vs
of_cell-insert_other y vs k v other = ap (map version) (filter_insert_none (is_of y) vs k v (same_cell-other y v.cell other))

pub of_cell-set_other : (y : Cell) (vs : List Stored) (k : ℕ) (v d : Stored) → same_cell y v.cell ≡ false → (get_or vs k d).cell ≡ v.cell → of_cell y (set vs k v) ≡ of_cell y vs
of_cell-set_other y vs k v d other same =
    let off = same_cell-other y v.cell other in
    ap (map version) (filter_set_none (is_of y) vs k v d off (ap (λ (z : Cell). same_cell z y) same ∙ off))

module _ (vs : List Stored) (x : Cell) (start len : ℕ) (r : IsRange vs x start len) where
  front : List Stored
  front = take start vs

  pub ours : List Stored
  ours = take len (drop start vs)

  back : List Stored
  back = drop len (drop start vs)

  parts : front ++ (ours ++ back) ≡ vs
  unfolding front ours back
  parts = ap (λ l. take start vs ++ l) (take-append-drop len (drop start vs)) ∙ take-append-drop start vs

  front_len : length front ≡ start
  unfolding front
  front_len = omega (arith, length-take start vs, r.within)

  pub ours_len : length ours ≡ len
  unfolding ours
  ours_len = omega (arith, length-take len (drop start vs), length-drop start vs, r.within)

  before : Says (is_of x) false front
  unfolding front
  before j d lt =
      let low : j < start = omega (arith, lt, front_len) in
      ap (is_of x) (get_or-take start vs j d low) ∙ same_cell-less _ x (r.before j d low)

  ours_at : (j : ℕ) (d : Stored) → j < len → get_or ours j d ≡ get_or vs (start + j) d
  unfolding ours
  ours_at j d lt = get_or-take len (drop start vs) j d lt ∙ get_or-drop start vs j d

  here : Says (is_of x) true ours
  here j d lt =
      let low : j < len = omega (arith, lt, ours_len) in
      ap (is_of x) (ours_at j d low) ∙ (ap (λ (y : Cell). same_cell y x) (r.here (start + j) d (omega arith) (omega (arith, low))) ∙ same_cell-itself x)

  after : Says (is_of x) false back
  unfolding back
  after j d lt =
      let at : get_or (drop len (drop start vs)) j d ≡ get_or vs (start + (len + j)) d = get_or-drop len (drop start vs) j d ∙ get_or-drop start vs (len + j) d in
      ap (is_of x) at ∙ same_cell-greater _ x (r.after (start + (len + j)) d (omega arith) (omega (arith, lt, length-drop len (drop start vs), length-drop start vs, r.within)))

  -- the range has exactly the cell's versions
  pub of_cell-range : map version (take len (drop start vs)) ≡ of_cell x vs
  unfolding ours
  of_cell-range = ap (map version) (sym (middle (is_of x) front ours back before here after)) ∙ ap (of_cell x) parts

  pub length-of_cell : length (of_cell x vs) ≡ len
  unfolding ours
  length-of_cell = ap length (sym of_cell-range) ∙ (long (take len (drop start vs)) ∙ ours_len)
    where
      long : (ms : List Stored) → length (map version ms) ≡ length ms
      long [] = refl
      long (m ∷ ms) = ap suc (long ms)

  pub of_cell-insert : (i : ℕ) (v : Stored) → v.cell ≡ x → i ≤ len → of_cell x (insert vs (start + i) v) ≡ insert (of_cell x vs) i (version v)
  unfolding ours
  of_cell-insert i v mine within =
      let on : is_of x v ≡ true = ap (λ (y : Cell). same_cell y x) mine ∙ same_cell-itself x in
      ap (λ l. of_cell x (insert l (start + i) v)) (sym parts)
      ∙ (ap (λ k. of_cell x (insert (front ++ (ours ++ back)) (k + i) v)) (sym front_len)
      ∙ (ap (map version) (middle_insert (is_of x) front ours back before here after i v on (omega (arith, within, ours_len)))
      ∙ (map-insert version ours i v ∙ ap (λ l. insert l i (version v)) of_cell-range)))

  pub of_cell-set : (i : ℕ) (v d : Stored) → v.cell ≡ x → v.writer ≡ (get_or vs (start + i) d).writer → i < len → of_cell x (set vs (start + i) v) ≡ set_value i v.value (of_cell x vs)
  unfolding ours
  of_cell-set i v d mine same within =
      let on : is_of x v ≡ true = ap (λ (y : Cell). same_cell y x) mine ∙ same_cell-itself x in
      ap (λ l. of_cell x (set l (start + i) v)) (sym parts)
      ∙ (ap (λ k. of_cell x (set (front ++ (ours ++ back)) (k + i) v)) (sym front_len)
      ∙ (ap (map version) (middle_set (is_of x) front ours back before here after i v on (omega (arith, within, ours_len)))
      ∙ (map_set_value ours i v d (same ∙ ap (λ (w : Stored). w.writer) (sym (ours_at i d within))) ∙ ap (set_value i v.value) of_cell-range)))

  -- an edit keeps the order
  not_above : (j : ℕ) (d : Stored) → j < start + len → is_lt (cell_cmp x (get_or vs j d).cell) ≡ false
  not_above j d lt = elim (cases_lt j start) [
    | inl low ↦ ap is_lt (cells_total.antisymm x _ ∙ ap ordering_reverse (r.before j d low))
    | inr high ↦ ap (λ (y : Cell). is_lt (cell_cmp x y)) (r.here j d high lt) ∙ ap is_lt (tied_itself cells_total x)
  ]

  not_below : (j : ℕ) (d : Stored) → start ≤ j → j < length vs → is_lt (cell_cmp (get_or vs j d).cell x) ≡ false
  not_below j d le lt = elim (cases_lt j (start + len)) [
    | inl low ↦ ap (λ (y : Cell). is_lt (cell_cmp y x)) (r.here j d le low) ∙ ap is_lt (tied_itself cells_total x)
    | inr high ↦ ap is_lt (r.after j d high lt)
  ]

  pub sorted-insert : IsSortedByCell vs → (i : ℕ) (v : Stored) → v.cell ≡ x → i ≤ len → IsSortedByCell (insert vs (start + i) v)
  sorted-insert sorted i v mine within k d zero_le lt =
      let fits : start + i ≤ length vs = omega (arith, within, r.within) in
      let long = length-insert vs (start + i) v fits in
      let low : (j : ℕ) → j < start + i → (get_or (insert vs (start + i) v) j d).cell ≡ (get_or vs j d).cell = λ j h. ap (λ (w : Stored). w.cell) (get_or-insert_below vs (start + i) v d j h fits) in
      let at : (j : ℕ) → j ≡ start + i → (get_or (insert vs (start + i) v) j d).cell ≡ x = λ j e. ap (λ m. (get_or (insert vs (start + i) v) m d).cell) e
      ∙ (ap (λ (w : Stored). w.cell) (get_or-insert_at vs (start + i) v d fits) ∙ mine) in
      let high : (j : ℕ) → start + i ≤ j → (get_or (insert vs (start + i) v) (j + 1) d).cell ≡ (get_or vs j d).cell = λ j h. ap (λ (w : Stored). w.cell)
      (get_or-insert_above vs (start + i) v d j h fits) in
      let two : (a b c e : Cell) → a ≡ c → b ≡ e → is_lt (cell_cmp c e) ≡ false → is_lt (cell_cmp a b) ≡ false = λ a b c e p q h. ap (λ (y : Cell). is_lt (cell_cmp y b)) p
      ∙ (ap (λ (y : Cell). is_lt (cell_cmp c y)) q ∙ h) in
      elim (cases_lt k (start + i)) [
        | inl lo ↦ elim (cases_eq (k + 1) (start + i)) [
          | inl e ↦ two _ _ _ _ (at (k + 1) e) (low k lo) (not_above k d (omega (arith, lo, within)))
          | inr ne ↦ two _ _ _ _ (low (k + 1) (omega (arith, lo, ne))) (low k lo) (sorted k d zero_le (omega (arith, lo, fits, ne)))
        ]
        | inr hi ↦ elim (cases_eq k (start + i)) [
          | inl e ↦ two _ _ _ _ (high k hi) (at k e) (not_below k d (omega (arith, hi)) (omega (arith, lt, long)))
          | inr ne ↦
              let j : (k - 1) + 1 ≡ k = omega (arith, hi, ne) in
              two _ _ _ _ (high k hi) (ap (λ m. (get_or (insert vs (start + i) v) m d).cell) (sym j) ∙ high (k - 1) (omega (arith, hi, ne)))
              (subst (λ m. is_lt (cell_cmp (get_or vs m d).cell (get_or vs (k - 1) d).cell) ≡ false) j (sorted (k - 1) d (omega arith) (omega (arith, j, lt, long))))
        ]
      ]

pub sorted-set : (vs : List Stored) (k : ℕ) (v e : Stored) → k < length vs → (get_or vs k e).cell ≡ v.cell → IsSortedByCell vs → IsSortedByCell (set vs k v)
sorted-set vs k v e within same sorted j d zero_le lt =
    let long = length-set vs k v in
    let at : (get_or vs k d).cell ≡ v.cell = ap (λ (w : Stored). w.cell) (get_or-any vs k d e within) ∙ same in
    let cell : (i : ℕ) → (get_or (set vs k v) i d).cell ≡ (get_or vs i d).cell = λ i. elim (cases_eq i k) [
      | inl e ↦ ap (λ m. (get_or (set vs k v) m d).cell) e ∙ (ap (λ (w : Stored). w.cell) (get_or-set_same vs k v d within) ∙ (sym at ∙ ap (λ m. (get_or vs m d).cell) (sym e)))
      | inr ne ↦ ap (λ (w : Stored). w.cell) (get_or-set_other vs k i v d ne)
    ] in
    ap (λ (y : Cell). is_lt (cell_cmp y (get_or (set vs k v) j d).cell)) (cell (j + 1))
    ∙ (ap (λ (y : Cell). is_lt (cell_cmp (get_or vs (j + 1) d).cell y)) (cell j) ∙ sorted j d zero_le (omega (arith, lt, long)))
  where
    get_or-any : (ms : List Stored) (i : ℕ) (a b : Stored) → i < length ms → get_or ms i a ≡ get_or ms i b
    get_or-any [] i a b lt = absurd (omega (arith, lt))
    get_or-any (m ∷ ms) zero a b lt = refl
    get_or-any (m ∷ ms) (suc i) a b lt = get_or-any ms i a b (omega (arith, lt))

pub sorted-filter : (p : Stored → Bool) (vs : List Stored) → IsSortedByCell vs → IsSortedByCell (filter p vs)
sorted-filter p vs sorted = IsSortedBy-filter _ (ranks_by cells_total (λ (v : Stored). v.cell)) p vs sorted

-- removing a writer's versions from the whole list removes them from each cell's versions
pub of_cell-filter : (x : Cell) (t : ℕ) (vs : List Stored) → of_cell x (filter (λ v. not (eqb v.writer.0 t)) vs) ≡ without t (of_cell x vs)
of_cell-filter x t [] = refl
of_cell-filter x t (v ∷ vs) = step (eqb v.writer.0 t) (is_of x v) refl refl (of_cell-filter x t vs)
  where
    step : (a b : Bool) → eqb v.writer.0 t ≡ a → is_of x v ≡ b → of_cell x (filter (λ v. not (eqb v.writer.0 t)) vs) ≡ without t (of_cell x vs) →
        of_cell x (cond (not a) (v ∷ filter (λ v. not (eqb v.writer.0 t)) vs) (filter (λ v. not (eqb v.writer.0 t)) vs)) ≡ without t
        (map version (cond b (v ∷ filter (is_of x) vs) (filter (is_of x) vs)))
    step true true e f ih = rw e ih
    step true false e f ih = ih
    step false true e f ih = rw (e, f) (ap (λ l. version v ∷ l) ih)
    step false false e f ih = rw f ih

-- a version of the range is the version of the chain at the same place
pub version_at : (ms : List Stored) (j : ℕ) (m : Stored) (d : Version) → j < length ms → get_or (map version ms) j d ≡ version (get_or ms j m)
version_at ms j m d lt = get_or-map version ms j m d lt
