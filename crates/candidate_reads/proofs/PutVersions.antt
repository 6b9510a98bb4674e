-- Chains that hold the versions of a history hold those of the history with one more Put if the version is overwritten or inserted at its place.
use Rattle.std.proofs.Common.{ℕ, ◌≡◌, ◌≢◌, ◌⊎◌, zero, suc, ◌≤◌, ◌<◌, Bool, true, false, ◌||◌, eqb, List, [], ◌∷◌, Option}
use Rattle.std.proofs.Common.{Some, IsFalse, refl, sym, ap, subst, ◌∙◌, arith, inl, inr, ℤ, slice_get, eq-eqb, eqb-true}
use Rattle.std.proofs.lemmas.Bool.{both_ways, cases_Bool, false_from_ne_true}
use Rattle.std.proofs.lemmas.Option.{slice_get-get_or}
use Rattle.std.specs.List.{insert}
use Rattle.teb_rules.specs.declared.names.Cell.{Cell}
use Rattle.teb_rules.specs.declared.names.Txn.{Txn}
use Rattle.teb_rules.specs.names.Cells.{same_cell}
use Rattle.teb_rules.proofs.lemmas.names.Bools.{and_false, or_true}
use Rattle.teb_rules.specs.declared.history.Event.{Event}
use Rattle.teb_rules.specs.declared.history.Event.TheVariants.{Put}
use Rattle.teb_rules.specs.history.Phases.{aborted, unfinished}
use Rattle.teb_rules.specs.history.Accesses.{is_put}
use Rattle.teb_rules.specs.Setup.{Setup, among}
use Rattle.teb_rules.specs.Serializes.{In, Pairs}
use Rattle.teb_rules.specs.Versions.{precedes}
use Rattle.teb_rules.specs.laws.TreeFacts.{TreeFacts}
use Rattle.teb_rules.specs.laws.Lawful.{Lawful}
use Rattle.teb_rules.specs.laws.Laws.{IsWriter}
use Rattle.teb_rules.proofs.lemmas.laws.Cascades.{unfinished_times}
use Rattle.teb_rules.proofs.lemmas.laws.Laws.{lawful_orders}
use Rattle.teb_rules.proofs.lemmas.laws.ReadRule.{put_skip}
use Rattle.teb_rules.proofs.lemmas.names.SameCells.{same_cell-true}
use Rattle.teb_rules.proofs.lemmas.laws.VersionOrder.{precedes_irreflexive}
use Rattle.version_chain.specs.Lists.{Version, writers_of, is_writer, set_value}
use Rattle.version_chain.proofs.Cells.{same_cell-other}
use Rattle.phase_api.specs.Versions.{HoldsVersions, HaveLastValues, IsPlaceOf, has_version}
use Rattle.candidate_reads.proofs.InOrder.{In_among, In-at}
use Rattle.candidate_reads.proofs.Shows.{version_parts}
use Rattle.candidate_reads.proofs.Sources.{Strict, writer_began}
use Rattle.candidate_reads.proofs.Placed.{unfinished_stands}
use Rattle.candidate_reads.proofs.OneMore.{version_put, values_same, value_put, put_by_other, precedes_stays, order_stays}
use Rattle.teb_rules.specs.history.Accesses.{last_put}
use Rattle.teb_rules.proofs.lemmas.laws.Lists.{Pairs-weaker}
use Rattle.candidate_reads.proofs.KeptVersions.{HoldsCell, cell_of, all_cells, have, cell_kept}

-- a Put changes the versions of its cell only
elsewhere : (t : Txn) (x y : Cell) (v : Option ℤ) (u : ℕ) → same_cell y x ≡ false → is_put u y (Put t x v) ≡ false
elsewhere t x y v u e = rw (same_cell-other y x e) (and_false (eqb t.0 u))

put_cells : (S : Setup) (a : TreeFacts S) (t : Txn) (x : Cell) (v : Option ℤ) (P : List Event) (L M : Cell → List Version) → Lawful S (Put t x v ∷ P) → HoldsVersions S P L
    → ((y : Cell) → IsFalse (same_cell y x) → M y ≡ L y) →
    HoldsCell S (Put t x v ∷ P) x (M x) → HoldsVersions S (Put t x v ∷ P) M
put_cells S a t x v P L M l h f here = all_cells S (Put t x v ∷ P) M (λ y. elim (cases_Bool (same_cell y x)) [
  | inl e ↦ subst (λ (z : Cell). HoldsCell S (Put t x v ∷ P) z (M z)) (sym (same_cell-true y x e)) here
  | inr e ↦ subst (λ (vs : List Version). HoldsCell S (Put t x v ∷ P) y vs) (sym (f y e)) (cell_kept S a (Put t x v) P y (L y) l (λ u. elsewhere t x y v u e) (λ u. refl) (cell_of S P L y h))
])

granted_put : (S : Setup) (t : Txn) (x : Cell) (v : Option ℤ) (P : List Event) → Lawful S (Put t x v ∷ P) → (unfinished P t.0 ≡ true) × Lawful S P
unfolding Lawful
granted_put S t x v P l = (l.0.unfinished, l.1)

-- overwriting the value at an index keeps the writers
writers-set_value : (i : ℕ) (v : Option ℤ) (vs : List Version) → writers_of (set_value i v vs) ≡ writers_of vs
writers-set_value i v [] = refl
writers-set_value zero v (w ∷ vs) = refl
writers-set_value (suc i) v (w ∷ vs) = ap (λ (us : List ℕ). w.0.0 ∷ us) (writers-set_value i v vs)

stands_in : (us : List ℕ) (i t : ℕ) → slice_get us i ≡ Some t → In t us
stands_in [] i t e = absurd (cc)
stands_in (u ∷ us) zero t e = inl (cc)
stands_in (u ∷ us) (suc i) t e = inr (stands_in us i t e)

values-set_value : (t : Txn) (x : Cell) (v : Option ℤ) (P : List Event) (vs : List Version) (i : ℕ) → Pairs (λ u w. u ≢ w) (writers_of vs) → slice_get (writers_of vs) i ≡ Some t.0
    → HaveLastValues P x vs → HaveLastValues (Put t x v ∷ P) x (set_value i v vs)
values-set_value t x v P [] i d e h = absurd (cc)
values-set_value t x v P (w ∷ vs) zero d e h =
    let own : w.0.0 ≡ t.0 = cc in
    (subst (λ (z : ℕ). last_put (Put t x v ∷ P) z x ≡ Some v) (sym own) (value_put t x v P), values_same (Put t x v) P x vs (λ u i. put_by_other t x x v u (λ q. d.0 u i (own ∙ q))) h.1)
values-set_value t x v P (w ∷ vs) (suc i) d e h =
    let other : w.0.0 ≢ t.0 = d.0 t.0 (stands_in (writers_of vs) i t.0 e) in
    (put_skip (Put t x v) P w.0.0 x (put_by_other t x x v w.0.0 (λ q. other (sym q))) ∙ h.0, values-set_value t x v P vs i d.1 e h.1)

cell_overwritten : (S : Setup) (a : TreeFacts S) (t : Txn) (x : Cell) (v : Option ℤ) (P : List Event) (vs : List Version) (i : ℕ) → Lawful S (Put t x v ∷ P) → slice_get (writers_of vs) i ≡ Some t.0
    → HoldsCell S P x vs → HoldsCell S (Put t x v ∷ P) x (set_value i v vs)
cell_overwritten S a t x v P vs i l at h =
    let na = unfinished_stands P t.0 (granted_put S t x v P l).0 in
    let same = writers-set_value i v vs in
    let own : has_version P x t.0 ≡ true = have S P x vs h t.0 (stands_in (writers_of vs) i t.0 at) in
    record {
      writers = λ w. ap (among w) same ∙ h.writers w ∙ covered (eqb t.0 w) (λ e. subst (λ (z : ℕ). has_version P x z ≡ true) (eqb-true t.0 w e) own) ∙ sym (version_put t v P x w na);
      values = values-set_value t x v P vs i
          (Pairs-weaker (Strict S P x) (λ u w. u ≢ w) (writers_of vs) (λ u w j k s q. both_ways _ (precedes_irreflexive S P x w) (subst (λ (z : ℕ). precedes S P x z w ≡ true) q s.0)) h.order) at
          h.values;
      order = subst (λ (us : List ℕ). Pairs (Strict S (Put t x v ∷ P) x) us) (sym same) (order_stays S a (Put t x v) P x (writers_of vs) l (have S P x vs h) h.order);
    }
  where
    covered : {c : Bool} (b : Bool) → (b ≡ true → c ≡ true) → c ≡ (b || c)
    covered true f = f refl
    covered false f = refl

-- a Put of t that overwrites the value of its version at index i
pub versions_overwritten : (S : Setup) (a : TreeFacts S) (t : Txn) (x : Cell) (v : Option ℤ) (P : List Event) (L M : Cell → List Version) (i : ℕ) → Lawful S (Put t x v ∷ P) → HoldsVersions S P L →
    slice_get (writers_of (L x)) i ≡ Some t.0 → M x ≡ set_value i v (L x) → ((y : Cell) → IsFalse (same_cell y x) → M y ≡ L y) → HoldsVersions S (Put t x v ∷ P) M
versions_overwritten S a t x v P L M i l h at e f = put_cells S a t x v P L M l h f
    (subst (λ (vs : List Version). HoldsCell S (Put t x v ∷ P) x vs) (sym e) (cell_overwritten S a t x v P (L x) i l at (cell_of S P L x h)))

-- a version is inserted at an index
writers-insert : (vs : List Version) (at : ℕ) (p : Version) → writers_of (insert vs at p) ≡ insert (writers_of vs) at p.0.0
writers-insert [] zero p = refl
writers-insert [] (suc at) p = refl
writers-insert (v ∷ vs) zero p = refl
writers-insert (v ∷ vs) (suc at) p = ap (λ (us : List ℕ). v.0.0 ∷ us) (writers-insert vs at p)

or_front : (a b c : Bool) → (a || (b || c)) ≡ (b || (a || c))
or_front true true c = refl
or_front true false c = refl
or_front false b c = refl

among-insert : (w : ℕ) (us : List ℕ) (at t : ℕ) → among w (insert us at t) ≡ (eqb t w || among w us)
among-insert w [] zero t = refl
among-insert w [] (suc at) t = refl
among-insert w (u ∷ us) zero t = refl
among-insert w (u ∷ us) (suc at) t = ap (λ (b : Bool). eqb u w || b) (among-insert w us at t) ∙ or_front (eqb u w) (eqb t w) (among w us)

In-inserted : (w : ℕ) (us : List ℕ) (at t : ℕ) → In w (insert us at t) → (t ≡ w) ⊎ In w us
In-inserted w [] zero t i = i
In-inserted w [] (suc at) t i = i
In-inserted w (u ∷ us) zero t i = i
In-inserted w (u ∷ us) (suc at) t i = elim i [ inl e ↦ inr (inl e) | inr j ↦ elim (In-inserted w us at t j) [ inl e ↦ inl e | inr k ↦ inr (inr k) ] ]

Pairs-insert : (R : ℕ → ℕ → Type 0) (us : List ℕ) (at t : ℕ) → Pairs R us → ((i w : ℕ) → i < at → slice_get us i ≡ Some w → R w t) → ((i w : ℕ) → at ≤ i → slice_get us i ≡ Some w → R t w)
    → Pairs R (insert us at t)
Pairs-insert R [] zero t h f g = ((λ u i. absurd i), tt)
Pairs-insert R [] (suc at) t h f g = ((λ u i. absurd i), tt)
Pairs-insert R (u ∷ us) zero t h f g = ((λ w i. let k = In-at w (u ∷ us) i in g k.0 w (omega arith) (slice_get-get_or (u ∷ us) k.0 0 k.1 ∙ ap (λ (z : ℕ). Some z) k.2)), h)
Pairs-insert R (u ∷ us) (suc at) t h f g = (
  (λ w i. elim (In-inserted w us at t i) [ inl e ↦ subst (λ (z : ℕ). R u z) e (f zero u (omega arith) refl) | inr j ↦ h.0 w j ]),
  Pairs-insert R us at t h.1 (λ i w b q. f (suc i) w (omega arith) q) (λ i w b q. g (suc i) w (omega arith) q),
)

values-insert : (H : List Event) (x : Cell) (vs : List Version) (at : ℕ) (p : Version) → last_put H p.0.0 x ≡ Some p.1 → HaveLastValues H x vs → HaveLastValues H x (insert vs at p)
values-insert H x [] zero p e h = (e, tt)
values-insert H x [] (suc at) p e h = (e, tt)
values-insert H x (v ∷ vs) zero p e h = (e, h)
values-insert H x (v ∷ vs) (suc at) p e h = (h.0, values-insert H x vs at p e h.1)

-- a Put of t, which has no version of x
module _ (S : Setup) (a : TreeFacts S) (t : Txn) (x : Cell) (v : Option ℤ) (P : List Event) (vs : List Version) (l : Lawful S (Put t x v ∷ P)) (h : HoldsCell S P x vs)
    (absent : is_writer vs t.0 ≡ false) where
  stands : aborted P t.0 ≡ false
  stands = unfinished_stands P t.0 (granted_put S t x v P l).0

  writes : (w : ℕ) → has_version (Put t x v ∷ P) x w ≡ true → IsWriter (Put t x v ∷ P) x w w
  writes w e = let p = version_parts (Put t x v ∷ P) x w e in record { stands = p.1; puts = inl p.0 }

  others_stay : (w : ℕ) → In w (writers_of vs) → has_version (Put t x v ∷ P) x w ≡ true
  others_stay w i = version_put t v P x w stands ∙ rw (have S P x vs h w i) (or_true (eqb t.0 w))

  own_there : has_version (Put t x v ∷ P) x t.0 ≡ true
  own_there = version_put t v P x t.0 stands ∙ rw (eq-eqb t.0 t.0 refl) refl

  differs : (w : ℕ) → In w (writers_of vs) → w ≢ t.0
  differs w i e = both_ways _ absent (In_among t.0 (writers_of vs) (subst (λ (z : ℕ). In z (writers_of vs)) e i))

  -- the order of t's version and each other version does not change
  order_with : (w : ℕ) → In w (writers_of vs) → precedes S P x w t.0 ≡ precedes S (Put t x v ∷ P) x w t.0
  order_with w i =
      let g = granted_put S t x v P l in
      let p = (version_parts P x w (have S P x vs h w i)).0 in
      precedes_stays S a (Put t x v) P x w t.0 l (writer_began S P w x g.1 p) (unfinished_times P t.0 g.0).0 p (differs w i)

  comes_after : (w : ℕ) → In w (writers_of vs) → precedes S P x w t.0 ≡ true → Strict S (Put t x v ∷ P) x w t.0
  comes_after w i e =
      let o = lawful_orders S a (Put t x v ∷ P) l in
      let b : precedes S (Put t x v ∷ P) x w t.0 ≡ true = sym (order_with w i) ∙ e in
      let first : IsWriter (Put t x v ∷ P) x w w = writes w (others_stay w i) in
      let own : IsWriter (Put t x v ∷ P) x w t.0 = record { stands = (writes t.0 own_there).stands; puts = inl (version_parts (Put t x v ∷ P) x t.0 own_there).0 } in
      (b, false_from_ne_true _ (λ q. both_ways _ (o.irreflexive x w) (o.transitive x w w t.0 w first own first b q)))

  comes_before : (w : ℕ) → In w (writers_of vs) → precedes S P x w t.0 ≡ false → Strict S (Put t x v ∷ P) x t.0 w
  comes_before w i e =
      let o = lawful_orders S a (Put t x v ∷ P) l in
      let b : precedes S (Put t x v ∷ P) x w t.0 ≡ false = sym (order_with w i) ∙ e in
      let first : IsWriter (Put t x v ∷ P) x w w = writes w (others_stay w i) in
      let own : IsWriter (Put t x v ∷ P) x w t.0 = record { stands = (writes t.0 own_there).stands; puts = inl (version_parts (Put t x v ∷ P) x t.0 own_there).0 } in
      (elim (o.total x w w t.0 first own (differs w i)) [ inl q ↦ absurd (both_ways _ b q) | inr q ↦ q ], b)

  cell_placed : (at : ℕ) → IsPlaceOf S P x t.0 at (writers_of vs) → HoldsCell S (Put t x v ∷ P) x (insert vs at (t, v))
  cell_placed at place = record {
    writers = λ w. ap (among w) (writers-insert vs at (t, v)) ∙ among-insert w (writers_of vs) at t.0 ∙ ap (λ (b : Bool). eqb t.0 w || b) (h.writers w) ∙ sym (version_put t v P x w stands);
    values = values-insert (Put t x v ∷ P) x vs at (t, v) (value_put t x v P) (values_same (Put t x v) P x vs (λ u i. put_by_other t x x v u (λ q. differs u i (sym q))) h.values);
    order = subst (λ (us : List ℕ). Pairs (Strict S (Put t x v ∷ P) x) us) (sym (writers-insert vs at (t, v)))
        (Pairs-insert (Strict S (Put t x v ∷ P) x) (writers_of vs) at t.0 (order_stays S a (Put t x v) P x (writers_of vs) l (have S P x vs h) h.order)
        (λ i w b e. comes_after w (stands_in (writers_of vs) i w e) (place.before i w b e))
        (λ i w b e. comes_before w (stands_in (writers_of vs) i w e) (place.behind i w b e)));
  }

-- a Put of t that inserts its version at its place
pub versions_placed : (S : Setup) (a : TreeFacts S) (t : Txn) (x : Cell) (v : Option ℤ) (P : List Event) (L M : Cell → List Version) (at : ℕ) → Lawful S (Put t x v ∷ P) → HoldsVersions S P L →
    IsFalse (is_writer (L x) t.0) → IsPlaceOf S P x t.0 at (writers_of (L x)) → M x ≡ insert (L x) at (t, v) → ((y : Cell) → IsFalse (same_cell y x) → M y ≡ L y) → HoldsVersions S (Put t x v ∷ P) M
versions_placed S a t x v P L M at l h absent place e f = put_cells S a t x v P L M l h f
    (subst (λ (vs : List Version). HoldsCell S (Put t x v ∷ P) x vs) (sym e) (cell_placed S a t x v P (L x) l (cell_of S P L x h) absent at place))
