-- The last committed version of a cell gives its value in the final table.
use Rattle.std.proofs.Common.{ℕ, zero, suc, ◌≡◌, ◌⊎◌, ◌<◌, Bool, true, not, ◌&&◌, eqb, List, [], ◌∷◌, Option, Some, None}
use Rattle.std.proofs.Common.{refl, sym, ap, subst, ◌∙◌, arith, inl, inr, length, get_or, filter, unwrap_or, ℤ, slice_get}
use Rattle.std.proofs.lemmas.Bool.{both_ways, cases_order, and_from, and_parts, not-true, not_from_false}
use Rattle.teb_rules.proofs.lemmas.names.Bools.{and_true}
use Rattle.teb_rules.specs.declared.names.Cell.{Cell}
use Rattle.teb_rules.specs.names.Rows.{row_of}
use Rattle.teb_rules.specs.declared.history.Event.{Event}
use Rattle.teb_rules.specs.history.Phases.{txns, begun_count, committed}
use Rattle.teb_rules.specs.history.Accesses.{wrote, last_put}
use Rattle.teb_rules.specs.Setup.{Setup, Store}
use Rattle.teb_rules.specs.Serializes.{In, Pairs, value_of, final_table}
use Rattle.teb_rules.specs.Versions.{precedes, latest}
use Rattle.teb_rules.specs.laws.Lawful.{Lawful}
use Rattle.teb_rules.proofs.lemmas.laws.Timeline.{begun_counted}
use Rattle.teb_rules.proofs.lemmas.laws.Locks.{In-txns}
use Rattle.teb_rules.proofs.lemmas.laws.Grows.{not_aborted}
use Rattle.teb_rules.proofs.lemmas.laws.Serial.{In-filter, filter-In}
use Rattle.teb_rules.proofs.lemmas.laws.ReadRule.{list_all_at, list_all_from}
use Rattle.teb_rules.proofs.lemmas.laws.VersionOrder.{precedes_irreflexive}
use Rattle.version_chain.specs.Lists.{Version, writers_of, first_place, last_place, own_or_last}
use Rattle.version_chain.proofs.Places.{IsLast}
use Rattle.phase_api.specs.Versions.{HoldsVersions, HaveLastValues, has_version}
use Rattle.candidate_reads.proofs.InOrder.{among_In, In_among, at-In, In-at, Pairs-at, find_only, find_nothing, own_there, is_last}
use Rattle.candidate_reads.proofs.Shows.{version_parts}
use Rattle.candidate_reads.proofs.Sources.{Strict, writer_began, at-writer}

-- in a list in version order, the last version that passes a test is the latest of all that pass
latest_place : (S : Setup) (H : List Event) (x : Cell) (p : ℕ → Bool) (ws : List ℕ) → Pairs (Strict S H x) ws → ((w : ℕ) → p w ≡ true → In w ws) → ((w : ℕ) → In w ws → In w (txns H)) →
    (i : ℕ) → IsLast p ws (Some i) → latest S H x (filter p (txns H)) ≡ Some (get_or ws i 0)
unfolding latest
latest_place S H x p ws order all begin i r =
    let w = get_or ws i 0 in
    let passes : In w (filter p (txns H)) = In-filter p w (txns H) (begin w (at-In ws i r.0)) r.1 in
    let side : ((u : ℕ) → In u (filter p (txns H)) → (Strict S H x u w) ⊎ (u ≡ w)) = λ u j.
    let f = filter-In p u (txns H) j in
    let k = In-at u ws (all u f.1) in
    elim (cases_order k.0 i) [
      | inl e ↦ inr (sym k.2 ∙ ap (λ (z : ℕ). get_or ws z 0) e)
      | inr o ↦ elim o [
        | inl lt ↦ inl (subst (λ (z : ℕ). Strict S H x z w) k.2 (Pairs-at (Strict S H x) ws k.0 i order lt r.0))
        | inr gt ↦ absurd (both_ways _ (r.2 k.0 gt k.1) (subst (λ (z : ℕ). p z ≡ true) (sym k.2) f.1))
      ]
    ] in
    find_only _ _ w passes
    (list_all_from _ _ (λ v j. elim (side v j) [ inl s ↦ not_from_false _ s.1 | inr k ↦ subst (λ (z : ℕ). not (precedes S H x w z) ≡ true) (sym k) (not_from_false _ (precedes_irreflexive S H x w)) ]))
    (λ u j h. elim (side u j) [ inl s ↦ absurd (both_ways _ (not-true _ (list_all_at _ _ w h passes)) s.0) | inr k ↦ k ])

pub latest_nobody : (S : Setup) (H : List Event) (x : Cell) (us : List ℕ) → ((u : ℕ) → In u us → ⊥) → latest S H x us ≡ None
unfolding latest
latest_nobody S H x us f = find_nothing _ us f

-- the value at an index is the last one that its writer put
at-value : (H : List Event) (x : Cell) (vs : List Version) (i : ℕ) (v : Version) → HaveLastValues H x vs → slice_get vs i ≡ Some v → last_put H v.0.0 x ≡ Some v.1
at-value H x [] i v l e = absurd (cc)
at-value H x (p ∷ ps) zero v l e = subst (λ (z : Version). last_put H z.0.0 x ≡ Some z.1) (let q : p ≡ v = cc in q) l.0
at-value H x (p ∷ ps) (suc i) v l e = at-value H x ps i v l.1 e

-- w is committed and has put x
abbrev pub is_final : List Event → Cell → ℕ → Bool
is_final H x w = committed H w && wrote H w x

module _ (S : Setup) (H : List Event) (x : Cell) (L : Cell → List Version) (l : Lawful S H) (h : HoldsVersions S H L) where
  have : (w : ℕ) → In w (writers_of (L x)) → has_version H x w ≡ true
  have w i = sym (h.writers x w) ∙ In_among w (writers_of (L x)) i

  -- no version is of transaction 0, or of one that has not begun
  pub of_nobody : (t : ℕ) → (0 < t → begun_count H < t) → (p : ℕ → Bool) → own_or_last t p (writers_of (L x)) ≡ last_place p (writers_of (L x))
  of_nobody t nobody p = go (first_place (λ w. eqb w t) (writers_of (L x))) refl
    where
      go : (o : Option ℕ) → o ≡ first_place (λ w. eqb w t) (writers_of (L x)) → elim o [ None ↦ last_place p (writers_of (L x)) | Some i ↦ Some i ] ≡ last_place p (writers_of (L x))
      go None e = refl
      go (Some i) e = absurd (
          let wrote = (version_parts H x t (sym (h.writers x t) ∙ own_there (writers_of (L x)) t i e)).0 in
          let counted = begun_counted S H t l (writer_began S H t x l wrote) in
          let above = nobody counted.0 in
          omega (arith, counted.1))

  final_in : (w : ℕ) → is_final H x w ≡ true → In w (writers_of (L x))
  final_in w f = let p = and_parts _ _ f in among_In w (writers_of (L x)) (h.writers x w ∙ and_from _ _ p.1 (not_from_false _ (not_aborted S H w l p.0)))

  begun_in : (w : ℕ) → In w (writers_of (L x)) → In w (txns H)
  begun_in w i = In-txns S H w l (writer_began S H w x l (version_parts H x w (have w i)).0)

  -- a writer in the list passes both tests or neither
  same_test : (w : ℕ) → In w (writers_of (L x)) → is_final H x w ≡ committed H w
  same_test w i = let e = (version_parts H x w (have w i)).0 in ap (λ (b : Bool). committed H w && b) e ∙ and_true (committed H w)

  writer_there : (i : ℕ) → i < length (writers_of (L x)) → In (get_or (writers_of (L x)) i 0) (writers_of (L x))
  writer_there i low = at-In (writers_of (L x)) i low

  final_last : (o : Option ℕ) → IsLast (committed H) (writers_of (L x)) o → IsLast (is_final H x) (writers_of (L x)) o
  final_last None r = λ j low high. same_test _ (writer_there j high) ∙ r j low high
  final_last (Some i) r = (r.0, same_test _ (writer_there i r.0) ∙ r.1, λ j low high. same_test _ (writer_there j high) ∙ r.2 j low high)

  module _ (R : List (Cell × ℤ)) (n : ℕ) where
    abbrev store : Store
    store = record { setup = S; tables = n; rows = R }

    -- the value at the last committed place is the final one
    pub final_there : (i : ℕ) (v : Version) → Some i ≡ last_place (committed H) (writers_of (L x)) → slice_get (L x) i ≡ Some v → v.1 ≡ final_table store H x
    unfolding final_table
    final_there i v e g =
        let last = latest_place S H x (is_final H x) (writers_of (L x)) (h.order x) final_in begun_in i (final_last (Some i) (is_last (committed H) (writers_of (L x)) (Some i) e)) in
        sym (ap (value_of store H x) (last ∙ ap (λ (z : ℕ). Some z) (at-writer (L x) i v g).0) ∙ ap (λ (o : Option (Option ℤ)). unwrap_or o None) (at-value H x (L x) i v (h.values x) g))

    -- if no version is committed, the starting row is the final one
    pub final_row : None ≡ last_place (committed H) (writers_of (L x)) → row_of R x ≡ final_table store H x
    unfolding final_table
    final_row e =
        let r = final_last None (is_last (committed H) (writers_of (L x)) None e) in
        sym (ap (value_of store H x) (latest_nobody S H x (filter (is_final H x) (txns H)) (λ u j.
        let f = filter-In (is_final H x) u (txns H) j in
        let k = In-at u (writers_of (L x)) (final_in u f.1) in
        both_ways _ (r k.0 (omega arith) k.1) (subst (λ (z : ℕ). is_final H x z ≡ true) (sym k.2) f.1))))
