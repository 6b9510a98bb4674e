-- The place of a transaction's version among the existing ones.
use Rattle.std.proofs.Common.{ℕ, ◌≡◌, ◌≢◌, suc, ◌+◌, ◌≤◌, Bool, true, false, cond, eqb, IfSome, List, Option, Some, None}
use Rattle.std.proofs.Common.{refl, sym, ap, subst, ◌∙◌, arith, inl, inr, length, get_or, slice_get, ◌<◌, eqb-true, eq-eqb}
use Rattle.std.specs.Option.{option_map}
use Rattle.std.proofs.lemmas.Bool.{both_ways, cases_order, and_parts, and_from, or_cases, not-true, not_from_false}
use Rattle.std.proofs.lemmas.Option.{slice_get_within, get_or_from_slice_get}
use Rattle.std.proofs.lemmas.List.{length-map}
use Rattle.teb_rules.specs.declared.names.Cell.{Cell}
use Rattle.teb_rules.specs.declared.history.Event.{Event}
use Rattle.teb_rules.specs.history.Phases.{aborted, unfinished, begun_count}
use Rattle.teb_rules.specs.history.Accesses.{wrote}
use Rattle.teb_rules.specs.Setup.{Setup}
use Rattle.teb_rules.specs.Serializes.{In, Pairs}
use Rattle.teb_rules.specs.Versions.{precedes}
use Rattle.teb_rules.specs.laws.TreeFacts.{TreeFacts}
use Rattle.teb_rules.specs.laws.Lawful.{Lawful}
use Rattle.teb_rules.specs.laws.Laws.{IsWriter}
use Rattle.teb_rules.proofs.lemmas.laws.Laws.{lawful_orders}
use Rattle.teb_rules.proofs.lemmas.laws.Lists.{Pairs-weaker}
use Rattle.teb_rules.proofs.lemmas.laws.Pigeons.{distinct-length}
use Rattle.teb_rules.proofs.lemmas.laws.Timeline.{begun_counted}
use Rattle.teb_rules.proofs.lemmas.laws.VersionOrder.{precedes_irreflexive}
use Rattle.version_chain.specs.declared.chains.Found.{Found}
use Rattle.version_chain.specs.Lists.{Version, writers_of, is_writer, first_place, last_place, own_or_last}
use Rattle.version_chain.proofs.Places.{IsLast}
use Rattle.phase_api.specs.Calls.{Writes}
use Rattle.phase_api.specs.Versions.{HoldsVersions, IsPlaceOf, has_version}
use Rattle.candidate_reads.specs.declared.placing.Place.{Place}
use Rattle.candidate_reads.specs.Places.{place_from}
use Rattle.candidate_reads.proofs.InOrder.{at-In, In_among, Pairs-at, is_last, own_found, own_there, own_absent}
use Rattle.candidate_reads.proofs.Shows.{version_parts}
use Rattle.candidate_reads.proofs.Sources.{Strict, writer_began, own_at, other_at, nothing_at}

pub unfinished_stands : (H : List Event) (t : ℕ) → unfinished H t ≡ true → aborted H t ≡ false
unfolding unfinished
unfinished_stands H t h = not-true _ (and_parts _ _ h).1

-- p is the place of t's version of x among the versions vs
abbrev pub IsPlaced : Setup → List Event → Cell → ℕ → List Version → Place → Type 0
IsPlaced S H x t vs p = IsPlaceOf S H x t p.at (writers_of vs) × (is_writer vs t ≡ true → slice_get (writers_of vs) p.at ≡ Some t) × (p.is_there ≡ is_writer vs t)

-- f is t's version in vs, or else the last version that precedes t's
abbrev pub IsFound : Setup → List Event → Cell → ℕ → List Version → Option Found → Type 0
IsFound S H x t vs f = (option_map (λ v. v.at) f ≡ own_or_last t (λ w. precedes S H x w t) (writers_of vs)) × IfSome f (λ v. slice_get vs v.at ≡ Some (v.writer, v.value))

-- t's own version is at its place
own_place : (S : Setup) (H : List Event) (x : Cell) (t i : ℕ) (ws : List ℕ) → Pairs (Strict S H x) ws → i < length ws → slice_get ws i ≡ Some t → IsPlaceOf S H x t i ws
own_place S H x t i ws order here it = record {
  within = omega arith;
  before = λ j w lt g. subst (λ (z : ℕ). precedes S H x w z ≡ true) own
      (subst (λ (z : ℕ). precedes S H x z (get_or ws i 0) ≡ true) (get_or_from_slice_get ws j w 0 g) (Pairs-at (Strict S H x) ws j i order lt here).0);
  behind = λ j w le g. elim (cases_order i j) [
    | inl e ↦ subst (λ (z : ℕ). precedes S H x z t ≡ false) (sym own ∙ (ap (λ (k : ℕ). get_or ws k 0) e ∙ get_or_from_slice_get ws j w 0 g)) (precedes_irreflexive S H x t)
    | inr o ↦ elim o [
      | inl lt ↦ subst (λ (z : ℕ). precedes S H x w z ≡ false) own
          (subst (λ (z : ℕ). precedes S H x z (get_or ws i 0) ≡ false) (get_or_from_slice_get ws j w 0 g) (Pairs-at (Strict S H x) ws i j order lt (slice_get_within ws j w g)).1)
      | inr gt ↦ absurd (omega arith)
    ]
  ];
}
  where
    own : get_or ws i 0 ≡ t
    own = get_or_from_slice_get ws i t 0 it

-- a new version belongs directly after the last one that precedes it
module _ (S : Setup) (H : List Event) (x : Cell) (t : ℕ) (ws : List ℕ) (order : Pairs (Strict S H x) ws)
    (along : (u v : ℕ) → In u ws → In v ws → precedes S H x u v ≡ true → precedes S H x v t ≡ true → precedes S H x u t ≡ true) where
  place_behind : (i : ℕ) → IsLast (λ w. precedes S H x w t) ws (Some i) → IsPlaceOf S H x t (i + 1) ws
  place_behind i r = record {
    within = let z = r.0 in omega arith;
    before = λ j w lt g. let e = get_or_from_slice_get ws j w 0 g in subst (λ (z : ℕ). precedes S H x z t ≡ true) e (elim (cases_order j i) [
      | inl q ↦ subst (λ (k : ℕ). precedes S H x (get_or ws k 0) t ≡ true) (sym q) r.1
      | inr o ↦ elim o [
        | inl below ↦ along (get_or ws j 0) (get_or ws i 0) (at-In ws j (slice_get_within ws j w g)) (at-In ws i r.0) (Pairs-at (Strict S H x) ws j i order below r.0).0 r.1
        | inr above ↦ absurd (omega arith)
      ]
    ]);
    behind = λ j w le g. subst (λ (z : ℕ). precedes S H x z t ≡ false) (get_or_from_slice_get ws j w 0 g) (r.2 j (omega arith) (slice_get_within ws j w g));
  }

  place_first : IsLast (λ w. precedes S H x w t) ws None → IsPlaceOf S H x t 0 ws
  place_first r = record {
    within = omega arith;
    before = λ j w lt g. absurd (omega arith);
    behind = λ j w le g. subst (λ (z : ℕ). precedes S H x z t ≡ false) (get_or_from_slice_get ws j w 0 g) (r j (omega arith) (slice_get_within ws j w g));
  }

module _ (S : Setup) (H : List Event) (L : Cell → List Version) (l : Lawful S H) (h : HoldsVersions S H L) (x : Cell) where
  writes : (w : ℕ) → In w (writers_of (L x)) → has_version H x w ≡ true
  writes w i = sym (h.writers x w) ∙ In_among w (writers_of (L x)) i

  writer : (t w : ℕ) → In w (writers_of (L x)) → IsWriter H x t w
  writer t w i = let p = version_parts H x w (writes w i) in record { stands = p.1; puts = inl p.0 }

  writers_counted : length (writers_of (L x)) ≤ suc (begun_count H)
  writers_counted = distinct-length (suc (begun_count H)) (writers_of (L x))
      (Pairs-weaker (Strict S H x) (λ u w. u ≢ w) (writers_of (L x)) (λ u w i j s e. both_ways _ (subst (λ (z : ℕ). precedes S H x u z ≡ false) e (precedes_irreflexive S H x u)) s.0) (h.order x))
      (λ w i. let z = (begun_counted S H w l (writer_began S H w x l (version_parts H x w (writes w i)).0)).1 in omega arith)

  -- a cell has at most one version of each transaction that has begun
  pub versions_counted : length (L x) ≤ suc (begun_count H)
  versions_counted = rw length-map at writers_counted

  -- the index of a version is at most the number of transactions that have begun
  pub found_counted : (f : Option Found) → IfSome f (λ v. slice_get (L x) v.at ≡ Some (v.writer, v.value)) → IfSome f (λ v. v.at ≤ begun_count H)
  found_counted None g = g
  found_counted (Some v) g = let within = slice_get_within (L x) v.at (v.writer, v.value) g in let most = versions_counted in omega arith

  place_own : (t i : ℕ) → Some i ≡ first_place (λ w. eqb w t) (writers_of (L x)) → IsPlaceOf S H x t i (writers_of (L x))
  place_own t i e = let r = own_found (writers_of (L x)) t i e in own_place S H x t i (writers_of (L x)) (h.order x) r.0 r.1

  -- a transaction that may write the cell and has no version of it is unfinished
  pub about_to : (t : ℕ) → aborted H t ≡ false → Writes H t x → None ≡ first_place (λ w. eqb w t) (writers_of (L x)) → unfinished H t ≡ true
  about_to t na w e = elim (or_cases (wrote H t x) (unfinished H t) w) [
    | inl p ↦ absurd (both_ways _ (sym (h.writers x t) ∙ own_absent (writers_of (L x)) t e) (and_from _ _ p (not_from_false _ na)))
    | inr u ↦ u
  ]

  module _ (a : TreeFacts S) (t : ℕ) (na : aborted H t ≡ false) (w : Writes H t x) (e : None ≡ first_place (λ w. eqb w t) (writers_of (L x))) where
    along_t : (u v : ℕ) → In u (writers_of (L x)) → In v (writers_of (L x)) → precedes S H x u v ≡ true → precedes S H x v t ≡ true → precedes S H x u t ≡ true
    along_t u v i j p q = (lawful_orders S a H l).transitive x t u v t (writer t u i) (writer t v j) (record { stands = na; puts = inr (refl, about_to t na w e) }) p q

    place_after : (i : ℕ) → Some i ≡ last_place (λ w. precedes S H x w t) (writers_of (L x)) → IsPlaceOf S H x t (i + 1) (writers_of (L x))
    place_after i q = place_behind S H x t (writers_of (L x)) (h.order x) along_t i (is_last (λ w. precedes S H x w t) (writers_of (L x)) (Some i) q)

    place_at_front : None ≡ last_place (λ w. precedes S H x w t) (writers_of (L x)) → IsPlaceOf S H x t 0 (writers_of (L x))
    place_at_front q = place_first S H x t (writers_of (L x)) (h.order x) along_t (is_last (λ w. precedes S H x w t) (writers_of (L x)) None q)

  -- the version that was found determines the place of t's version
  pub placed : TreeFacts S → (t : ℕ) → aborted H t ≡ false → Writes H t x → (f : Option Found) → IsFound S H x t (L x) f → IsPlaced S H x t (L x) (place_from f t)
  placed a t na w None r =
      let none = nothing_at t _ (writers_of (L x)) r.0 in
      let absent = own_absent (writers_of (L x)) t none.0 in
      (place_at_front a t na w none.0 none.1, λ o. absurd (both_ways _ absent o), sym absent)
  placed a t na w (Some v) r = go (eqb v.writer.0 t) refl
    where
      go : (b : Bool) → eqb v.writer.0 t ≡ b → IsPlaced S H x t (L x) (cond b (record { at = v.at; is_there = true }) (record { at = v.at + 1; is_there = false }))
      go true e =
          let own = own_at (L x) t v.at _ (v.writer, v.value) r.0 r.1 (eqb-true _ _ e) in
          (place_own t v.at own, λ _. (own_found (writers_of (L x)) t v.at own).1, sym (own_there (writers_of (L x)) t v.at own))
      go false e =
          let last = other_at (L x) t v.at _ (v.writer, v.value) r.0 r.1 (λ q. both_ways _ e (eq-eqb _ _ q)) in
          let absent = own_absent (writers_of (L x)) t last.0 in
          (place_after a t na w last.0 v.at last.1, λ o. absurd (both_ways _ absent o), sym absent)
