-- The last version in the chain that is seen is the one that the read rule gives.
use Rattle.std.proofs.Common.{ℕ, ◌≡◌, ◌⊎◌, zero, suc, ◌<◌, Bool, true, false, not, eqb, List, [], ◌∷◌, Option, Some, None, refl}
use Rattle.std.proofs.Common.{sym, ap, subst, ◌∙◌, arith, inl, inr, length, get_or, filter, unwrap_or, ltb-true, ℤ, slice_get}
use Rattle.std.proofs.lemmas.Bool.{both_ways, cases_order, and_from, not-true, not_from_false, false_from_ne_true}
use Rattle.std.proofs.lemmas.Option.{get_or_from_slice_get}
use Rattle.teb_rules.specs.declared.names.Cell.{Cell}
use Rattle.teb_rules.specs.names.Rows.{row_of}
use Rattle.teb_rules.specs.declared.history.Event.{Event}
use Rattle.teb_rules.specs.history.Phases.{txns, begun, began_at, aborted}
use Rattle.teb_rules.specs.history.Accesses.{wrote, last_put}
use Rattle.teb_rules.specs.Setup.{Setup}
use Rattle.teb_rules.specs.Serializes.{In, Pairs}
use Rattle.teb_rules.specs.Versions.{precedes, sees, latest, source, version, read}
use Rattle.teb_rules.specs.laws.Lawful.{Lawful}
use Rattle.teb_rules.proofs.lemmas.laws.Timeline.{put_order, begun_counted}
use Rattle.teb_rules.proofs.lemmas.laws.Locks.{In-txns}
use Rattle.teb_rules.proofs.lemmas.laws.Serial.{In-filter, filter-In}
use Rattle.teb_rules.proofs.lemmas.laws.ReadRule.{list_all_at, list_all_from, sees_parts}
use Rattle.teb_rules.proofs.lemmas.laws.VersionOrder.{precedes_irreflexive}
use Rattle.version_chain.specs.Lists.{Version, writers_of, first_place, last_place, own_or_last}
use Rattle.version_chain.proofs.Places.{IsLast, last_place-found, own_or_last_cases}
use Rattle.phase_api.specs.Versions.{HoldsVersions, HaveLastValues, has_version}
use Rattle.candidate_reads.proofs.InOrder.{among_In, In_among, at-In, In-at, Pairs-at, find_only, find_nothing, own_found, own_absent}
use Rattle.candidate_reads.proofs.Shows.{version_parts}

-- u's version precedes w's, and not the other way round
abbrev pub Strict : Setup → List Event → Cell → ℕ → ℕ → Type 0
Strict S H x u w = (precedes S H x u w ≡ true) × (precedes S H x w u ≡ false)

-- a transaction that has put a cell has begun
pub writer_began : (S : Setup) (H : List Event) (w : ℕ) (x : Cell) → Lawful S H → wrote H w x ≡ true → began_at H w < length H
unfolding wrote
writer_began S H w x l h = let p = ltb-true _ _ h in let o = put_order S H w x l p in let z = o.0 in omega arith

pub writer_counted : (S : Setup) (H : List Event) (w : ℕ) (x : Cell) → Lawful S H → wrote H w x ≡ true → 0 < w
writer_counted S H w x l h = (begun_counted S H w l (writer_began S H w x l h)).0

pub begun_place : (H : List Event) (t : ℕ) → begun H t ≡ true → began_at H t < length H
unfolding begun
begun_place H t h = ltb-true _ _ h

-- in a list in version order, the last seen writer is the latest of all seen writers
latest_place : (S : Setup) (H : List Event) (x : Cell) (t : ℕ) (ws : List ℕ) → Pairs (Strict S H x) ws → ((w : ℕ) → sees S H x t w ≡ true → In w ws) → ((w : ℕ) → In w ws → In w (txns H)) →
    (i : ℕ) → IsLast (sees S H x t) ws (Some i) → latest S H x (filter (sees S H x t) (txns H)) ≡ Some (get_or ws i 0)
unfolding latest
latest_place S H x t ws order all begin i r =
    let w = get_or ws i 0 in
    let seen : In w (filter (sees S H x t) (txns H)) = In-filter (sees S H x t) w (txns H) (begin w (at-In ws i r.0)) r.1 in
    let side : ((u : ℕ) → In u (filter (sees S H x t) (txns H)) → (Strict S H x u w) ⊎ (u ≡ w)) = λ u j.
    let f = filter-In (sees S H x t) u (txns H) j in
    let k = In-at u ws (all u f.1) in
    elim (cases_order k.0 i) [
      | inl e ↦ inr (sym k.2 ∙ ap (λ (z : ℕ). get_or ws z 0) e)
      | inr o ↦ elim o [
        | inl lt ↦ inl (subst (λ (z : ℕ). Strict S H x z w) k.2 (Pairs-at (Strict S H x) ws k.0 i order lt r.0))
        | inr gt ↦ absurd (both_ways _ (r.2 k.0 gt k.1) (subst (λ (z : ℕ). sees S H x t z ≡ true) (sym k.2) f.1))
      ]
    ] in
    find_only _ _ w seen
    (list_all_from _ _ (λ v j. elim (side v j) [ inl s ↦ not_from_false _ s.1 | inr k ↦ subst (λ (z : ℕ). not (precedes S H x w z) ≡ true) (sym k) (not_from_false _ (precedes_irreflexive S H x w)) ]))
    (λ u j h. elim (side u j) [ inl s ↦ absurd (both_ways _ (not-true _ (list_all_at _ _ w h seen)) s.0) | inr k ↦ k ])

latest_nobody : (S : Setup) (H : List Event) (x : Cell) (us : List ℕ) → ((u : ℕ) → In u us → ⊥) → latest S H x us ≡ None
unfolding latest
latest_nobody S H x us f = find_nothing _ us f

-- the writer at an index, or 0 if there is none
abbrev pub writer_at : List ℕ → Option ℕ → ℕ
writer_at ws None = 0
writer_at ws (Some i) = get_or ws i 0

source_seen : (S : Setup) (H : List Event) (x : Cell) (t : ℕ) (ws : List ℕ) → Pairs (Strict S H x) ws → ((w : ℕ) → sees S H x t w ≡ true → In w ws) → ((w : ℕ) → In w ws → In w (txns H)) →
    unwrap_or (latest S H x (filter (sees S H x t) (txns H))) 0 ≡ writer_at ws (last_place (sees S H x t) ws)
source_seen S H x t ws order all begin = go (last_place (sees S H x t) ws) (last_place-found (sees S H x t) ws)
  where
    go : (o : Option ℕ) → IsLast (sees S H x t) ws o → unwrap_or (latest S H x (filter (sees S H x t) (txns H))) 0 ≡ writer_at ws o
    go None r = ap (λ (o : Option ℕ). unwrap_or o 0) (latest_nobody S H x (filter (sees S H x t) (txns H)) (λ u i.
        let f = filter-In (sees S H x t) u (txns H) i in
        let k = In-at u ws (all u f.1) in
        both_ways _ (r k.0 (omega arith) k.1) (subst (λ (z : ℕ). sees S H x t z ≡ true) (sym k.2) f.1)))
    go (Some i) r = ap (λ (o : Option ℕ). unwrap_or o 0) (latest_place S H x t ws order all begin i r)

-- the source of a read is the last seen writer
source_place : (S : Setup) (H : List Event) (x : Cell) (t : ℕ) (ws : List ℕ) → Lawful S H → wrote H t x ≡ false →
    ((w : ℕ) → In w ws → has_version H x w ≡ true) → ((w : ℕ) → has_version H x w ≡ true → In w ws) → Pairs (Strict S H x) ws →
    source S H t x ≡ writer_at ws (last_place (sees S H x t) ws)
unfolding source
source_place S H x t ws l nw have held order = rw nw (source_seen S H x t ws order
    (λ w h. let p = sees_parts S H x t w h in held w (and_from _ _ p.1 (not_from_false _ p.2)))
    (λ w i. In-txns S H w l (writer_began S H w x l (version_parts H x w (have w i)).0)))

-- the version at an index of a list, and its writer
pub at-writer : (vs : List Version) (i : ℕ) (v : Version) → slice_get vs i ≡ Some v → (get_or (writers_of vs) i 0 ≡ v.0.0) × In v.0.0 (writers_of vs)
at-writer [] i v e = absurd (cc)
at-writer (p ∷ ps) zero v e = let q : p ≡ v = cc in (ap (λ (z : Version). z.0.0) q, inl (ap (λ (z : Version). z.0.0) q))
at-writer (p ∷ ps) (suc i) v e = let r = at-writer ps i v e in (r.0, inr r.1)

at-value : (H : List Event) (x : Cell) (vs : List Version) (i : ℕ) (v : Version) → HaveLastValues H x vs → slice_get vs i ≡ Some v → last_put H v.0.0 x ≡ Some v.1
at-value H x [] i v l e = absurd (cc)
at-value H x (p ∷ ps) zero v l e = subst (λ (z : Version). last_put H z.0.0 x ≡ Some z.1) (let q : p ≡ v = cc in q) l.0
at-value H x (p ∷ ps) (suc i) v l e = at-value H x ps i v l.1 e

version_of : (R : List (Cell × ℤ)) (H : List Event) (x : Cell) (w : ℕ) (v : Option ℤ) → 0 < w → last_put H w x ≡ Some v → version R H x w ≡ v
version_of R H x zero v h e = absurd (omega arith)
version_of R H x (suc w) v h e = ap (λ (o : Option (Option ℤ)). unwrap_or o None) e

-- t reads the value v of cell x from the version of w
abbrev pub IsRead : Setup → List (Cell × ℤ) → List Event → ℕ → Cell → ℕ → Option ℤ → Type 0
IsRead S R H t x w v = (w ≡ (read S R H t x).0) × (v ≡ (read S R H t x).1)

read_from_source : (S : Setup) (R : List (Cell × ℤ)) (H : List Event) (t : ℕ) (x : Cell) (w : ℕ) (v : Option ℤ) → source S H t x ≡ w → version R H x w ≡ v → IsRead S R H t x w v
unfolding read
read_from_source S R H t x w v e f = (sym e, sym f ∙ ap (version R H x) (sym e))

module _ (S : Setup) (R : List (Cell × ℤ)) (H : List Event) (t : ℕ) (x : Cell) (L : Cell → List Version) (l : Lawful S H) (h : HoldsVersions S H L) where
  have : (w : ℕ) → In w (writers_of (L x)) → has_version H x w ≡ true
  have w i = sym (h.writers x w) ∙ In_among w (writers_of (L x)) i

  held : (w : ℕ) → has_version H x w ≡ true → In w (writers_of (L x))
  held w e = among_In w (writers_of (L x)) (h.writers x w ∙ e)

  -- a version in the chain has the value that its writer left
  version_at : (i : ℕ) (v : Version) → slice_get (L x) i ≡ Some v → version R H x v.0.0 ≡ v.1
  version_at i v g = version_of R H x v.0.0 v.1 (writer_counted S H v.0.0 x l (version_parts H x v.0.0 (have v.0.0 (at-writer (L x) i v g).1)).0) (at-value H x (L x) i v (h.values x) g)

  -- t has a version: it reads its own
  pub read_own : (i : ℕ) (v : Version) → Some i ≡ first_place (λ w. eqb w t) (writers_of (L x)) → slice_get (L x) i ≡ Some v → IsRead S R H t x v.0.0 v.1
  unfolding source
  read_own i v e g =
      let own : v.0.0 ≡ t = sym (at-writer (L x) i v g).0 ∙ get_or_from_slice_get (writers_of (L x)) i t 0 (own_found (writers_of (L x)) t i e).1 in
      let wr : wrote H t x ≡ true = (version_parts H x t (have t (subst (λ (z : ℕ). In z (writers_of (L x))) own (at-writer (L x) i v g).1))).0 in
      read_from_source S R H t x v.0.0 v.1 (rw wr (sym own)) (version_at i v g)

  -- if t has no version of x, it has not put x
  not_wrote : aborted H t ≡ false → None ≡ first_place (λ w. eqb w t) (writers_of (L x)) → wrote H t x ≡ false
  not_wrote na e = false_from_ne_true _ (λ w. both_ways _ (own_absent (writers_of (L x)) t e) (h.writers x t ∙ and_from _ _ w (not_from_false _ na)))

  module _ (na : aborted H t ≡ false) (e : None ≡ first_place (λ w. eqb w t) (writers_of (L x))) where
    source_there : source S H t x ≡ writer_at (writers_of (L x)) (last_place (sees S H x t) (writers_of (L x)))
    source_there = source_place S H x t (writers_of (L x)) l (not_wrote na e) have held (h.order x)

    -- t sees a version: it reads the last one that it sees
    pub read_seen : (i : ℕ) (v : Version) → Some i ≡ last_place (sees S H x t) (writers_of (L x)) → slice_get (L x) i ≡ Some v → IsRead S R H t x v.0.0 v.1
    read_seen i v p g = read_from_source S R H t x v.0.0 v.1 (source_there ∙ ap (writer_at (writers_of (L x))) (sym p) ∙ (at-writer (L x) i v g).0) (version_at i v g)

    -- t sees no version: it reads the starting row
    pub read_row : None ≡ last_place (sees S H x t) (writers_of (L x)) → IsRead S R H t x 0 (row_of R x)
    read_row p = read_from_source S R H t x 0 (row_of R x) (source_there ∙ ap (writer_at (writers_of (L x))) (sym p)) refl

  -- t reads its own version, or else the last one that it sees
  pub read_found : aborted H t ≡ false → (i : ℕ) (v : Version) → Some i ≡ own_or_last t (sees S H x t) (writers_of (L x)) → slice_get (L x) i ≡ Some v → IsRead S R H t x v.0.0 v.1
  read_found na i v e g = elim (own_or_last_cases t (sees S H x t) (writers_of (L x)) (Some i) e) [
    | inl own ↦ read_own i v own.0 g
    | inr last ↦ read_seen na last.0 i v last.1 g
  ]

  -- if there is neither, t reads the starting row
  pub read_nothing : aborted H t ≡ false → None ≡ own_or_last t (sees S H x t) (writers_of (L x)) → IsRead S R H t x 0 (row_of R x)
  read_nothing na e = elim (own_or_last_cases t (sees S H x t) (writers_of (L x)) None e) [
    | inl own ↦ absurd (own.1 refl)
    | inr last ↦ read_row na last.0 last.1
  ]

-- the version that was found is t's own if and only if t is its writer
pub own_at : (vs : List Version) (t i : ℕ) (p : ℕ → Bool) (v : Version) → Some i ≡ own_or_last t p (writers_of vs) → slice_get vs i ≡ Some v → v.0.0 ≡ t
    → Some i ≡ first_place (λ w. eqb w t) (writers_of vs)
own_at vs t i p v e g is = elim (own_or_last_cases t p (writers_of vs) (Some i) e) [
  | inl own ↦ own.0
  | inr last ↦ absurd (both_ways _ (own_absent (writers_of vs) t last.0) (In_among t (writers_of vs) (subst (λ (w : ℕ). In w (writers_of vs)) is (at-writer vs i v g).1)))
]

pub other_at : (vs : List Version) (t i : ℕ) (p : ℕ → Bool) (v : Version) → Some i ≡ own_or_last t p (writers_of vs) → slice_get vs i ≡ Some v → (v.0.0 ≡ t → ⊥)
    → (None ≡ first_place (λ w. eqb w t) (writers_of vs)) × (Some i ≡ last_place p (writers_of vs))
other_at vs t i p v e g other = elim (own_or_last_cases t p (writers_of vs) (Some i) e) [
  | inl own ↦ absurd (other (sym (at-writer vs i v g).0 ∙ get_or_from_slice_get (writers_of vs) i t 0 (own_found (writers_of vs) t i own.0).1))
  | inr last ↦ last
]

pub nothing_at : (t : ℕ) (p : ℕ → Bool) (ws : List ℕ) → None ≡ own_or_last t p ws → (None ≡ first_place (λ w. eqb w t) ws) × (None ≡ last_place p ws)
nothing_at t p ws e = elim (own_or_last_cases t p ws None e) [
  | inl own ↦ absurd (own.1 refl)
  | inr last ↦ last
]
