-- One more event: which transactions have a version, its value, and the version order.
use Rattle.std.proofs.Common.{ℕ, ◌≡◌, ◌≢◌, ◌≤◌, ◌<◌, min, Bool, true, false, not, ◌||◌, ◌&&◌, eqb, List, [], ◌∷◌, Option, Some}
use Rattle.std.proofs.Common.{refl, sym, ap, ap₂, subst, ◌∙◌, arith, inl, inr, ℤ, length, ltb-true, eq-eqb, eqb-true, ne_eqb}
use Rattle.std.proofs.lemmas.Bool.{both_ways}
use Rattle.teb_rules.specs.declared.names.Cell.{Cell}
use Rattle.teb_rules.specs.declared.names.Txn.{Txn}
use Rattle.teb_rules.specs.declared.names.Cause.{Cause}
use Rattle.teb_rules.proofs.lemmas.names.Bools.{and_true}
use Rattle.teb_rules.proofs.lemmas.names.SameCells.{same_itself}
use Rattle.teb_rules.specs.declared.history.Event.{Event}
use Rattle.teb_rules.specs.declared.history.Event.TheVariants.{Put, Gone}
use Rattle.teb_rules.specs.history.Phases.{is_began, is_gone, began_at, aborted}
use Rattle.teb_rules.specs.history.Accesses.{is_put, put_at, wrote, last_put}
use Rattle.teb_rules.specs.history.Positions.{first, first_event, newest, upto}
use Rattle.teb_rules.proofs.lemmas.history.Newest.{wrote-cons, aborted-cons}
use Rattle.teb_rules.specs.Setup.{Setup}
use Rattle.teb_rules.specs.Serializes.{In, Pairs}
use Rattle.teb_rules.specs.Versions.{precedes}
use Rattle.teb_rules.specs.laws.TreeFacts.{TreeFacts}
use Rattle.teb_rules.specs.laws.Lawful.{Lawful}
use Rattle.teb_rules.proofs.lemmas.laws.Positions.{upto_all, upto_cons, first-upto}
use Rattle.teb_rules.proofs.lemmas.laws.NodeFacts.{precedes-upto}
use Rattle.teb_rules.proofs.lemmas.laws.ReadRule.{put_skip}
use Rattle.teb_rules.proofs.lemmas.laws.Lists.{Pairs-weaker}
use Rattle.teb_rules.proofs.lemmas.laws.VersionOrder.{precedes_irreflexive}
use Rattle.version_chain.specs.Lists.{Version, writers_of}
use Rattle.phase_api.specs.Versions.{has_version, HaveLastValues}
use Rattle.candidate_reads.proofs.Shows.{version_parts}
use Rattle.candidate_reads.proofs.Sources.{Strict, writer_began}

version-cons : (e : Event) (P : List Event) (x : Cell) (w : ℕ) → has_version (e ∷ P) x w ≡ ((is_put w x e || wrote P w x) && not (is_gone w e || aborted P w))
version-cons e P x w = ap₂ (λ (a b : Bool). a && not b) (wrote-cons e P w x) (aborted-cons e P w)

-- the transactions with a version of x: unchanged, one more, or one fewer
pub version_same : (e : Event) (P : List Event) (x : Cell) (w : ℕ) → is_put w x e ≡ false → is_gone w e ≡ false → has_version (e ∷ P) x w ≡ has_version P x w
version_same e P x w p g = version-cons e P x w ∙ rw (p, g) refl

is_put-own : (t : Txn) (x : Cell) (v : Option ℤ) (w : ℕ) → is_put w x (Put t x v) ≡ eqb t.0 w
is_put-own t x v w = rw (same_itself x) (and_true (eqb t.0 w))

pub version_put : (t : Txn) (v : Option ℤ) (P : List Event) (x : Cell) (w : ℕ) → aborted P t.0 ≡ false → has_version (Put t x v ∷ P) x w ≡ (eqb t.0 w || has_version P x w)
version_put t v P x w na = version-cons (Put t x v) P x w ∙ ap (λ (b : Bool). (b || wrote P w x) && not (aborted P w)) (is_put-own t x v w) ∙ go (eqb t.0 w) refl
  where
    go : (b : Bool) → eqb t.0 w ≡ b → ((b || wrote P w x) && not (aborted P w)) ≡ (b || (wrote P w x && not (aborted P w)))
    go true e = ap not (subst (λ (z : ℕ). aborted P z ≡ false) (eqb-true t.0 w e) na)
    go false e = refl

pub version_gone : (t : Txn) (c : Cause) (P : List Event) (x : Cell) (w : ℕ) → has_version (Gone t c ∷ P) x w ≡ (not (eqb t.0 w) && has_version P x w)
version_gone t c P x w = version-cons (Gone t c) P x w ∙ go (eqb t.0 w) (wrote P w x) (aborted P w)
  where
    go : (a b d : Bool) → (b && not (a || d)) ≡ (not a && (b && not d))
    go true true d = refl
    go true false d = refl
    go false b d = refl

-- the values of the other transactions' versions do not change
pub values_same : (e : Event) (P : List Event) (x : Cell) (vs : List Version) → ((u : ℕ) → In u (writers_of vs) → is_put u x e ≡ false) → HaveLastValues P x vs → HaveLastValues (e ∷ P) x vs
values_same e P x [] f h = tt
values_same e P x (v ∷ vs) f h = (put_skip e P v.0.0 x (f v.0.0 (inl refl)) ∙ h.0, values_same e P x vs (λ u i. f u (inr i)) h.1)

pub value_put : (t : Txn) (x : Cell) (v : Option ℤ) (P : List Event) → last_put (Put t x v ∷ P) t.0 x ≡ Some v
unfolding last_put
value_put t x v P = rw (eq-eqb t.0 t.0 refl, same_itself x) refl

pub put_by_other : (t : Txn) (x y : Cell) (v : Option ℤ) (u : ℕ) → t.0 ≢ u → is_put u y (Put t x v) ≡ false
put_by_other t x y v u ne = rw (ne_eqb t.0 u ne) refl

-- the history before the newest event
before_newest : (e : Event) (P : List Event) → upto (length P) (e ∷ P) ≡ P
before_newest e P = upto_cons (length P) e P (omega arith) ∙ upto_all (length P) P (omega arith)

stays : (q : Event → Bool) (e : Event) (P : List Event) → first_event q P < length P → first_event q (e ∷ P) < length P
unfolding first_event
stays q e P h =
    let m : first (newest q) P ≡ min (length P) (first (newest q) (e ∷ P)) = ap (first (newest q)) (sym (before_newest e P))
    ∙ first-upto (newest q) (length P) (e ∷ P) (let z : length P ≤ length (e ∷ P) = omega arith in z) in
    omega arith

pub began_stays : (e : Event) (P : List Event) (u : ℕ) → began_at P u < length P → began_at (e ∷ P) u < length P
unfolding began_at
began_stays e P u h = stays (is_began u) e P h

put_stays : (e : Event) (P : List Event) (u : ℕ) (x : Cell) → wrote P u x ≡ true → put_at (e ∷ P) u x < length P
unfolding wrote put_at
put_stays e P u x h = stays (is_put u x) e P (ltb-true _ _ h)

-- a later event does not change the order of a version and a transaction that has begun
pub precedes_stays : (S : Setup) (a : TreeFacts S) (e : Event) (P : List Event) (x : Cell) (u w : ℕ) → Lawful S (e ∷ P) → began_at P u < length P → began_at P w < length P → wrote P u x ≡ true → u ≢ w
    → precedes S P x u w ≡ precedes S (e ∷ P) x u w
precedes_stays S a e P x u w l bu bw pu ne =
    ap (λ (Q : List Event). precedes S Q x u w) (sym (before_newest e P))
    ∙ precedes-upto S a (e ∷ P) (length P) x u w l (let z : length P ≤ length (e ∷ P) = omega arith in z) (began_stays e P u bu) (began_stays e P w bw) (put_stays e P u x pu) ne

earlier : (S : Setup) (e : Event) (P : List Event) → Lawful S (e ∷ P) → Lawful S P
unfolding Lawful
earlier S e P l = l.1

pub strict_stays : (S : Setup) (a : TreeFacts S) (e : Event) (P : List Event) (x : Cell) (u w : ℕ) → Lawful S (e ∷ P) → has_version P x u ≡ true → has_version P x w ≡ true → Strict S P x u w
    → Strict S (e ∷ P) x u w
strict_stays S a e P x u w l hu hw s =
    let pu = (version_parts P x u hu).0 in
    let pw = (version_parts P x w hw).0 in
    let bu = writer_began S P u x (earlier S e P l) pu in
    let bw = writer_began S P w x (earlier S e P l) pw in
    let ne : u ≢ w = λ q. both_ways _ (precedes_irreflexive S P x w) (subst (λ (z : ℕ). precedes S P x z w ≡ true) q s.0) in
    (sym (precedes_stays S a e P x u w l bu bw pu ne) ∙ s.0, sym (precedes_stays S a e P x w u l bw bu pw (λ q. ne (sym q))) ∙ s.1)

pub order_stays : (S : Setup) (a : TreeFacts S) (e : Event) (P : List Event) (x : Cell) (ws : List ℕ) → Lawful S (e ∷ P) → ((w : ℕ) → In w ws → has_version P x w ≡ true) → Pairs (Strict S P x) ws
    → Pairs (Strict S (e ∷ P) x) ws
order_stays S a e P x ws l f h = Pairs-weaker (Strict S P x) (Strict S (e ∷ P) x) ws (λ u w i j s. strict_stays S a e P x u w l (f u i) (f w j) s) h
