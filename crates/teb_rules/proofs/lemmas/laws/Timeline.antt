-- What a lawful history says of its transactions, by their positions in the whole history.
use Rattle.std.proofs.Common.{◌≡◌, ◌≢◌, ℕ, suc, ◌<◌, ◌≤◌, Bool, true, false, not, ◌&&◌, eqb, ltb, List, [], ◌∷◌, refl, sym, ◌∙◌}
use Rattle.std.proofs.Common.{ap, subst, subst₂, inl, inr, arith, length, ltb-true, ltb-false, lt-ltb, le-ltb, le_refl, eqb-true}
use Rattle.std.proofs.lemmas.Bool.{cases_lt, both_ways, false_from_ne_true, and_parts, not-true}
use Rattle.teb_rules.specs.declared.names.Txn.{Txn}
use Rattle.teb_rules.specs.declared.names.Cell.{Cell}
use Rattle.teb_rules.specs.declared.history.Event.{Event}
use Rattle.teb_rules.specs.declared.history.Event.TheVariants.{Began, Got, Put, Ready, Done, Gone, Told}
use Rattle.teb_rules.specs.history.Accesses.{is_put, is_got, put_at, got_at, wrote, got}
use Rattle.teb_rules.specs.names.Cells.{same_cell}
use Rattle.teb_rules.proofs.lemmas.names.SameCells.{same_cell-true}
use Rattle.teb_rules.specs.declared.names.Spot.{Spot}
use Rattle.teb_rules.specs.history.Phases.{spot_of, is_began, is_done, is_gone, is_ready, began_at, done_at, gone_at, begun, committed, aborted, unfinished, begun_count, kind_of}
use Rattle.teb_rules.specs.history.Positions.{upto, newest, first_event, came}
use Rattle.teb_rules.proofs.lemmas.history.Chains.{length-upto}
use Rattle.teb_rules.specs.laws.Lawful.{Granted, Lawful, MayAccess, MayCommit}
use Rattle.teb_rules.specs.Setup.{Setup}
use Rattle.teb_rules.specs.Tree.{on, side, on_path, side_at, meets}
use Rattle.teb_rules.proofs.lemmas.laws.Positions.{upto_all, upto_cons, has_event, before, now, later, first_cases, first-upto, first-holds, first_not, came-upto}
use Rattle.teb_rules.specs.declared.names.Kind.{Kind}
use Rattle.teb_rules.specs.declared.names.Session.{Session}

pub Lawful-upto : (S : Setup) (H : List Event) (i : ℕ) → Lawful S H → Lawful S (upto i H)
unfolding Lawful upto
Lawful-upto S [] i l = tt
Lawful-upto S (e ∷ P) i l = elim (cases_lt (length P) i) [
  | inl h ↦ rw (lt-ltb (length P) i h) l
  | inr h ↦ rw (le-ltb (length P) i h) (Lawful-upto S P i l.1)
]

pub granted_at : (S : Setup) (H : List Event) (i : ℕ) (e : Event) → Lawful S H → upto (suc i) H ≡ e ∷ upto i H → Granted S (upto i H) e
unfolding Lawful
granted_at S H i e l q = (subst (λ (Q : List Event). Lawful S Q) q (Lawful-upto S H (suc i) l)).0

-- the first event that passes q
pub record FirstEvent (q : Event → Bool) (H : List Event) : Type 0 where
  pub event : Event
  pub is : upto (suc (first_event q H)) H ≡ event ∷ upto (first_event q H) H
  pub passes : q event ≡ true

pub event_first : (q : Event → Bool) (H : List Event) → first_event q H < length H → FirstEvent q H
event_first q H h =
    let r = has_event H (first_event q H) h in
    record { event = r.event; is = r.is; passes = ap (newest q) (sym r.is) ∙ (unfold first_event in first-holds (newest q) H (unfold first_event in h)) }

-- an event that passes q is at or after the first
pub first_event-le : (q : Event → Bool) (H : List Event) (i : ℕ) (e : Event) → i < length H → upto (suc i) H ≡ e ∷ upto i H → q e ≡ true → first_event q H ≤ i
first_event-le q H i e h is p = elim (cases_lt i (first_event q H)) [
  | inl l ↦ absurd (both_ways (q e) (sym (ap (newest q) is) ∙ first_not (newest q) H i (unfold first_event in l)) p)
  | inr l ↦ l
]

unfinished_parts : (H : List Event) (t : ℕ) → unfinished H t ≡ true → (began_at H t < length H) × (length H ≤ done_at H t) × (length H ≤ gone_at H t)
unfolding unfinished begun committed aborted
unfinished_parts H t h =
    let p = and_parts (came H (began_at H t) && not (came H (done_at H t))) (not (came H (gone_at H t))) h in
    let q = and_parts (came H (began_at H t)) (not (came H (done_at H t))) p.0 in
    (ltb-true _ _ q.0, ltb-false _ _ (not-true _ q.1), ltb-false _ _ (not-true _ p.1))

-- if t is unfinished at position i, it began before i, and finishes at i or later, if ever
pub unfinished-upto : (H : List Event) (i t : ℕ) → i ≤ length H → unfinished (upto i H) t ≡ true → (began_at H t < i) × (i ≤ done_at H t) × (i ≤ gone_at H t)
unfolding began_at done_at gone_at first_event
unfinished-upto H i t h u =
    let p = unfinished_parts (upto i H) t u in
    let a = length-upto i H h in
    let b = first-upto (newest (is_began t)) i H h in
    let c = first-upto (newest (is_done t)) i H h in
    let d = first-upto (newest (is_gone t)) i H h in
    (omega arith, omega arith, omega arith)

pub upto-unfinished : (H : List Event) (i t : ℕ) → i ≤ length H → began_at H t < i → i ≤ done_at H t → i ≤ gone_at H t → unfinished (upto i H) t ≡ true
unfolding unfinished begun committed aborted began_at done_at gone_at first_event
upto-unfinished H i t h b d g =
    rw (
      came-upto (newest (is_began t)) i H h,
      came-upto (newest (is_done t)) i H h,
      came-upto (newest (is_gone t)) i H h,
      lt-ltb _ _ b,
      le-ltb _ _ d,
      le-ltb _ _ g,
    ) refl

pub begun-upto : (H : List Event) (i t : ℕ) → i ≤ length H → begun (upto i H) t ≡ ltb (began_at H t) i
unfolding begun began_at first_event
begun-upto H i t h = came-upto (newest (is_began t)) i H h

pub committed-upto : (H : List Event) (i t : ℕ) → i ≤ length H → committed (upto i H) t ≡ ltb (done_at H t) i
unfolding committed done_at first_event
committed-upto H i t h = came-upto (newest (is_done t)) i H h

pub aborted-upto : (H : List Event) (i t : ℕ) → i ≤ length H → aborted (upto i H) t ≡ ltb (gone_at H t) i
unfolding aborted gone_at first_event
aborted-upto H i t h = came-upto (newest (is_gone t)) i H h

pub wrote-upto : (H : List Event) (i t : ℕ) (x : Cell) → i ≤ length H → wrote (upto i H) t x ≡ ltb (put_at H t x) i
unfolding wrote put_at first_event
wrote-upto H i t x h = came-upto (newest (is_put t x)) i H h

pub got-upto : (H : List Event) (i t : ℕ) (x : Cell) → i ≤ length H → got (upto i H) t x ≡ ltb (got_at H t x) i
unfolding got got_at first_event
got-upto H i t x h = came-upto (newest (is_got t x)) i H h

-- the transactions that have begun are numbered from 1
count_grows : (e : Event) (P : List Event) → begun_count P ≤ begun_count (e ∷ P)
unfolding begun_count
count_grows (Began t s k inst) P = omega arith
count_grows (Got t x w v) P = le_refl _
count_grows (Put t x v) P = le_refl _
count_grows (Ready t) P = le_refl _
count_grows (Done t) P = le_refl _
count_grows (Gone t c) P = le_refl _
count_grows (Told t) P = le_refl _

counted : (S : Setup) (t : ℕ) (e : Event) (P : List Event) → Granted S P e → is_began t e ≡ true → (t ≡ suc (begun_count P)) × (begun_count (e ∷ P) ≡ suc (begun_count P))
unfolding begun_count
counted S t (Began u s k inst) P g b = (sym (eqb-true u.0 t b) ∙ g.0, refl)
counted S t (Got u x w v) P g b = absurd (cc)
counted S t (Put u x v) P g b = absurd (cc)
counted S t (Ready u) P g b = absurd (cc)
counted S t (Done u) P g b = absurd (cc)
counted S t (Gone u c) P g b = absurd (cc)
counted S t (Told u) P g b = absurd (cc)

pub begun_counted : (S : Setup) (H : List Event) (t : ℕ) → Lawful S H → began_at H t < length H → (0 < t) × (t ≤ begun_count H)
unfolding Lawful began_at first_event
begun_counted S [] t l h = absurd (omega arith)
begun_counted S (e ∷ P) t l h = elim (first_cases (newest (is_began t)) e P) [
  | before a b ↦ (let r = begun_counted S P t l.1 a in let c = count_grows e P in (r.0, omega arith))
  | now a b c ↦ (let q = counted S t e P l.0 b in (omega arith, omega arith))
  | later a b c ↦ absurd (omega arith)
]

-- a transaction begins once
began_once : (S : Setup) (e : Event) (P : List Event) (t : ℕ) → Granted S P e → Lawful S P → began_at P t < length P → is_began t e ≡ false
began_once S e P t g l h = false_from_ne_true (is_began t e) (λ b. let q = counted S t e P g b in let r = begun_counted S P t l h in absurd (omega arith))

spot_kept : (e : Event) (P : List Event) (t : ℕ) → is_began t e ≡ false → spot_of (e ∷ P) t ≡ spot_of P t
unfolding spot_of
spot_kept (Began u s k inst) P t h = rw h refl
spot_kept (Got u x w v) P t h = refl
spot_kept (Put u x v) P t h = refl
spot_kept (Ready u) P t h = refl
spot_kept (Done u) P t h = refl
spot_kept (Gone u c) P t h = refl
spot_kept (Told u) P t h = refl

pub spot-upto : (S : Setup) (H : List Event) (i t : ℕ) → Lawful S H → i ≤ length H → began_at H t < i → spot_of (upto i H) t ≡ spot_of H t
unfolding Lawful began_at first_event
spot-upto S [] i t l h b = absurd (omega arith)
spot-upto S (e ∷ P) i t l h b = elim (cases_lt (length P) i) [
  | inl m ↦ rw (upto_all i (e ∷ P) m) refl
  | inr m ↦ rw (upto_cons i e P m) (elim (first_cases (newest (is_began t)) e P) [
    | before p q ↦ spot-upto S P i t l.1 m (omega arith) ∙ sym (spot_kept e P t (began_once S e P t l.0 l.1 (unfold began_at first_event in p)))
    | now p q r ↦ absurd (omega arith)
    | later p q r ↦ absurd (omega arith)
  ])
]

spot_hit : (u : Txn) (s : Session) (k : Kind) (inst : ℕ) (P : List Event) (t : ℕ) → eqb u.0 t ≡ true → spot_of (Began u s k inst ∷ P) t ≡ record { kind = k; instance = inst }
unfolding spot_of
spot_hit u s k inst P t h = rw h refl

kind_typed : (S : Setup) (t : ℕ) (e : Event) (P : List Event) → Granted S P e → is_began t e ≡ true → kind_of (e ∷ P) t < S.types
unfolding spot_of
kind_typed S t (Began u s k inst) P g b = subst (λ (z : Spot). z.kind.0 < S.types) (sym (spot_hit u s k inst P t b)) g.1
kind_typed S t (Got u x w v) P g b = absurd (cc)
kind_typed S t (Put u x v) P g b = absurd (cc)
kind_typed S t (Ready u) P g b = absurd (cc)
kind_typed S t (Done u) P g b = absurd (cc)
kind_typed S t (Gone u c) P g b = absurd (cc)
kind_typed S t (Told u) P g b = absurd (cc)

pub kind-upto : (S : Setup) (H : List Event) (i t : ℕ) → Lawful S H → i ≤ length H → began_at H t < i → kind_of (upto i H) t ≡ kind_of H t
kind-upto S H i t l h b = ap (λ (s : Spot). s.kind.0) (spot-upto S H i t l h b)

kind_kept : (e : Event) (P : List Event) (t : ℕ) → is_began t e ≡ false → kind_of (e ∷ P) t ≡ kind_of P t
kind_kept e P t h = ap (λ (s : Spot). s.kind.0) (spot_kept e P t h)

-- the type of a transaction that has begun is one of the setup
pub kind-lt : (S : Setup) (H : List Event) (t : ℕ) → Lawful S H → began_at H t < length H → kind_of H t < S.types
unfolding Lawful began_at first_event
kind-lt S [] t l h = absurd (omega arith)
kind-lt S (e ∷ P) t l h = elim (first_cases (newest (is_began t)) e P) [
  | before a b ↦ rw (kind_kept e P t (began_once S e P t l.0 l.1 (unfold began_at first_event in a))) (kind-lt S P t l.1 a)
  | now a b c ↦ kind_typed S t e P l.0 b
  | later a b c ↦ absurd (omega arith)
]

pub on-upto : (S : Setup) (H : List Event) (i n t : ℕ) → Lawful S H → i ≤ length H → began_at H t < i → on S (upto i H) n t ≡ on S H n t
unfolding on
on-upto S H i n t l h b = ap (on_path S.tree n) (spot-upto S H i t l h b)

pub side-upto : (S : Setup) (H : List Event) (i n t : ℕ) → Lawful S H → i ≤ length H → began_at H t < i → side S (upto i H) n t ≡ side S H n t
unfolding side
side-upto S H i n t l h b = ap (λ (s : Spot). side_at S.tree n s t) (spot-upto S H i t l h b)

pub meets-upto : (S : Setup) (H : List Event) (i n t u : ℕ) → Lawful S H → i ≤ length H → began_at H t < i → began_at H u < i → meets S (upto i H) n t u ≡ meets S H n t u
unfolding meets
meets-upto S H i n t u l h b c = rw (on-upto S H i n t l h b, on-upto S H i n u l h c, side-upto S H i n t l h b, side-upto S H i n u l h c) refl

-- what the rules require of a Put, a Got, a Done, a Ready and a Gone
pub put_may : (S : Setup) (P : List Event) (e : Event) (t : ℕ) (x : Cell) → is_put t x e ≡ true → Granted S P e → MayAccess S P t x true
put_may S P (Put u y v) t x p g = let q = and_parts (eqb u.0 t) (same_cell y x) p in subst₂ (λ (i : ℕ) (z : Cell). MayAccess S P i z true) (eqb-true u.0 t q.0) (same_cell-true y x q.1) g
put_may S P (Began u s k inst) t x p g = absurd (cc)
put_may S P (Got u y w v) t x p g = absurd (cc)
put_may S P (Ready u) t x p g = absurd (cc)
put_may S P (Done u) t x p g = absurd (cc)
put_may S P (Gone u c) t x p g = absurd (cc)
put_may S P (Told u) t x p g = absurd (cc)

done_may : (S : Setup) (P : List Event) (e : Event) (t : ℕ) → is_done t e ≡ true → Granted S P e → MayCommit S P t
done_may S P (Done u) t p g = subst (λ (i : ℕ). MayCommit S P i) (eqb-true u.0 t p) g
done_may S P (Began u s k inst) t p g = absurd (cc)
done_may S P (Got u y w v) t p g = absurd (cc)
done_may S P (Put u y v) t p g = absurd (cc)
done_may S P (Ready u) t p g = absurd (cc)
done_may S P (Gone u c) t p g = absurd (cc)
done_may S P (Told u) t p g = absurd (cc)

gone_may : (S : Setup) (P : List Event) (e : Event) (t : ℕ) → is_gone t e ≡ true → Granted S P e → unfinished P t ≡ true
gone_may S P (Gone u c) t p g = subst (λ (i : ℕ). unfinished P i ≡ true) (eqb-true u.0 t p) g
gone_may S P (Began u s k inst) t p g = absurd (cc)
gone_may S P (Got u y w v) t p g = absurd (cc)
gone_may S P (Put u y v) t p g = absurd (cc)
gone_may S P (Ready u) t p g = absurd (cc)
gone_may S P (Done u) t p g = absurd (cc)
gone_may S P (Told u) t p g = absurd (cc)

pub put_granted : (S : Setup) (H : List Event) (t : ℕ) (x : Cell) → Lawful S H → put_at H t x < length H → MayAccess S (upto (put_at H t x) H) t x true
unfolding put_at
put_granted S H t x l h = let f = event_first (is_put t x) H h in put_may S _ f.event t x f.passes (granted_at S H (first_event (is_put t x) H) f.event l f.is)

pub done_granted : (S : Setup) (H : List Event) (t : ℕ) → Lawful S H → done_at H t < length H → MayCommit S (upto (done_at H t) H) t
unfolding done_at
done_granted S H t l h = let f = event_first (is_done t) H h in done_may S _ f.event t f.passes (granted_at S H (first_event (is_done t) H) f.event l f.is)

pub gone_granted : (S : Setup) (H : List Event) (t : ℕ) → Lawful S H → gone_at H t < length H → unfinished (upto (gone_at H t) H) t ≡ true
unfolding gone_at
gone_granted S H t l h = let f = event_first (is_gone t) H h in gone_may S _ f.event t f.passes (granted_at S H (first_event (is_gone t) H) f.event l f.is)

-- events of different kinds are at different positions
abbrev tag : Event → ℕ
tag (Began u s k inst) = 0
tag (Got u x w v) = 1
tag (Put u x v) = 2
tag (Ready u) = 3
tag (Done u) = 4
tag (Gone u c) = 5
tag (Told u) = 6

pub tag_put : (t : ℕ) (x : Cell) (e : Event) → is_put t x e ≡ true → tag e ≡ 2
tag_put t x (Put u y v) h = refl
tag_put t x _ h = absurd (cc)

pub tag_ready : (t : ℕ) (e : Event) → is_ready t e ≡ true → tag e ≡ 3
tag_ready t (Ready u) h = refl
tag_ready t _ h = absurd (cc)

pub tag_done : (t : ℕ) (e : Event) → is_done t e ≡ true → tag e ≡ 4
tag_done t (Done u) h = refl
tag_done t _ h = absurd (cc)

pub tag_gone : (t : ℕ) (e : Event) → is_gone t e ≡ true → tag e ≡ 5
tag_gone t (Gone u c) h = refl
tag_gone t _ h = absurd (cc)

pub apart : (q r : Event → Bool) (H : List Event) → ((e : Event) → q e ≡ true → r e ≡ true → ⊥) → first_event q H < length H → first_event q H ≡ first_event r H → ⊥
apart q r H never h e =
    let f = event_first q H h in
    let g = event_first r H (subst (λ (i : ℕ). i < length H) e h) in
    never f.event f.passes (ap (newest r) (sym f.is) ∙ ap (λ (i : ℕ). newest r (upto (suc i) H)) e ∙ ap (newest r) g.is ∙ g.passes)

-- the order of a transaction's events
pub done_order : (S : Setup) (H : List Event) (t : ℕ) → Lawful S H → done_at H t < length H → (began_at H t < done_at H t) × (length H ≤ gone_at H t)
unfolding done_at gone_at
done_order S H t l h =
    let g = done_granted S H t l (unfold done_at in h) in
    let u = unfinished-upto H (done_at H t) t (omega arith) g.unfinished in (
      u.0,
      elim (cases_lt (gone_at H t) (length H)) [
        | inl a ↦ (let w = unfinished-upto H (gone_at H t) t (omega arith) (gone_granted S H t l a) in
            absurd (apart (is_done t) (is_gone t) H (λ e p q. let i = tag_done t e p in let j = tag_gone t e q in omega arith) h (omega arith)))
        | inr b ↦ b
      ],
    )

pub put_order : (S : Setup) (H : List Event) (t : ℕ) (x : Cell) → Lawful S H → put_at H t x < length H → (began_at H t < put_at H t x) × (put_at H t x < done_at H t) × (put_at H t x < gone_at H t)
unfolding put_at done_at gone_at
put_order S H t x l h =
    let u = unfinished-upto H (put_at H t x) t (omega arith) (put_granted S H t x l h).unfinished in
    let a : put_at H t x ≢ done_at H t = apart (is_put t x) (is_done t) H (λ e p q. let i = tag_put t x e p in let j = tag_done t e q in omega arith) h in
    let b : put_at H t x ≢ gone_at H t = apart (is_put t x) (is_gone t) H (λ e p q. let i = tag_put t x e p in let j = tag_gone t e q in omega arith) h in
    (u.0, omega arith, omega arith)

pub begun_there : (H : List Event) (i u : ℕ) → i ≤ length H → began_at H u < i → began_at (upto i H) u < length (upto i H)
begun_there H i u h b = ltb-true _ _ (unfold begun in begun-upto H i u h ∙ lt-ltb _ _ b)
