-- Batches: after `start` and up to `close` some transaction of the side is unfinished, and at both ends none is.
use Rattle.std.proofs.Common.{◌≡◌, ◌≢◌, ℕ, zero, suc, ◌<◌, ◌≤◌, Bool, true, false, eqb, List, [], ◌∷◌, refl, sym, ◌∙◌}
use Rattle.std.proofs.Common.{ap, subst, subst₂, inl, inr, arith, length, ltb-true, lt-ltb, le_refl, eqb-true, eq-eqb}
use Rattle.std.proofs.lemmas.Bool.{cases_Bool, cases_lt, both_ways, false_from_ne_true, true_from_ne_false, and_parts, and_from, and_cases, not-true, not-false}
use Rattle.std.specs.List.{list_all}
use Rattle.teb_rules.specs.declared.history.Event.{Event}
use Rattle.teb_rules.specs.declared.names.Txn.{Txn}
use Rattle.teb_rules.specs.declared.names.Session.{Session}
use Rattle.teb_rules.specs.declared.names.Kind.{Kind}
use Rattle.teb_rules.specs.declared.history.Event.TheVariants.{Began, Got, Put, Ready, Done, Gone, Told}
use Rattle.teb_rules.specs.history.Phases.{spot_of}
use Rattle.teb_rules.specs.history.Phases.{is_began, txns, began_at, done_at, gone_at, begun}
use Rattle.teb_rules.specs.history.Positions.{upto, last, first_event}
use Rattle.teb_rules.proofs.lemmas.history.Chains.{length-upto, upto-upto}
use Rattle.teb_rules.specs.laws.Lawful.{Lawful}
use Rattle.teb_rules.specs.Batches.{idle, opens, start}
use Rattle.teb_rules.specs.Setup.{Setup}
use Rattle.teb_rules.specs.Tree.{on, side, on_path, side_at}
use Rattle.teb_rules.proofs.lemmas.laws.Positions.{upto_all, upto_cons, has_event}
use Rattle.teb_rules.proofs.lemmas.laws.Timeline.{spot-upto, Lawful-upto, event_first, unfinished-upto, upto-unfinished, begun-upto, on-upto, side-upto}
use Rattle.teb_rules.proofs.lemmas.laws.Locks.{In-txns}
use Rattle.teb_rules.proofs.lemmas.laws.ReadRule.{list_all_at}

-- the last event after which p holds
pub last_ends : (p : List Event → Bool) (H : List Event) (j : ℕ) → j < length H → p (upto (suc j) H) ≡ true → (j ≤ last p H) × (last p H < length H) × (p (upto (suc (last p H)) H) ≡ true)
last_ends p [] j h q = absurd (omega arith)
last_ends p (e ∷ P) j h q = elim (cases_Bool (p (e ∷ P))) [
  | inl t ↦ (let a : last p (e ∷ P) ≡ length P = unfold last in rw t refl in (omega arith, omega arith, rw (a, upto_all (suc (length P)) (e ∷ P) (le_refl (suc (length P)))) t))
  | inr f ↦ (let a : last p (e ∷ P) ≡ last p P = unfold last in rw f refl in
      elim (cases_lt j (length P)) [
        | inl l ↦ (let r = last_ends p P j l (rw (upto_cons (suc j) e P l) at q) in (rw a r.0, (let z = r.1 in omega arith), rw (a, upto_cons (suc (last p P)) e P r.1) r.2))
        | inr l ↦ absurd (both_ways (p (e ∷ P)) f (rw (upto_all (suc j) (e ∷ P) (let z : suc (length P) ≤ suc j = omega arith in z)) at q))
      ])
]

pub last_not : (p : List Event → Bool) (H : List Event) (j : ℕ) → last p H < j → j < length H → p (upto (suc j) H) ≡ false
last_not p H j h k = false_from_ne_true _ (λ q. let r = last_ends p H j k q in let z = r.0 in absurd (omega arith))

pub list_all_none : (p : ℕ → Bool) (us : List ℕ) → list_all p us ≡ false → (u : ℕ) × (p u ≡ false)
list_all_none p [] h = absurd (cc)
list_all_none p (v ∷ vs) h = elim (and_cases (p v) (list_all p vs) h) [ inl f ↦ (v, f) | inr f ↦ list_all_none p vs f ]

-- t is an unfinished transaction of side s of n at position i
pub record Works (S : Setup) (H : List Event) (n s i t : ℕ) : Type 0 where
  pub on_node : on S H n t ≡ true
  pub on_side : side S H n t ≡ s
  pub begun : began_at H t < i
  pub undone : i ≤ done_at H t
  pub ungone : i ≤ gone_at H t

pub record Someone (S : Setup) (H : List Event) (n s i : ℕ) : Type 0 where
  pub who : ℕ
  pub works : Works S H n s i who

pub idle_no : (S : Setup) (H : List Event) (n s i t : ℕ) → Lawful S H → i ≤ length H → idle S (upto i H) n s ≡ true → Works S H n s i t → ⊥
unfolding idle
idle_no S H n s i t l h e w =
    let u = upto-unfinished H i t h w.begun w.undone w.ungone in
    let a = list_all_at _ (txns (upto i H)) t e (In-txns S (upto i H) t (Lawful-upto S H i l) (ltb-true _ _ (unfold begun in begun-upto H i t h ∙ lt-ltb _ _ w.begun))) in
    let b = and_from _ _ (and_from _ _ u (on-upto S H i n t l h w.begun ∙ w.on_node)) (eq-eqb (side S (upto i H) n t) s (side-upto S H i n t l h w.begun ∙ w.on_side)) in
    both_ways _ (not-true _ a) b

pub idle_someone : (S : Setup) (H : List Event) (n s i : ℕ) → Lawful S H → i ≤ length H → idle S (upto i H) n s ≡ false → Someone S H n s i
unfolding idle
idle_someone S H n s i l h e =
    let r = list_all_none _ (txns (upto i H)) e in
    let p = and_parts _ _ (not-false _ r.1) in
    let q = and_parts _ _ p.0 in
    let u = unfinished-upto H i r.0 h q.0 in
    record {
      who = r.0;
      works = record {
        on_node = sym (on-upto S H i n r.0 l h u.0) ∙ q.1;
        on_side = sym (side-upto S H i n r.0 l h u.0) ∙ eqb-true _ _ p.1;
        begun = u.0;
        undone = u.1;
        ungone = u.2;
      };
    }

-- a side of which no transaction is unfinished is idle
pub idle_from : (S : Setup) (H : List Event) (n s i : ℕ) → Lawful S H → i ≤ length H → ((t : ℕ) → Works S H n s i t → ⊥) → idle S (upto i H) n s ≡ true
idle_from S H n s i l h f = true_from_ne_false _ (λ e. let r = idle_someone S H n s i l h e in f r.who r.works)

opens_from : (S : Setup) (n s : ℕ) (u : Txn) (a : Session) (k : Kind) (inst : ℕ) (P : List Event) → on_path S.tree n (record { kind = k; instance = inst }) ≡ true
    → side_at S.tree n (record { kind = k; instance = inst }) u.0 ≡ s → idle S P n s ≡ true → opens S n s (Began u a k inst ∷ P) ≡ true
unfolding opens
opens_from S n s u a k inst P x y z = and_from _ _ (and_from _ _ x (eq-eqb _ _ y)) z

spot_began : (u : Txn) (a : Session) (k : Kind) (inst : ℕ) (P : List Event) (t : ℕ) → eqb u.0 t ≡ true → spot_of (Began u a k inst ∷ P) t ≡ record { kind = k; instance = inst }
unfolding spot_of
spot_began u a k inst P t h = rw h refl

-- the Began of t opens a batch if its side was idle
pub opens_at : (S : Setup) (H : List Event) (n t : ℕ) → Lawful S H → began_at H t < length H → on S H n t ≡ true → idle S (upto (began_at H t) H) n (side S H n t) ≡ true →
    opens S n (side S H n t) (upto (suc (began_at H t)) H) ≡ true
unfolding began_at on side
opens_at S H n t l b o i = let f = event_first (is_began t) H b in go f.event f.passes f.is
  where
    j : ℕ
    j = first_event (is_began t) H

    go : (e : Event) → is_began t e ≡ true → upto (suc j) H ≡ e ∷ upto j H → opens S n (side S H n t) (upto (suc j) H) ≡ true
    go (Began u a k inst) p q =
        let K : spot_of H t ≡ record { kind = k; instance = inst } = sym (spot-upto S H (suc j) t l b (unfold began_at in le_refl (suc j))) ∙ ap (λ (Q : List Event). spot_of Q t) q
        ∙ spot_began u a k inst (upto j H) t p in
        let U : u.0 ≡ t = eqb-true u.0 t p in
        rw q (opens_from S n (side S H n t) u a k inst (upto j H) (rw (← K) o) (rw (← K, U) refl) i)
    go _ p q = absurd (cc)

-- if a batch opens at position j, the side was idle before it
pub opens_idle : (S : Setup) (n s : ℕ) (Q : List Event) (e : Event) (P : List Event) → Q ≡ e ∷ P → opens S n s Q ≡ true → idle S P n s ≡ true
unfolding opens
opens_idle S n s Q (Began u a k inst) P q h = (and_parts _ _ (rw q at h)).1
opens_idle S n s Q (Got u x w v) P q h = absurd (let z : false ≡ true = rw q at h in cc)
opens_idle S n s Q (Put u x v) P q h = absurd (let z : false ≡ true = rw q at h in cc)
opens_idle S n s Q (Ready u) P q h = absurd (let z : false ≡ true = rw q at h in cc)
opens_idle S n s Q (Done u) P q h = absurd (let z : false ≡ true = rw q at h in cc)
opens_idle S n s Q (Gone u c) P q h = absurd (let z : false ≡ true = rw q at h in cc)
opens_idle S n s Q (Told u) P q h = absurd (let z : false ≡ true = rw q at h in cc)

-- an idle side stays idle over an event that opens no batch there
pub idle_next : (S : Setup) (H : List Event) (n s j : ℕ) → Lawful S H → j < length H → idle S (upto j H) n s ≡ true → opens S n s (upto (suc j) H) ≡ false → idle S (upto (suc j) H) n s ≡ true
idle_next S H n s j l h i f = idle_from S H n s (suc j) l h (λ t w. elim (cases_lt (began_at H t) j) [
  | inl b ↦ idle_no S H n s j t l (let z : j ≤ length H = omega arith in z) i
      (record { on_node = w.on_node; on_side = w.on_side; begun = b; undone = (let z = w.undone in omega arith); ungone = (let z = w.ungone in omega arith) })
  | inr b ↦ (let q : began_at H t ≡ j = (let z = w.begun in omega arith) in both_ways _ f (there t w q))
])
  where
    there : (t : ℕ) → Works S H n s (suc j) t → began_at H t ≡ j → opens S n s (upto (suc j) H) ≡ true
    there t w q =
        let r = opens_at S H n t l (subst (λ (z : ℕ). z < length H) (sym q) h) w.on_node (subst₂ (λ (z y : ℕ). idle S (upto z H) n y ≡ true) (sym q) (sym w.on_side) i) in
        subst₂ (λ (z y : ℕ). opens S n y (upto (suc z) H) ≡ true) q w.on_side r

-- at or before t's Began, a batch of its side opens
opening : (S : Setup) (H : List Event) (n d t : ℕ) → Lawful S H → began_at H t < length H → on S H n t ≡ true → began_at H t < d →
    (j : ℕ) × (j ≤ began_at H t) × (opens S n (side S H n t) (upto (suc j) H) ≡ true)
opening S H n zero t l b o h = absurd (omega arith)
opening S H n (suc d) t l b o h = elim (cases_Bool (idle S (upto (began_at H t) H) n (side S H n t))) [
  | inl i ↦ (began_at H t, le_refl _, opens_at S H n t l b o i)
  | inr i ↦ (let r = idle_someone S H n (side S H n t) (began_at H t) l (let z : began_at H t ≤ length H = omega arith in z) i in
      let w = r.works in
      let s = opening S H n d r.who l (let z = w.begun in omega arith) w.on_node (let z = w.begun in omega arith) in
      (s.0, (let z = w.begun in let y = s.1 in omega arith), subst (λ (z : ℕ). opens S n z (upto (suc s.0) H) ≡ true) w.on_side s.2))
]

-- start is at or before t's Began, the side was idle before it, and no batch opens between the two
pub record StartsAt (S : Setup) (H : List Event) (n t : ℕ) : Type 0 where
  pub by_began : start S H n t ≤ began_at H t
  pub idle_before : idle S (upto (start S H n t) H) n (side S H n t) ≡ true
  pub opens_there : opens S n (side S H n t) (upto (suc (start S H n t)) H) ≡ true
  pub none_between : (j : ℕ) → start S H n t < j → j ≤ began_at H t → opens S n (side S H n t) (upto (suc j) H) ≡ false

pub starts_at : (S : Setup) (H : List Event) (n t : ℕ) → Lawful S H → began_at H t < length H → on S H n t ≡ true → StartsAt S H n t
unfolding start
starts_at S H n t l b o =
    let P = upto (suc (began_at H t)) H in
    let r = opening S H n (suc (began_at H t)) t l b o (le_refl _) in
    let lp : length P ≡ suc (began_at H t) = length-upto (suc (began_at H t)) H b in
    let e = last_ends (opens S n (side S H n t)) P r.0 (let z = r.1 in omega arith) (rw (upto-upto (suc r.0) (suc (began_at H t)) H (let z = r.1 in omega arith)) r.2) in
    let sb : start S H n t ≤ began_at H t = (let z = e.1 in omega arith) in
    let q : opens S n (side S H n t) (upto (suc (start S H n t)) H) ≡ true = rw
    (upto-upto (suc (start S H n t)) (suc (began_at H t)) H (let z : suc (start S H n t) ≤ suc (began_at H t) = omega arith in z)) at e.2 in
    let ev = has_event H (start S H n t) (let z : start S H n t < length H = omega arith in z) in
    record {
      by_began = sb;
      idle_before = opens_idle S n (side S H n t) _ ev.event _ ev.is q;
      opens_there = q;
      none_between = λ j a c. rw (upto-upto (suc j) (suc (began_at H t)) H (let z : suc j ≤ suc (began_at H t) = omega arith in z)) at
          (last_not (opens S n (side S H n t)) P j a (let z : j < length P = omega arith in z));
    }

opens_once : (S : Setup) (n s r : ℕ) (Q : List Event) → opens S n s Q ≡ true → opens S n r Q ≡ true → s ≡ r
unfolding opens
opens_once S n s r [] h k = absurd (cc)
opens_once S n s r (Began u a k inst ∷ P) h g = sym (eqb-true _ _ (and_parts _ _ (and_parts _ _ h).0).1) ∙ eqb-true _ _ (and_parts _ _ (and_parts _ _ g).0).1
opens_once S n s r (Got u x w v ∷ P) h k = absurd (cc)
opens_once S n s r (Put u x v ∷ P) h k = absurd (cc)
opens_once S n s r (Ready u ∷ P) h k = absurd (cc)
opens_once S n s r (Done u ∷ P) h k = absurd (cc)
opens_once S n s r (Gone u c ∷ P) h k = absurd (cc)
opens_once S n s r (Told u ∷ P) h k = absurd (cc)

-- batches of different sides start at different positions
pub start_differs : (S : Setup) (H : List Event) (n t u : ℕ) → Lawful S H → began_at H t < length H → began_at H u < length H → on S H n t ≡ true → on S H n u ≡ true → side S H n t ≢ side S H n u
    → start S H n t ≢ start S H n u
start_differs S H n t u l bt bu ot ou ne e =
    let v = starts_at S H n t l bt ot in
    let w = starts_at S H n u l bu ou in
    ne (opens_once S n (side S H n t) (side S H n u) (upto (suc (start S H n u)) H) (subst (λ (z : ℕ). opens S n (side S H n t) (upto (suc z) H) ≡ true) e v.opens_there) w.opens_there)
