-- The transactions that a session holds, event by event.
use Rattle.std.proofs.Common.{◌++◌}
use Rattle.std.proofs.Common.{◌≡◌, ◌≢◌, ◌⊎◌, ℕ, suc, ◌<◌, ◌≤◌, Bool, true, false, not, ◌&&◌, ◌||◌, eqb, ltb, List, [], ◌∷◌, Some, None, refl}
use Rattle.std.proofs.Common.{sym, ◌∙◌, ap, subst, inl, inr, arith, length, ltb-true, ltb-false, lt-ltb, le-ltb, eqb-true, eq-eqb, ne_eqb}
use Rattle.std.proofs.lemmas.Bool.{cases_lt, both_ways, cases_eq, false_from_ne_true, and_parts, or_cases, not-true}
use Rattle.teb_rules.specs.declared.history.Event.{Event}
use Rattle.teb_rules.specs.declared.history.Event.TheVariants.{Began, Got, Put, Ready, Done, Gone, Told}
use Rattle.teb_rules.specs.declared.names.Session.{Session}
use Rattle.teb_rules.specs.declared.names.Spot.{Spot}
use Rattle.teb_rules.specs.declared.names.Cause.{Cause}
use Rattle.teb_rules.specs.declared.names.Cause.TheVariants.{After}
use Rattle.teb_rules.proofs.lemmas.names.Bools.{and_false}
use Rattle.teb_rules.specs.Setup.{Setup}
use Rattle.teb_rules.specs.history.Phases.{aborted, began_at, begun, begun_count, cause_of, committed, done_at, gone_at, held, is_after}
use Rattle.teb_rules.specs.history.Phases.{is_began, is_done, is_gone, is_told, session_of, told_at, txns, unfinished, untold}
use Rattle.teb_rules.specs.history.Positions.{came, first, first_event, newest, upto}
use Rattle.teb_rules.proofs.lemmas.laws.Answers.{Good, lawful_cons}
use Rattle.teb_rules.proofs.lemmas.laws.Cascades.{cascade-In, cascade_closed, falls, falls_parts, members_unfinished, unfinished_kept, unfinished_times}
use Rattle.teb_rules.proofs.lemmas.laws.Intervals.{gone_order}
use Rattle.teb_rules.proofs.lemmas.laws.Lists.{Distinct}
use Rattle.teb_rules.proofs.lemmas.laws.Positions.{before, first_cases, later, now}
use Rattle.teb_rules.proofs.lemmas.laws.Locks.{In-txns, find_none}
use Rattle.teb_rules.proofs.lemmas.laws.Reachable.{find_is, untold_gone}
use Rattle.teb_rules.proofs.lemmas.laws.Scans.{came_kept}
use Rattle.teb_rules.proofs.lemmas.laws.Serial.{Distinct-filter, Distinct-numbers}
use Rattle.teb_rules.proofs.lemmas.laws.Timeline.{aborted-upto, begun_counted, done_order, event_first, granted_at}
use Rattle.teb_rules.specs.laws.Lawful.{Granted, Lawful}
use Rattle.teb_rules.specs.laws.TreeFacts.{TreeFacts}
use Rattle.teb_rules.specs.Cascade.{abort, blamed, cascade, fall_in_turn, txn}
use Rattle.teb_rules.specs.Serializes.{In}

-- session s holds t
abbrev pub Holds : List Event → ℕ → ℕ → Bool
Holds H s t = eqb (session_of H t) s && (unfinished H t || untold H t)

came_now : (q : Event → Bool) (e : Event) (P : List Event) → q e ≡ true → ltb (first_event q (e ∷ P)) (length (e ∷ P)) ≡ true
unfolding first_event
came_now q e P h = elim (first_cases (newest q) e P) [
  | before a b ↦ lt-ltb _ _ (let z : first (newest q) (e ∷ P) < suc (length P) = omega arith in z)
  | now a b c ↦ lt-ltb _ _ (let z : first (newest q) (e ∷ P) < suc (length P) = omega arith in z)
  | later a b c ↦ absurd (both_ways _ b h)
]

-- an event that is not about v does not change whether v is unfinished
pub unfinished_same : (e : Event) (P : List Event) (v : ℕ) → is_began v e ≡ false → is_done v e ≡ false → is_gone v e ≡ false → unfinished (e ∷ P) v ≡ unfinished P v
unfolding unfinished begun committed aborted began_at done_at gone_at
unfinished_same e P v b d g = rw (came_kept (is_began v) e P b, came_kept (is_done v) e P d, came_kept (is_gone v) e P g) refl

untold_same : (e : Event) (P : List Event) (v : ℕ) → cause_of (e ∷ P) v ≡ cause_of P v → is_told v e ≡ false → untold (e ∷ P) v ≡ untold P v
unfolding untold told_at
untold_same e P v c t = rw (c, came_kept (is_told v) e P t) refl

holds_same : (e : Event) (P : List Event) (s v : ℕ) → is_began v e ≡ false → is_done v e ≡ false → is_gone v e ≡ false → is_told v e ≡ false → session_of (e ∷ P) v ≡ session_of P v
    → cause_of (e ∷ P) v ≡ cause_of P v → Holds (e ∷ P) s v ≡ Holds P s v
holds_same e P s v b d g t i c = rw (i, unfinished_same e P v b d g, untold_same e P v c t) refl

-- the event is a Got, a Put or a Ready
abbrev pub inert : Event → Bool
inert (Got u x w v) = true
inert (Put u x v) = true
inert (Ready u) = true
inert _ = false

pub holds_inert : (e : Event) (P : List Event) (s v : ℕ) → inert e ≡ true → Holds (e ∷ P) s v ≡ Holds P s v
holds_inert (Got u x w z) P s v h = holds_same (Got u x w z) P s v refl refl refl refl (unfold session_of in refl) (unfold cause_of in refl)
holds_inert (Put u x z) P s v h = holds_same (Put u x z) P s v refl refl refl refl (unfold session_of in refl) (unfold cause_of in refl)
holds_inert (Ready u) P s v h = holds_same (Ready u) P s v refl refl refl refl (unfold session_of in refl) (unfold cause_of in refl)
holds_inert (Began u a k inst) P s v h = absurd (cc)
holds_inert (Done u) P s v h = absurd (cc)
holds_inert (Gone u c) P s v h = absurd (cc)
holds_inert (Told u) P s v h = absurd (cc)

abbrev pub Inerts : List Event → Type 0
Inerts [] = Unit {0}
Inerts (e ∷ es) = (inert e ≡ true) × Inerts es

pub holds_inerts : (es P : List Event) (s v : ℕ) → Inerts es → Holds (es ++ P) s v ≡ Holds P s v
holds_inerts [] P s v h = refl
holds_inerts (e ∷ es) P s v h = holds_inert e (es ++ P) s v h.0 ∙ holds_inerts es P s v h.1

session_skip : (t : ℕ) (a : Session) (k : Spot) (P : List Event) (v : ℕ) → eqb t v ≡ false → session_of (Began (txn t) a k.kind k.instance ∷ P) v ≡ session_of P v
unfolding session_of
session_skip t a k P v h = rw h refl

session_new : (t : ℕ) (a : Session) (k : Spot) (P : List Event) → session_of (Began (txn t) a k.kind k.instance ∷ P) t ≡ a.0
unfolding session_of
session_new t a k P = rw (eq-eqb t t refl) refl

cause_skip : (t : ℕ) (c : Cause) (P : List Event) (v : ℕ) → eqb t v ≡ false → cause_of (Gone (txn t) c ∷ P) v ≡ cause_of P v
unfolding cause_of
cause_skip t c P v h = rw h refl

cause_new : (t : ℕ) (c : Cause) (P : List Event) → cause_of (Gone (txn t) c ∷ P) t ≡ Some c
unfolding cause_of
cause_new t c P = rw (eq-eqb t t refl) refl

pub holds_began : (t : ℕ) (a : Session) (k : Spot) (P : List Event) (s v : ℕ) → t ≢ v → Holds (Began (txn t) a k.kind k.instance ∷ P) s v ≡ Holds P s v
holds_began t a k P s v ne = holds_same (Began (txn t) a k.kind k.instance) P s v (ne_eqb t v ne) refl refl refl (session_skip t a k P v (ne_eqb t v ne)) (unfold cause_of in refl)

pub holds_done : (t : ℕ) (P : List Event) (s v : ℕ) → t ≢ v → Holds (Done (txn t) ∷ P) s v ≡ Holds P s v
holds_done t P s v ne = holds_same (Done (txn t)) P s v refl (ne_eqb t v ne) refl refl (unfold session_of in refl) (unfold cause_of in refl)

pub holds_gone : (t : ℕ) (c : Cause) (P : List Event) (s v : ℕ) → t ≢ v → Holds (Gone (txn t) c ∷ P) s v ≡ Holds P s v
holds_gone t c P s v ne = holds_same (Gone (txn t) c) P s v refl refl (ne_eqb t v ne) refl (unfold session_of in refl) (cause_skip t c P v (ne_eqb t v ne))

pub holds_told : (t : ℕ) (P : List Event) (s v : ℕ) → t ≢ v → Holds (Told (txn t) ∷ P) s v ≡ Holds P s v
holds_told t P s v ne = holds_same (Told (txn t)) P s v refl refl refl (ne_eqb t v ne) (unfold session_of in refl) (unfold cause_of in refl)

-- an unfinished transaction has no Gone and no Told
unfinished-aborted : (P : List Event) (t : ℕ) → unfinished P t ≡ true → aborted P t ≡ false
unfolding unfinished
unfinished-aborted P t u = not-true _ (and_parts _ _ u).1

aborted_late : (P : List Event) (t : ℕ) → aborted P t ≡ false → length P ≤ gone_at P t
unfolding aborted
aborted_late P t a = ltb-false _ _ a

and_and_no : (b d : Bool) → b && false && d ≡ false
and_and_no true d = refl
and_and_no false d = refl

told_gone : (S : Setup) (P : List Event) (t : ℕ) → Lawful S P → aborted P t ≡ false → came P (told_at P t) ≡ false
unfolding told_at
told_gone S P t l a = false_from_ne_true _ (λ h.
    let b = ltb-true _ _ h in
    let f = event_first (is_told t) P b in
    go f.event f.passes f.is b (granted_at S P (first_event (is_told t) P) f.event l f.is))
  where
    go : (e : Event) → is_told t e ≡ true → upto (suc (first_event (is_told t) P)) P ≡ e ∷ upto (first_event (is_told t) P) P → first_event (is_told t) P < length P
        → Granted S (upto (first_event (is_told t) P) P) e → ⊥
    go (Told u) p q b g =
        let i = first_event (is_told t) P in
        let h : aborted (upto i P) t ≡ true = subst (λ (z : ℕ). aborted (upto i P) z ≡ true) (eqb-true u.0 t p) g in
        let z = ltb-true _ _ (sym (aborted-upto P i t (let y : i ≤ length P = omega arith in y)) ∙ h) in
        let y = aborted_late P t a in absurd (omega arith)
    go (Began u s k inst) p q b g = absurd (cc)
    go (Got u x w v) p q b g = absurd (cc)
    go (Put u x v) p q b g = absurd (cc)
    go (Ready u) p q b g = absurd (cc)
    go (Done u) p q b g = absurd (cc)
    go (Gone u c) p q b g = absurd (cc)

-- the transaction of a Done or a Gone is no longer unfinished
not_unfinished_done : (P : List Event) (t : ℕ) → unfinished (Done (txn t) ∷ P) t ≡ false
unfolding unfinished committed done_at
not_unfinished_done P t = rw (came_now (is_done t) (Done (txn t)) P (eq-eqb t t refl)) (and_and_no (begun (Done (txn t) ∷ P) t) (not (aborted (Done (txn t) ∷ P) t)))

not_unfinished_aborted : (P : List Event) (t : ℕ) → aborted P t ≡ true → unfinished P t ≡ false
unfolding unfinished
not_unfinished_aborted P t h = false_from_ne_true _ (λ k. both_ways _ (not-true _ (and_parts _ _ k).1) h)

gone_aborted : (P : List Event) (t : ℕ) (c : Cause) → aborted (Gone (txn t) c ∷ P) t ≡ true
unfolding aborted gone_at
gone_aborted P t c = came_now (is_gone t) (Gone (txn t) c) P (eq-eqb t t refl)

not_untold : (P : List Event) (t : ℕ) → aborted P t ≡ false → untold P t ≡ false
not_untold P t a = false_from_ne_true _ (λ h. both_ways _ a (untold_gone P t h))

none : (b c d : Bool) → c ≡ false → d ≡ false → b && (c || d) ≡ false
none true c d p q = rw (p, q) refl
none false c d p q = refl

pub holds_done_self : (S : Setup) (t : ℕ) (P : List Event) (s : ℕ) → unfinished P t ≡ true → Holds (Done (txn t) ∷ P) s t ≡ false
holds_done_self S t P s u = none _ _ _ (not_unfinished_done P t) (untold_same (Done (txn t)) P t (unfold cause_of in refl) refl ∙ not_untold P t (unfinished-aborted P t u))

is_untold : (P : List Event) (t : ℕ) (c : Cause) → cause_of P t ≡ Some c → untold P t ≡ is_after (Some c) && not (came P (told_at P t))
unfolding untold
is_untold P t c e = rw e refl

pub holds_gone_self : (t : ℕ) (c : Cause) (P : List Event) (s : ℕ) → is_after (Some c) ≡ false → Holds (Gone (txn t) c ∷ P) s t ≡ false
holds_gone_self t c P s h = none _ _ _ (not_unfinished_aborted (Gone (txn t) c ∷ P) t (gone_aborted P t c)) (is_untold (Gone (txn t) c ∷ P) t c (cause_new t c P) ∙ rw h refl)

told_now : (P : List Event) (t : ℕ) → untold (Told (txn t) ∷ P) t ≡ false
unfolding untold told_at
told_now P t = rw (came_now (is_told t) (Told (txn t)) P (eq-eqb t t refl)) (and_false (is_after (cause_of (Told (txn t) ∷ P) t)))

pub holds_told_self : (t : ℕ) (P : List Event) (s : ℕ) → aborted P t ≡ true → Holds (Told (txn t) ∷ P) s t ≡ false
holds_told_self t P s a = none _ _ _ (unfinished_same (Told (txn t)) P t refl refl refl ∙ not_unfinished_aborted P t a) (told_now P t)

told_past : (u : ℕ) (c : Cause) (P : List Event) → came (Gone (txn u) c ∷ P) (told_at (Gone (txn u) c ∷ P) u) ≡ came P (told_at P u)
unfolding told_at
told_past u c P = came_kept (is_told u) (Gone (txn u) c) P refl

-- a transaction that falls in a cascade is still held
fallen_held : (S : Setup) (u w : ℕ) (P : List Event) (s : ℕ) → Lawful S P → unfinished P u ≡ true → Holds (Gone (txn u) (After (txn w)) ∷ P) s u ≡ Holds P s u
fallen_held S u w P s l h = rw (
  session_gone,
  not_unfinished_aborted (Gone (txn u) (After (txn w)) ∷ P) u (gone_aborted P u (After (txn w))),
  is_untold (Gone (txn u) (After (txn w)) ∷ P) u (After (txn w)) (cause_new u (After (txn w)) P),
  told_kept,
  h,
) refl
  where
    session_gone : session_of (Gone (txn u) (After (txn w)) ∷ P) u ≡ session_of P u
    session_gone = unfold session_of in refl

    told_kept : came (Gone (txn u) (After (txn w)) ∷ P) (told_at (Gone (txn u) (After (txn w)) ∷ P) u) ≡ false
    told_kept = told_past u (After (txn w)) P ∙ told_gone S P u l (unfinished-aborted P u h)

holds_fall : (S : Setup) (H : List Event) (t : ℕ) (us : List ℕ) (P : List Event) → Lawful S P → Distinct us → ((u : ℕ) → In u us → unfinished P u ≡ true) → (s v : ℕ)
    → Holds (fall_in_turn H t us P) s v ≡ Holds P s v
unfolding fall_in_turn
holds_fall S H t [] P l d f s v = refl
holds_fall S H t (u ∷ us) P l d f s v =
    holds_fall S H t us (Gone (txn u) (After (txn (blamed H t u))) ∷ P) (lawful_cons S (Gone (txn u) (After (txn (blamed H t u)))) P (f u (inl refl)) l) d.1
    (λ w i. unfinished_kept u w (After (txn (blamed H t u))) P (d.0 w i) ∙ f w (inr i)) s v
    ∙ elim (cases_eq u v) [
      | inl e ↦ subst (λ (z : ℕ). Holds (Gone (txn u) (After (txn (blamed H t u))) ∷ P) s z ≡ Holds P s z) e (fallen_held S u (blamed H t u) P s l (f u (inl refl)))
      | inr ne ↦ holds_gone u (After (txn (blamed H t u))) P s v ne
    ]

holds_abort : (S : Setup) (a : TreeFacts S) (H : List Event) (t : ℕ) (c : Cause) → Good S H → unfinished H t ≡ true → (s v : ℕ) → Holds (abort H t c) s v ≡ Holds (Gone (txn t) c ∷ H) s v
unfolding abort
holds_abort S a H t c g u s v = holds_fall S H t (cascade H t) (Gone (txn t) c ∷ H) (lawful_cons S (Gone (txn t) c) H u g.legal)
    (subst Distinct (cascade_closed H t) (Distinct-filter (falls H t (cascade H t)) (txns H) (unfold txns in Distinct-numbers (begun_count H))))
    (λ v i. unfinished_kept t v c H (λ e. (falls_parts H t (cascade H t) v (cascade-In H t v i).1).1 (sym e)) ∙ members_unfinished S a H t (begun_count H) [] g u (λ w j. absurd j) v
    (unfold cascade in i)) s v

pub holds_abort_other : (S : Setup) (a : TreeFacts S) (H : List Event) (t : ℕ) (c : Cause) → Good S H → unfinished H t ≡ true → (s v : ℕ) → t ≢ v → Holds (abort H t c) s v ≡ Holds H s v
holds_abort_other S a H t c g u s v ne = holds_abort S a H t c g u s v ∙ holds_gone t c H s v ne

pub holds_abort_self : (S : Setup) (a : TreeFacts S) (H : List Event) (t : ℕ) (c : Cause) → Good S H → unfinished H t ≡ true → is_after (Some c) ≡ false → (s : ℕ) → Holds (abort H t c) s t ≡ false
holds_abort_self S a H t c g u h s = holds_abort S a H t c g u s t ∙ holds_gone_self t c H s h

count_fall : (H : List Event) (t : ℕ) (us : List ℕ) (P : List Event) → begun_count (fall_in_turn H t us P) ≡ begun_count P
unfolding fall_in_turn
count_fall H t [] P = refl
count_fall H t (u ∷ us) P = count_fall H t us (Gone (txn u) (After (txn (blamed H t u))) ∷ P) ∙ (unfold begun_count in refl)

pub count_abort : (H : List Event) (t : ℕ) (c : Cause) → begun_count (abort H t c) ≡ begun_count H
unfolding abort
count_abort H t c = count_fall H t (cascade H t) (Gone (txn t) c ∷ H) ∙ (unfold begun_count in refl)

-- a transaction number above the count has not begun
pub not_begun : (S : Setup) (H : List Event) (t : ℕ) → Lawful S H → begun_count H < t → length H ≤ began_at H t
not_begun S H t l h = elim (cases_lt (began_at H t) (length H)) [ inl r ↦ absurd (let z = (begun_counted S H t l r).1 in omega arith) | inr r ↦ r ]

no_done : (S : Setup) (P : List Event) (t : ℕ) → Lawful S P → begun_count P < t → length P ≤ first_event (is_done t) P
unfolding done_at
no_done S P t l h = elim (cases_lt (done_at P t) (length P)) [
  | inl r ↦ absurd (let z = (done_order S P t l r).0 in let y = not_begun S P t l h in let x : began_at P t < length P = omega arith in
      omega arith)
  | inr r ↦ r
]

no_gone : (S : Setup) (P : List Event) (t : ℕ) → Lawful S P → begun_count P < t → length P ≤ first_event (is_gone t) P
unfolding gone_at
no_gone S P t l h = elim (cases_lt (gone_at P t) (length P)) [
  | inl r ↦ absurd (let z = gone_order S P t l r in let y = not_begun S P t l h in let x : began_at P t < length P = omega arith in
      omega arith)
  | inr r ↦ r
]

pub fresh_unfinished : (S : Setup) (t : ℕ) (a : Session) (k : Spot) (P : List Event) → Lawful S P → begun_count P < t → unfinished (Began (txn t) a k.kind k.instance ∷ P) t ≡ true
unfolding unfinished begun committed aborted began_at done_at gone_at
fresh_unfinished S t a k P l h = rw (
  came_now (is_began t) (Began (txn t) a k.kind k.instance) P (eq-eqb t t refl),
  came_kept (is_done t) (Began (txn t) a k.kind k.instance) P refl,
  came_kept (is_gone t) (Began (txn t) a k.kind k.instance) P refl,
  le-ltb (first_event (is_done t) P) (length P) (no_done S P t l h),
  le-ltb (first_event (is_gone t) P) (length P) (no_gone S P t l h),
) refl

or_first : (b c : Bool) → b ≡ true → b || c ≡ true
or_first b c h = rw h refl

and_true : (b c : Bool) → c ≡ true → b && c ≡ b
and_true true c h = h
and_true false c h = refl

pub holds_began_self : (S : Setup) (t : ℕ) (a : Session) (k : Spot) (P : List Event) (s : ℕ) → Lawful S P → begun_count P < t → Holds (Began (txn t) a k.kind k.instance ∷ P) s t ≡ eqb a.0 s
holds_began_self S t a k P s l h = and_true _ _ (or_first _ _ (fresh_unfinished S t a k P l h)) ∙ ap (λ (z : ℕ). eqb z s) (session_new t a k P)

gone_late : (P : List Event) (t : ℕ) → length P ≤ gone_at P t → aborted P t ≡ false
unfolding aborted
gone_late P t r = le-ltb (gone_at P t) (length P) r

-- a transaction that is held has begun
pub held_began : (S : Setup) (P : List Event) (s t : ℕ) → Lawful S P → Holds P s t ≡ true → began_at P t < length P
held_began S P s t l h = elim (or_cases _ _ (and_parts _ _ h).1) [
  | inl u ↦ (unfinished_times P t u).0
  | inr u ↦ elim (cases_lt (gone_at P t) (length P)) [
    | inl r ↦ (let z : began_at P t < gone_at P t = gone_order S P t l r in let y : gone_at P t < length P = r in omega arith)
    | inr r ↦ absurd
        (both_ways (aborted P t) (gone_late P t r) (untold_gone P t u))
  ]
]

-- the session holds the transaction that `held` finds
pub held_holds : (H : List Event) (s t : ℕ) → held H s ≡ Some t → Holds H s t ≡ true
unfolding held
held_holds H s t h = find_is (λ t. eqb (session_of H t) s && (unfinished H t || untold H t)) (txns H) t h

pub none_holds : (S : Setup) (H : List Event) (s : ℕ) → Lawful S H → held H s ≡ None → (v : ℕ) → Holds H s v ≡ false
unfolding held
none_holds S H s l h v = false_from_ne_true _ (λ k. both_ways _ (find_none (λ t. eqb (session_of H t) s && (unfinished H t || untold H t)) (txns H) v h (In-txns S H v l (held_began S H s v l k))) k)

pub holds_cases : (H : List Event) (s t : ℕ) → Holds H s t ≡ true → (unfinished H t ≡ true) ⊎ (untold H t ≡ true)
holds_cases H s t h = or_cases _ _ (and_parts _ _ h).1

pub not_unfinished : (P : List Event) (t : ℕ) → aborted P t ≡ true → unfinished P t ≡ true → ⊥
unfolding unfinished
not_unfinished P t h k = both_ways _ (not-true _ (and_parts _ _ k).1) h
