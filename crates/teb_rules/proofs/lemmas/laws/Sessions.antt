-- Each session holds at most one transaction, so an abort aborts fewer than SESSIONS others.
use Rattle.std.proofs.Common.{◌||◌, ◌≡◌, ◌≢◌, ℕ, ◌-◌, ◌<◌, ◌≤◌, Bool, true, false, eqb, List, [], ◌∷◌, length, None, refl, sym, ◌∙◌, subst, inl, inr, arith, map}
use Rattle.teb_rules.specs.declared.history.Event.{Event}
use Rattle.teb_rules.specs.declared.history.Event.TheVariants.{Began, Got, Put, Ready, Done, Gone, Told}
use Rattle.std.proofs.Common.{eq-eqb}
use Rattle.std.proofs.lemmas.Bool.{and_from, and_parts, both_ways, cases_Bool, leb-true, or_left}
use Rattle.teb_rules.specs.history.Phases.{began_at, held, is_began, is_done, is_gone, session_of, txns, unfinished, untold}
use Rattle.teb_rules.specs.history.Positions.{first_event, newest}
use Rattle.teb_rules.proofs.lemmas.laws.Cascades.{unfinished_now, unfinished_times}
use Rattle.teb_rules.proofs.lemmas.laws.Locks.{find_none}
use Rattle.teb_rules.proofs.lemmas.laws.Positions.{before, first_cases, later, now}
use Rattle.teb_rules.specs.laws.Lawful.{Granted, Lawful}
use Rattle.teb_rules.specs.declared.names.TheConstants.{SESSIONS}
use Rattle.teb_rules.specs.declared.names.Kind.{Kind}
use Rattle.teb_rules.specs.declared.names.Session.{Session}
use Rattle.teb_rules.specs.declared.names.Txn.{Txn}
use Rattle.teb_rules.specs.Serializes.{In}
use Rattle.teb_rules.specs.Setup.{Setup}
use Rattle.std.proofs.Common.{eqb-true}
use Rattle.teb_rules.specs.history.Phases.{begun_count, done_at, gone_at}
use Rattle.teb_rules.proofs.lemmas.laws.Answers.{Good}
use Rattle.teb_rules.proofs.lemmas.laws.Cascades.{cascade-In, cascade_closed, falls, falls_parts, members_unfinished}
use Rattle.teb_rules.proofs.lemmas.laws.Lists.{Distinct}
use Rattle.teb_rules.proofs.lemmas.laws.Locks.{In-txns}
use Rattle.teb_rules.proofs.lemmas.laws.Pigeons.{Distinct-map, In-map_from, distinct-length, length-map}
use Rattle.teb_rules.proofs.lemmas.laws.Serial.{Distinct-filter, Distinct-numbers}
use Rattle.teb_rules.specs.laws.TreeFacts.{TreeFacts}
use Rattle.teb_rules.specs.Cascade.{cascade}
use Rattle.teb_rules.specs.Serializes.{Pairs}
use Rattle.std.proofs.Common.{ap, lt-ltb, ltb-true, not, suc}
use Rattle.std.proofs.lemmas.Bool.{false_from_ne_true, not-true, not_from_false, or_cases, or_right}
use Rattle.teb_rules.specs.history.Phases.{cause_of, is_after, is_told, told_at}
use Rattle.teb_rules.specs.history.Positions.{first}
use Rattle.teb_rules.proofs.lemmas.laws.Scans.{came_kept}

session_kept : (e : Event) (P : List Event) (t : ℕ) → is_began t e ≡ false → session_of (e ∷ P) t ≡ session_of P t
unfolding session_of
session_kept (Began u s k inst) P t h = rw h refl
session_kept (Got u x w v) P t h = refl
session_kept (Put u x v) P t h = refl
session_kept (Ready u) P t h = refl
session_kept (Done u) P t h = refl
session_kept (Gone u c) P t h = refl
session_kept (Told u) P t h = refl

session_began : (u : Txn) (s : Session) (k : Kind) (inst : ℕ) (P : List Event) (t : ℕ) → eqb u.0 t ≡ true → session_of (Began u s k inst ∷ P) t ≡ s.0
unfolding session_of
session_began u s k inst P t h = rw h refl

-- the session of a transaction that has begun is a number from 1 to SESSIONS
session_bound : (S : Setup) (t : ℕ) (e : Event) (P : List Event) → Granted S P e → is_began t e ≡ true → (0 < session_of (e ∷ P) t) × (session_of (e ∷ P) t ≤ SESSIONS)
session_bound S t (Began u s k inst) P g h = let q = and_parts _ _ g.4 in rw (session_began u s k inst P t h) (leb-true 1 s.0 q.0, leb-true s.0 SESSIONS q.1)
session_bound S t (Got u x w v) P g b = absurd (cc)
session_bound S t (Put u x v) P g b = absurd (cc)
session_bound S t (Ready u) P g b = absurd (cc)
session_bound S t (Done u) P g b = absurd (cc)
session_bound S t (Gone u c) P g b = absurd (cc)
session_bound S t (Told u) P g b = absurd (cc)

pub session_range : (S : Setup) (H : List Event) (t : ℕ) → Lawful S H → began_at H t < length H → (0 < session_of H t) × (session_of H t ≤ SESSIONS)
unfolding Lawful began_at first_event
session_range S [] t l h = absurd (omega arith)
session_range S (e ∷ P) t l h = elim (cases_Bool (is_began t e)) [
  | inl b ↦ session_bound S t e P l.0 b
  | inr b ↦ rw (session_kept e P t b) (session_range S P t l.1 (elim (first_cases (newest (is_began t)) e P) [
    | before p q ↦ p
    | now p q r ↦ absurd (both_ways _ b q)
    | later p q r ↦ absurd (omega arith)
  ]))
]

-- if a session holds no transaction, none of its transactions is unfinished
held_none : (H : List Event) (s t : ℕ) → held H s ≡ None → In t (txns H) → unfinished H t ≡ true → session_of H t ≡ s → ⊥
unfolding held
held_none H s t e i u q = both_ways _ (find_none _ (txns H) t e i) (and_from _ _ (eq-eqb _ _ q) (or_left (unfinished H t) (untold H t) u))

-- a transaction that is unfinished after an event was unfinished before it, or has just begun
not_yet : (q : Event → Bool) (e : Event) (P : List Event) → length (e ∷ P) ≤ first_event q (e ∷ P) → length P ≤ first_event q P
unfolding first_event
not_yet q e P h = elim (first_cases (newest q) e P) [ before a b ↦ absurd (omega arith) | now a b c ↦ absurd (omega arith) | later a b c ↦ (let z = a in omega arith) ]

came_before : (q : Event → Bool) (e : Event) (P : List Event) → q e ≡ false → first_event q (e ∷ P) < length (e ∷ P) → first_event q P < length P
unfolding first_event
came_before q e P n h = elim (first_cases (newest q) e P) [ before a b ↦ a | now a b c ↦ absurd (both_ways _ n b) | later a b c ↦ absurd (omega arith) ]

was_unfinished : (e : Event) (P : List Event) (t : ℕ) → is_began t e ≡ false → unfinished (e ∷ P) t ≡ true → unfinished P t ≡ true
was_unfinished e P t b u =
    let p = unfinished_times (e ∷ P) t u in
    unfinished_now P t (unfold began_at in came_before (is_began t) e P b (unfold began_at in p.0)) (unfold done_at in not_yet (is_done t) e P (unfold done_at in p.1))
    (unfold gone_at in not_yet (is_gone t) e P (unfold gone_at in p.2))

began_same : (e : Event) (t u : ℕ) → is_began t e ≡ true → is_began u e ≡ true → t ≡ u
began_same (Began v s k inst) t u p q = sym (eqb-true v.0 t p) ∙ eqb-true v.0 u q
began_same _ t u p q = absurd (cc)

-- when a transaction begins, no other of its session is unfinished
began_alone : (S : Setup) (e : Event) (P : List Event) (t u : ℕ) → Lawful S P → Granted S P e → is_began t e ≡ true → unfinished P u ≡ true → session_of P u ≡ session_of (e ∷ P) t → ⊥
began_alone S (Began v s k inst) P t u l g b w q = held_none P s.0 u g.3 (In-txns S P u l (unfinished_times P u w).0) w (q ∙ session_began v s k inst P t b)
began_alone S (Got v x w r) P t u l g b z q = absurd (cc)
began_alone S (Put v x r) P t u l g b z q = absurd (cc)
began_alone S (Ready v) P t u l g b z q = absurd (cc)
began_alone S (Done v) P t u l g b z q = absurd (cc)
began_alone S (Gone v c) P t u l g b z q = absurd (cc)
began_alone S (Told v) P t u l g b z q = absurd (cc)

-- two unfinished transactions have different sessions
pub one_each : (S : Setup) (H : List Event) (t u : ℕ) → Lawful S H → unfinished H t ≡ true → unfinished H u ≡ true → session_of H t ≡ session_of H u → t ≡ u
unfolding Lawful
one_each S [] t u l ut uu e = absurd (let z = (unfinished_times [] t ut).0 in omega arith)
one_each S (e ∷ P) t u l ut uu q = elim (cases_Bool (is_began t e)) [
  | inl bt ↦ elim (cases_Bool (is_began u e)) [
    | inl bu ↦ began_same e t u bt bu
    | inr bu ↦ absurd (began_alone S e P t u l.1 l.0 bt (was_unfinished e P u bu uu) (sym (session_kept e P u bu) ∙ sym q))
  ]
  | inr bt ↦ elim (cases_Bool (is_began u e)) [
    | inl bu ↦ absurd (began_alone S e P u t l.1 l.0 bu (was_unfinished e P t bt ut) (sym (session_kept e P t bt) ∙ q))
    | inr bu ↦ one_each S P t u l.1 (was_unfinished e P t bt ut) (was_unfinished e P u bu uu) (sym (session_kept e P t bt) ∙ q ∙ session_kept e P u bu)
  ]
]

-- distinct unfinished transactions have different sessions
sessions_differ : (S : Setup) (H : List Event) (us : List ℕ) → Lawful S H → ((u : ℕ) → In u us → unfinished H u ≡ true) → Distinct us → Pairs (λ t u. session_of H t ≢ session_of H u) us
sessions_differ S H [] l f d = tt
sessions_differ S H (v ∷ vs) l f d = ((λ u i e. d.0 u i (one_each S H v u l (f v (inl refl)) (f u (inr i)) e)), sessions_differ S H vs l (λ u i. f u (inr i)) d.1)

-- there are at most SESSIONS unfinished transactions
pub few_unfinished : (S : Setup) (H : List Event) (us : List ℕ) → Lawful S H → ((u : ℕ) → In u us → unfinished H u ≡ true) → Distinct us → length us ≤ SESSIONS
few_unfinished S H us l f d =
    let z = distinct-length SESSIONS (map (λ t. session_of H t - 1) us)
    (Distinct-map (λ t. session_of H t - 1) us (apart_less us (sessions_differ S H us l f d) (λ u i. (session_range S H u l (unfinished_times H u (f u i)).0).0)))
    (λ y i. let r = In-map_from (λ t. session_of H t - 1) us y i in let q = session_range S H r.0 l (unfinished_times H r.0 (f r.0 r.1)).0 in let e = r.2 in let q0 = q.0 in let q1 = q.1 in
    omega arith) in
    let w = length-map (λ t. session_of H t - 1) us in omega arith
  where
    apart_less : (us : List ℕ) → Pairs (λ t u. session_of H t ≢ session_of H u) us → ((u : ℕ) → In u us → 0 < session_of H u) → Pairs (λ t u. session_of H t - 1 ≢ session_of H u - 1) us
    apart_less [] p f = tt
    apart_less (v ∷ vs) p f = ((λ u i e. p.0 u i (let a = f v (inl refl) in let b = f u (inr i) in omega arith)), apart_less vs p.1 (λ u i. f u (inr i)))

-- an abort aborts fewer than SESSIONS others
pub cascade_few : (S : Setup) (a : TreeFacts S) (H : List Event) (t : ℕ) → Good S H → unfinished H t ≡ true → length (cascade H t) < SESSIONS
cascade_few S a H t g u =
    let d : Distinct (cascade H t) = subst Distinct (cascade_closed H t) (Distinct-filter (falls H t (cascade H t)) (txns H) (unfold txns in Distinct-numbers (begun_count H))) in
    let z = few_unfinished S H (t ∷ cascade H t) g.legal
    (λ v i. elim i [ inl e ↦ subst (λ (y : ℕ). unfinished H y ≡ true) e u | inr j ↦ members_unfinished S a H t (begun_count H) [] g u (λ w k. absurd k) v (unfold cascade in j) ])
    ((λ v i e. (falls_parts H t (cascade H t) v (cascade-In H t v i).1).1 (sym e)), d) in omega arith

-- t is held: it is unfinished, or its session was not told that a cascade aborted it
abbrev pub holds : List Event → ℕ → Bool
holds H t = unfinished H t || untold H t

untold_on : (e : Event) (P : List Event) (t : ℕ) → is_told t e ≡ false → cause_of (e ∷ P) t ≡ cause_of P t → untold (e ∷ P) t ≡ true → untold P t ≡ true
unfolding untold told_at
untold_on e P t n c h = let p = and_parts _ _ h in and_from _ _ (sym (ap is_after c) ∙ p.0) (sym (ap not (came_kept (is_told t) e P n)) ∙ p.1)

told_on : (u : Txn) (P : List Event) (t : ℕ) → untold (Told u ∷ P) t ≡ true → untold P t ≡ true
unfolding untold told_at cause_of first_event
told_on u P t h = let p = and_parts _ _ h in and_from _ _ p.0 (not_from_false _ (false_from_ne_true _ (λ c. both_ways _ (not-true _ p.1) (elim (first_cases (newest (is_told t)) (Told u) P) [
  | before a b ↦ lt-ltb _ _ (let z : first (newest (is_told t)) (Told u ∷ P) < suc (length P) = omega arith in z)
  | now a b d ↦ lt-ltb _ _ (let z : first (newest (is_told t)) (Told u ∷ P) < suc (length P) = omega arith in z)
  | later a b d ↦ absurd (let z = ltb-true _ _ c in omega arith)
]))))

same_cause : (e : Event) (P : List Event) (t : ℕ) → (is_gone t e ≡ false) → cause_of (e ∷ P) t ≡ cause_of P t
unfolding cause_of
same_cause (Gone u c) P t h = rw h refl
same_cause (Began u s k inst) P t h = refl
same_cause (Got u x w v) P t h = refl
same_cause (Put u x v) P t h = refl
same_cause (Ready u) P t h = refl
same_cause (Done u) P t h = refl
same_cause (Told u) P t h = refl

-- a transaction that is held after an event that is not its Began was held before
was_held : (S : Setup) (e : Event) (P : List Event) (t : ℕ) → Granted S P e → is_began t e ≡ false → holds (e ∷ P) t ≡ true → holds P t ≡ true
was_held S e P t g b h = elim (or_cases _ _ h) [ inl u ↦ or_left (unfinished P t) (untold P t) (was_unfinished e P t b u) | inr w ↦ go e g w ]
  where
    go : (e : Event) → Granted S P e → untold (e ∷ P) t ≡ true → holds P t ≡ true
    go (Gone u c) g w = elim (cases_Bool (eqb u.0 t)) [
      | inl q ↦ or_left (unfinished P t) (untold P t) (subst (λ (z : ℕ). unfinished P z ≡ true) (eqb-true u.0 t q) g)
      | inr q ↦ or_right (unfinished P t) (untold P t) (untold_on (Gone u c) P t refl (same_cause (Gone u c) P t q) w)
    ]
    go (Told u) g w = or_right (unfinished P t) (untold P t) (told_on u P t w)
    go (Began u s k inst) g w = or_right (unfinished P t) (untold P t) (untold_on (Began u s k inst) P t refl (same_cause (Began u s k inst) P t refl) w)
    go (Got u x z v) g w = or_right (unfinished P t) (untold P t) (untold_on (Got u x z v) P t refl (same_cause (Got u x z v) P t refl) w)
    go (Put u x v) g w = or_right (unfinished P t) (untold P t) (untold_on (Put u x v) P t refl (same_cause (Put u x v) P t refl) w)
    go (Ready u) g w = or_right (unfinished P t) (untold P t) (untold_on (Ready u) P t refl (same_cause (Ready u) P t refl) w)
    go (Done u) g w = or_right (unfinished P t) (untold P t) (untold_on (Done u) P t refl (same_cause (Done u) P t refl) w)

held_nobody : (H : List Event) (s t : ℕ) → held H s ≡ None → In t (txns H) → holds H t ≡ true → session_of H t ≡ s → ⊥
unfolding held
held_nobody H s t e i u q = both_ways _ (find_none _ (txns H) t e i) (and_from _ _ (eq-eqb _ _ q) u)

began_only : (S : Setup) (e : Event) (P : List Event) (t u : ℕ) → Lawful S P → Granted S P e → began_at P u < length P → is_began t e ≡ true → holds P u ≡ true → session_of P u ≡ session_of (e ∷ P) t
    → ⊥
began_only S (Began v s k inst) P t u l g bu b w q = held_nobody P s.0 u g.3 (In-txns S P u l bu) w (q ∙ session_began v s k inst P t b)
began_only S (Got v x w r) P t u l g bu b z q = absurd (cc)
began_only S (Put v x r) P t u l g bu b z q = absurd (cc)
began_only S (Ready v) P t u l g bu b z q = absurd (cc)
began_only S (Done v) P t u l g bu b z q = absurd (cc)
began_only S (Gone v c) P t u l g bu b z q = absurd (cc)
began_only S (Told v) P t u l g bu b z q = absurd (cc)

earlier_began : (e : Event) (P : List Event) (t : ℕ) → is_began t e ≡ false → began_at (e ∷ P) t < length (e ∷ P) → began_at P t < length P
unfolding began_at
earlier_began e P t b h = came_before (is_began t) e P b h

-- a session holds at most one transaction
pub holds_one : (S : Setup) (H : List Event) (t u : ℕ) → Lawful S H → began_at H t < length H → began_at H u < length H → holds H t ≡ true → holds H u ≡ true → session_of H t ≡ session_of H u → t ≡ u
unfolding Lawful
holds_one S [] t u l bt bu ht hu q = absurd (omega arith)
holds_one S (e ∷ P) t u l bt bu ht hu q = elim (cases_Bool (is_began t e)) [
  | inl ct ↦ elim (cases_Bool (is_began u e)) [
    | inl cu ↦ began_same e t u ct cu
    | inr cu ↦ absurd (began_only S e P t u l.1 l.0 (earlier_began e P u cu bu) ct (was_held S e P u l.0 cu hu) (sym (session_kept e P u cu) ∙ sym q))
  ]
  | inr ct ↦ elim (cases_Bool (is_began u e)) [
    | inl cu ↦ absurd (began_only S e P u t l.1 l.0 (earlier_began e P t ct bt) cu (was_held S e P t l.0 ct ht) (sym (session_kept e P t ct) ∙ q))
    | inr cu ↦ holds_one S P t u l.1 (earlier_began e P t ct bt) (earlier_began e P u cu bu) (was_held S e P t l.0 ct ht) (was_held S e P u l.0 cu hu)
        (sym (session_kept e P t ct) ∙ q ∙ session_kept e P u cu)
  ]
]
