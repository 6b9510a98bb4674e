-- An abort with its cascade leaves a lawful and settled history.
use Rattle.std.proofs.Common.{◌≡◌, ◌≢◌, ◌⊎◌, ℕ, zero, suc, ◌+◌, ◌<◌, ◌≤◌, Bool, true, false, cond, not, ◌&&◌, eqb, ltb, List, [], ◌∷◌, refl, sym}
use Rattle.std.proofs.Common.{◌∙◌, ap, subst, inl, inr, arith, length, ltb-false, lt-ltb, le-ltb, le_refl, eqb-true, eq-eqb, ne_eqb, filter}
use Rattle.std.proofs.lemmas.Bool.{cases_lt, both_ways, cases_eq, false_from_ne_true, and_parts, and_from, or_cases, or_left, or_right, not-true, not_from_false, eqb-false}
use Rattle.teb_rules.specs.declared.history.Event.{Event}
use Rattle.teb_rules.specs.declared.history.Event.TheVariants.{Began, Got, Put, Ready, Done, Gone, Told}
use Rattle.teb_rules.specs.history.Accesses.{read_from, is_from}
use Rattle.teb_rules.specs.history.Phases.{txns, is_done, is_began, began_at, done_at, gone_at, begun, committed, aborted, unfinished, begun_count, is_gone, numbers}
use Rattle.teb_rules.specs.history.Positions.{first, newest, first_event}
use Rattle.teb_rules.specs.laws.Lawful.{Granted, Lawful}
use Rattle.teb_rules.specs.laws.TreeFacts.{TreeFacts}
use Rattle.teb_rules.specs.Cascade.{fallen, cascade, blamed, txn, fall_in_turn, abort}
use Rattle.teb_rules.specs.Serializes.{In}
use Rattle.teb_rules.specs.Setup.{Setup}
use Rattle.teb_rules.proofs.lemmas.laws.Positions.{upto_all}
use Rattle.teb_rules.proofs.lemmas.laws.Timeline.{unfinished-upto, upto-unfinished, begun_counted}
use Rattle.teb_rules.proofs.lemmas.laws.Locks.{In-txns}
use Rattle.teb_rules.proofs.lemmas.laws.Serial.{filter-In, In-filter}
use Rattle.std.proofs.Common.{length-append}
use Rattle.std.specs.List.{list_any}
use Rattle.teb_rules.specs.declared.names.Cause.{Cause}
use Rattle.teb_rules.specs.declared.names.Cause.TheVariants.{After}
use Rattle.teb_rules.proofs.lemmas.laws.Positions.{first_cases, before, now, later}
use Rattle.teb_rules.proofs.lemmas.laws.Assembly.{read_recoverable}
use Rattle.teb_rules.proofs.lemmas.laws.Lists.{Distinct, In-append_cases, list_any_from, list_any_In}
use Rattle.teb_rules.proofs.lemmas.laws.Serial.{Distinct-filter, Distinct-numbers, numbers-In}
use Rattle.teb_rules.proofs.lemmas.laws.Answers.{Good, aborted_kept, lawful_cons}

-- if p implies q, filtering by p gives the same list as filtering by q, or a shorter one
pub filter_count : (p q : ℕ → Bool) (xs : List ℕ) → ((u : ℕ) → p u ≡ true → q u ≡ true) → (filter p xs ≡ filter q xs) ⊎ (length (filter p xs) < length (filter q xs))
filter_count p q [] f = inl refl
filter_count p q (x ∷ xs) f = go (p x) refl (q x) refl (filter_count p q xs f)
  where
    go : (b : Bool) → p x ≡ b → (c : Bool) → q x ≡ c → (filter p xs ≡ filter q xs) ⊎ (length (filter p xs) < length (filter q xs)) →
        (cond b (x ∷ filter p xs) (filter p xs) ≡ cond c (x ∷ filter q xs) (filter q xs)) ⊎ (length (cond b (x ∷ filter p xs) (filter p xs)) < length (cond c (x ∷ filter q xs) (filter q xs)))
    go true e true d r = elim r [ inl s ↦ inl (ap (λ (zs : List ℕ). x ∷ zs) s) | inr s ↦ inr (omega arith) ]
    go true e false d r = absurd (both_ways (q x) d (f x e))
    go false e true d r = elim r [ inl s ↦ inr (let z = ap length s in omega arith) | inr s ↦ inr (omega arith) ]
    go false e false d r = r

filter-length : (p : ℕ → Bool) (xs : List ℕ) → length (filter p xs) ≤ length xs
filter-length p [] = omega arith
filter-length p (x ∷ xs) = go (p x) (filter-length p xs)
  where
    go : (b : Bool) → length (filter p xs) ≤ length xs → length (cond b (x ∷ filter p xs) (filter p xs)) ≤ suc (length xs)
    go true h = omega arith
    go false h = omega arith

list_any_more : (p : ℕ → Bool) (xs ys : List ℕ) → ((u : ℕ) → In u xs → In u ys) → list_any p xs ≡ true → list_any p ys ≡ true
list_any_more p [] ys f h = absurd (cc)
list_any_more p (x ∷ xs) ys f h = elim (or_cases (p x) (list_any p xs) h) [ inl e ↦ here ys (f x (inl refl)) e | inr e ↦ list_any_more p xs ys (λ u i. f u (inr i)) e ]
  where
    here : (ys : List ℕ) → In x ys → p x ≡ true → list_any p ys ≡ true
    here [] i e = absurd i
    here (y ∷ ys) i e = elim i [ inl q ↦ or_left (p y) (list_any p ys) (subst (λ (z : ℕ). p z ≡ true) (sym q) e) | inr j ↦ or_right (p y) (list_any p ys) (here ys j e) ]

-- u falls with t and the members us: it is not aborted, and it read from one of them
unfoldable pub falls : List Event → ℕ → List ℕ → ℕ → Bool
falls H t us u = not (aborted H u) && not (eqb u t) && list_any (read_from H u) (t ∷ us)

pub fallen_step : (H : List Event) (t d : ℕ) (us : List ℕ) → fallen H t (suc d) us ≡ fallen H t d (filter (falls H t us) (txns H))
unfolding fallen falls
fallen_step H t d us = refl

pub falls_more : (H : List Event) (t : ℕ) (us vs : List ℕ) → ((u : ℕ) → In u us → In u vs) → (u : ℕ) → falls H t us u ≡ true → falls H t vs u ≡ true
unfolding falls
falls_more H t us vs f u h = let p = and_parts _ _ h in and_from _ _ p.0 (list_any_more (read_from H u) (t ∷ us) (t ∷ vs) (λ z i. elim i [ inl e ↦ inl e | inr j ↦ inr (f z j) ]) p.1)

pub fallen_fixed : (H : List Event) (t d : ℕ) (us : List ℕ) → filter (falls H t us) (txns H) ≡ us → fallen H t d us ≡ us
fallen_fixed H t zero us e = unfold fallen in refl
fallen_fixed H t (suc d) us e = fallen_step H t d us ∙ ap (fallen H t d) e ∙ fallen_fixed H t d us e

-- the result of the rounds: a filter of the transactions that is within the next round, and is fixed or has at least one more member for each round
record Rounds (H : List Event) (t d : ℕ) (p : ℕ → Bool) : Type 0 where
  test : ℕ → Bool
  is : fallen H t d (filter p (txns H)) ≡ filter test (txns H)
  grows : (u : ℕ) → test u ≡ true → falls H t (filter test (txns H)) u ≡ true
  fixed : (filter (falls H t (filter test (txns H))) (txns H) ≡ filter test (txns H)) ⊎ (d + length (filter p (txns H)) ≤ length (filter test (txns H)))

pub widened : (p q : ℕ → Bool) (xs : List ℕ) → ((u : ℕ) → p u ≡ true → q u ≡ true) → (u : ℕ) → In u (filter p xs) → In u (filter q xs)
widened p q xs f u i = let r = filter-In p u xs i in In-filter q u xs r.0 (f u r.1)

rounds : (H : List Event) (t d : ℕ) (p : ℕ → Bool) → ((u : ℕ) → p u ≡ true → falls H t (filter p (txns H)) u ≡ true) → Rounds H t d p
rounds H t zero p g = record { test = p; is = unfold fallen in refl; grows = g; fixed = inr (omega arith) }
rounds H t (suc d) p g =
    let q = falls H t (filter p (txns H)) in
    let r = rounds H t d q (λ u h. falls_more H t (filter p (txns H)) (filter q (txns H)) (widened p q (txns H) g) u h) in
    elim (filter_count p q (txns H) g) [
      | inl e ↦ record { test = p; is = fallen_fixed H t (suc d) (filter p (txns H)) (sym e); grows = g; fixed = inl (sym e) }
      | inr e ↦ record { test = r.test; is = fallen_step H t d (filter p (txns H)) ∙ r.is; grows = r.grows; fixed = elim r.fixed [ inl f ↦ inl f | inr f ↦ inr (omega arith) ] }
    ]

length-numbers : (n : ℕ) → length (numbers n) ≡ n
unfolding numbers
length-numbers zero = refl
length-numbers (suc n) = let z = length-append (numbers n) (suc n ∷ []) in let y = length-numbers n in omega arith

pub no_members : (xs : List ℕ) → filter (λ u. false) xs ≡ []
no_members [] = refl
no_members (x ∷ xs) = no_members xs

-- the cascade is closed: a transaction that is not aborted and read from t or a member is a member
pub cascade_closed : (H : List Event) (t : ℕ) → filter (falls H t (cascade H t)) (txns H) ≡ cascade H t
unfolding cascade
cascade_closed H t =
    let r = rounds H t (begun_count H) (λ u. false) (λ u h. absurd (cc)) in
    let e : fallen H t (begun_count H) [] ≡ filter r.test (txns H) = ap (fallen H t (begun_count H)) (sym (no_members (txns H))) ∙ r.is in
    let s : filter (falls H t (filter r.test (txns H))) (txns H) ≡ filter r.test (txns H) = elim r.fixed [
      | inl f ↦ f
      | inr f ↦ elim (filter_count r.test (falls H t (filter r.test (txns H))) (txns H) r.grows) [
        | inl g ↦ sym g
        | inr g ↦ absurd (let z = filter-length (falls H t (filter r.test (txns H))) (txns H) in let y : length (txns H) ≡ begun_count H = unfold txns in length-numbers (begun_count H) in omega arith)
      ]
    ] in
    rw e s

pub came_kept : (q : Event → Bool) (e : Event) (P : List Event) → q e ≡ false → ltb (first_event q (e ∷ P)) (length (e ∷ P)) ≡ ltb (first_event q P) (length P)
unfolding first_event
came_kept q e P h = elim (first_cases (newest q) e P) [
  | before a b ↦ lt-ltb _ _ (let z : first (newest q) (e ∷ P) < suc (length P) = omega arith in z) ∙ sym (lt-ltb _ _ a)
  | now a b c ↦ absurd (both_ways _ h b)
  | later a b c ↦ le-ltb _ _ (let z : suc (length P) ≤ first (newest q) (e ∷ P) = omega arith in z) ∙ sym (le-ltb _ _ (let z : length P ≤ first (newest q) P = omega arith in z))
]

pub unfinished_kept : (u v : ℕ) (c : Cause) (P : List Event) → u ≢ v → unfinished (Gone (txn u) c ∷ P) v ≡ unfinished P v
unfolding unfinished begun committed aborted began_at done_at gone_at
unfinished_kept u v c P ne = rw (came_kept (is_began v) (Gone (txn u) c) P refl, came_kept (is_done v) (Gone (txn u) c) P refl, came_kept (is_gone v) (Gone (txn u) c) P (ne_eqb u v ne)) refl

fall_legal : (S : Setup) (H : List Event) (t : ℕ) (us : List ℕ) (P : List Event) → Lawful S P → Distinct us → ((u : ℕ) → In u us → unfinished P u ≡ true) → Lawful S (fall_in_turn H t us P)
unfolding fall_in_turn
fall_legal S H t [] P l d f = l
fall_legal S H t (u ∷ us) P l d f = fall_legal S H t us (Gone (txn u) (After (txn (blamed H t u))) ∷ P) (lawful_cons S (Gone (txn u) (After (txn (blamed H t u)))) P (f u (inl refl)) l) d.1
    (λ v i. unfinished_kept u v (After (txn (blamed H t u))) P (d.0 v i) ∙ f v (inr i))

fall_read : (H : List Event) (t : ℕ) (us : List ℕ) (P : List Event) (x w : ℕ) → read_from (fall_in_turn H t us P) x w ≡ read_from P x w
unfolding fall_in_turn read_from
fall_read H t [] P x w = refl
fall_read H t (u ∷ us) P x w = fall_read H t us (Gone (txn u) (After (txn (blamed H t u))) ∷ P) x w

gone_now : (u : ℕ) (c : Cause) (P : List Event) → aborted (Gone (txn u) c ∷ P) u ≡ true
unfolding aborted gone_at first_event
gone_now u c P = elim (first_cases (newest (is_gone u)) (Gone (txn u) c) P) [
  | before a b ↦ lt-ltb _ _ (let z : first (newest (is_gone u)) (Gone (txn u) c ∷ P) < suc (length P) = omega arith in z)
  | now a b d ↦ lt-ltb _ _ (let z : first (newest (is_gone u)) (Gone (txn u) c ∷ P) < suc (length P) = omega arith in z)
  | later a b d ↦ absurd (both_ways _ b (eq-eqb u u refl))
]

aborted_more : (u w : ℕ) (c : Cause) (P : List Event) → aborted P w ≡ true → aborted (Gone (txn u) c ∷ P) w ≡ true
aborted_more u w c P h = elim (cases_eq u w) [ inl e ↦ subst (λ (z : ℕ). aborted (Gone (txn u) c ∷ P) z ≡ true) e (gone_now u c P) | inr ne ↦ aborted_kept (Gone (txn u) c) P w (ne_eqb u w ne) ∙ h ]

fall_aborts : (H : List Event) (t : ℕ) (us : List ℕ) (P : List Event) (w : ℕ) → (aborted P w ≡ true) ⊎ In w us → aborted (fall_in_turn H t us P) w ≡ true
unfolding fall_in_turn
fall_aborts H t [] P w o = elim o [ inl a ↦ a | inr i ↦ absurd i ]
fall_aborts H t (u ∷ us) P w o = fall_aborts H t us (Gone (txn u) (After (txn (blamed H t u))) ∷ P) w (elim o [
  | inl a ↦ inl (aborted_more u w (After (txn (blamed H t u))) P a)
  | inr i ↦ elim i [ inl e ↦ inl (subst (λ (z : ℕ). aborted (Gone (txn u) (After (txn (blamed H t u))) ∷ P) z ≡ true) e (gone_now u (After (txn (blamed H t u))) P)) | inr j ↦ inr j ]
])

aborts_fall : (H : List Event) (t : ℕ) (us : List ℕ) (P : List Event) (w : ℕ) → aborted (fall_in_turn H t us P) w ≡ true → (aborted P w ≡ true) ⊎ In w us
unfolding fall_in_turn
aborts_fall H t [] P w h = inl h
aborts_fall H t (u ∷ us) P w h = elim (aborts_fall H t us (Gone (txn u) (After (txn (blamed H t u))) ∷ P) w h) [
  | inr i ↦ inr (inr i)
  | inl a ↦ elim (cases_eq u w) [ inl e ↦ inr (inl e) | inr ne ↦ inl (sym (aborted_kept (Gone (txn u) (After (txn (blamed H t u)))) P w (ne_eqb u w ne)) ∙ a) ]
]

began_more : (e : Event) (P : List Event) (u : ℕ) → (began_at P u < length P) ⊎ (is_began u e ≡ true) → began_at (e ∷ P) u < length (e ∷ P)
unfolding began_at first_event
began_more e P u o = elim (first_cases (newest (is_began u)) e P) [
  | before a b ↦ omega arith
  | now a b c ↦ omega arith
  | later a b c ↦ absurd (elim o [ inl h ↦ omega arith | inr h ↦ both_ways _ b h ])
]

counts : (S : Setup) (e : Event) (P : List Event) (u : ℕ) → Granted S P e → u ≤ begun_count (e ∷ P) → (u ≤ begun_count P) ⊎ (is_began u e ≡ true)
unfolding begun_count
counts S (Began s k c inst) P u g h = elim (cases_lt (begun_count P) u) [ inl r ↦ inr (eq-eqb s.0 u (let z = g.0 in omega arith)) | inr r ↦ inl r ]
counts S (Got s x w v) P u g h = inl h
counts S (Put s x v) P u g h = inl h
counts S (Ready s) P u g h = inl h
counts S (Done s) P u g h = inl h
counts S (Gone s c) P u g h = inl h
counts S (Told s) P u g h = inl h

-- every number up to the count has begun
pub has_begun : (S : Setup) (H : List Event) (u : ℕ) → Lawful S H → 0 < u → u ≤ begun_count H → began_at H u < length H
unfolding Lawful
has_begun S [] u l p h = absurd (unfold begun_count in omega arith)
has_begun S (e ∷ P) u l p h = began_more e P u (elim (counts S e P u l.0 h) [ inl r ↦ inl (has_begun S P u l.1 p r) | inr r ↦ inr r ])

pub numbers_pos : (n u : ℕ) → In u (numbers n) → 0 < u
unfolding numbers
numbers_pos zero u i = absurd i
numbers_pos (suc n) u i = elim (In-append_cases u (numbers n) (suc n ∷ []) i) [ inl j ↦ numbers_pos n u j | inr j ↦ elim j [ inl e ↦ omega arith | inr k ↦ absurd k ] ]

pub txns-began : (S : Setup) (H : List Event) (u : ℕ) → Lawful S H → In u (txns H) → began_at H u < length H
unfolding txns
txns-began S H u l i = has_begun S H u l (numbers_pos (begun_count H) u i) (numbers-In (begun_count H) u i)

pub unfinished_times : (H : List Event) (t : ℕ) → unfinished H t ≡ true → (began_at H t < length H) × (length H ≤ done_at H t) × (length H ≤ gone_at H t)
unfinished_times H t u = unfinished-upto H (length H) t (le_refl _) (subst (λ (Q : List Event). unfinished Q t ≡ true) (sym (upto_all (length H) H (le_refl _))) u)

pub unfinished_now : (H : List Event) (t : ℕ) → began_at H t < length H → length H ≤ done_at H t → length H ≤ gone_at H t → unfinished H t ≡ true
unfinished_now H t b d g = subst (λ (Q : List Event). unfinished Q t ≡ true) (upto_all (length H) H (le_refl _)) (upto-unfinished H (length H) t (le_refl _) b d g)

pub falls_parts : (H : List Event) (t : ℕ) (us : List ℕ) (v : ℕ) → falls H t us v ≡ true → (length H ≤ gone_at H v) × (v ≢ t) × (list_any (read_from H v) (t ∷ us) ≡ true)
unfolding falls aborted
falls_parts H t us v h = let p = and_parts _ _ h in let q = and_parts _ _ p.0 in (ltb-false _ _ (not-true _ q.0), eqb-false _ _ (not-true _ q.1), p.1)

falls_from : (H : List Event) (t : ℕ) (us : List ℕ) (v : ℕ) → aborted H v ≡ false → v ≢ t → list_any (read_from H v) (t ∷ us) ≡ true → falls H t us v ≡ true
unfolding falls
falls_from H t us v p q r = and_from _ _ (and_from _ _ (not_from_false _ p) (not_from_false _ (ne_eqb v t q))) r

-- a member is unfinished
pub members_unfinished : (S : Setup) (a : TreeFacts S) (H : List Event) (t d : ℕ) (us : List ℕ) → Good S H → unfinished H t ≡ true → ((u : ℕ) → In u us → unfinished H u ≡ true) → (u : ℕ)
    → In u (fallen H t d us) → unfinished H u ≡ true
members_unfinished S a H t zero us g ut f u i = f u (unfold fallen in i)
members_unfinished S a H t (suc d) us g ut f u i = members_unfinished S a H t d (filter (falls H t us) (txns H)) g ut (λ v j. member v (filter-In (falls H t us) v (txns H) j)) u
    (subst (In u) (fallen_step H t d us) i)
  where
    member : (v : ℕ) → In v (txns H) × (falls H t us v ≡ true) → unfinished H v ≡ true
    member v r =
        let p = falls_parts H t us v r.1 in
        let b = txns-began S H v g.legal r.0 in
        let w = list_any_In (read_from H v) (t ∷ us) p.2 in
        let k : unfinished H w.0 ≡ true = elim w.1 [ inl e ↦ subst (λ (z : ℕ). unfinished H z ≡ true) e ut | inr j ↦ f w.0 j ] in
        let y = unfinished_times H w.0 k in
        let pos = (begun_counted S H w.0 g.legal y.0).0 in
        unfinished_now H v b (elim (cases_lt (done_at H v) (length H)) [
          | inl c ↦ absurd (let z = read_recoverable S a H v w.0 g.legal c pos H (le_refl _) (upto_all (length H) H (le_refl _)) (unfold read_from in w.2) in let x = y.1 in omega arith)
          | inr c ↦ c
        ]) p.0

pub cascade-In : (H : List Event) (t u : ℕ) → In u (cascade H t) → In u (txns H) × (falls H t (cascade H t) u ≡ true)
cascade-In H t u i = filter-In (falls H t (cascade H t)) u (txns H) (subst (In u) (sym (cascade_closed H t)) i)

reader_began : (S : Setup) (e : Event) (P : List Event) (x w : ℕ) → Granted S P e → is_from x w e ≡ true → began_at P x < length P
reader_began S (Got s y u v) P x w g h = subst (λ (z : ℕ). began_at P z < length P) (eqb-true s.0 x (and_parts _ _ (and_parts _ _ h).0).0) (unfinished_times P s.0 g.0.unfinished).0
reader_began S (Began u s k inst) P x w g h = absurd (cc)
reader_began S (Put u y v) P x w g h = absurd (cc)
reader_began S (Ready u) P x w g h = absurd (cc)
reader_began S (Done u) P x w g h = absurd (cc)
reader_began S (Gone u c) P x w g h = absurd (cc)
reader_began S (Told u) P x w g h = absurd (cc)

read_began : (S : Setup) (H : List Event) (x w : ℕ) → Lawful S H → read_from H x w ≡ true → began_at H x < length H
unfolding Lawful read_from
read_began S [] x w l h = absurd (cc)
read_began S (e ∷ P) x w l h = began_more e P x (inl (elim (or_cases (is_from x w e) (list_any (is_from x w) P) h) [ inl q ↦ reader_began S e P x w l.0 q | inr q ↦ read_began S P x w l.1 q ]))

read_kept : (t : ℕ) (c : Cause) (H : List Event) (x w : ℕ) → read_from (Gone (txn t) c ∷ H) x w ≡ read_from H x w
unfolding read_from
read_kept t c H x w = refl

-- an abort with its cascade leaves the history good
pub abort_good : (S : Setup) (a : TreeFacts S) (H : List Event) (t : ℕ) (c : Cause) → Good S H → unfinished H t ≡ true → Good S (abort H t c)
unfolding abort
abort_good S a H t c g u = record {
  legal = fall_legal S H t (cascade H t) (Gone (txn t) c ∷ H) (lawful_cons S (Gone (txn t) c) H u g.legal)
      (subst Distinct (cascade_closed H t) (Distinct-filter (falls H t (cascade H t)) (txns H) (unfold txns in Distinct-numbers (begun_count H))))
      (λ v i. unfinished_kept t v c H (λ e. (falls_parts H t (cascade H t) v (cascade-In H t v i).1).1 (sym e)) ∙ members_unfinished S a H t (begun_count H) [] g u (λ w j. absurd j) v
      (unfold cascade in i));
  settled = λ x w p r. false_from_ne_true _
      (λ q. both_ways _ p (fall_aborts H t (cascade H t) (Gone (txn t) c ∷ H) x
      (fell x w (was x p) (sym (fall_read H t (cascade H t) (Gone (txn t) c ∷ H) x w) ∙ r) (aborts_fall H t (cascade H t) (Gone (txn t) c ∷ H) w q))));
}
  where
    was : (x : ℕ) → aborted (fall_in_turn H t (cascade H t) (Gone (txn t) c ∷ H)) x ≡ false → (aborted H x ≡ false) × (x ≢ t)
    was x p = (
      false_from_ne_true _ (λ q. both_ways _ p (fall_aborts H t (cascade H t) (Gone (txn t) c ∷ H) x (inl (aborted_more t x c H q)))),
      λ e. both_ways _ p (fall_aborts H t (cascade H t) (Gone (txn t) c ∷ H) x (inl (subst (λ (z : ℕ). aborted (Gone (txn t) c ∷ H) z ≡ true) (sym e) (gone_now t c H)))),
    )

    fell : (x w : ℕ) → (aborted H x ≡ false) × (x ≢ t) → read_from (Gone (txn t) c ∷ H) x w ≡ true → (aborted (Gone (txn t) c ∷ H) w ≡ true) ⊎ In w (cascade H t)
        → (aborted (Gone (txn t) c ∷ H) x ≡ true) ⊎ In x (cascade H t)
    fell x w p r o =
        let q : read_from H x w ≡ true = sym (read_kept t c H x w) ∙ r in
        let i = In-txns S H x g.legal (read_began S H x w g.legal q) in
        let within : In w (t ∷ cascade H t) → In x (cascade H t) = λ j. subst (In x) (cascade_closed H t)
        (In-filter (falls H t (cascade H t)) x (txns H) i (falls_from H t (cascade H t) x p.0 p.1 (list_any_from (read_from H x) (t ∷ cascade H t) w j q))) in
        elim o [
          | inr j ↦ inr (within (inr j))
          | inl z ↦ elim (cases_eq t w) [
            | inl e ↦ inr (within (inl e))
            | inr ne ↦ absurd (both_ways _ (g.settled x w p.0 q) (sym (aborted_kept (Gone (txn t) c) H w (ne_eqb t w ne)) ∙ z))
          ]
        ]
