-- A transaction that a cascade aborted had read from an aborted transaction.
use Rattle.std.proofs.Common.{◌≡◌, ◌≢◌, ◌⊎◌, ℕ, ◌<◌, Bool, true, false, ◌&&◌, ◌||◌, eqb, List, [], ◌∷◌, find, Option, Some}
use Rattle.std.proofs.Common.{None, unwrap_or, refl, sym, ◌∙◌, ap, subst, inl, inr, arith, ltb-true, eqb-true, eq-eqb, ne_eqb}
use Rattle.std.proofs.lemmas.Bool.{and_from, and_parts, or_cases, or_left, or_right, both_ways, cases_eq, not-true, eqb-false}
use Rattle.std.specs.List.{list_any}
use Rattle.teb_rules.proofs.lemmas.names.SameCells.{same_itself}
use Rattle.teb_rules.specs.declared.names.Cell.{Cell}
use Rattle.teb_rules.specs.declared.names.Txn.{Txn}
use Rattle.teb_rules.specs.declared.names.Cause.{Cause}
use Rattle.teb_rules.specs.declared.names.Cause.TheVariants.{After}
use Rattle.teb_rules.specs.declared.history.Event.{Event}
use Rattle.teb_rules.specs.declared.history.Event.TheVariants.{Began, Got, Put, Ready, Done, Gone, Told}
use Rattle.teb_rules.specs.history.Phases.{aborted, cause_of, is_after, is_gone, txns, unfinished}
use Rattle.teb_rules.specs.history.Accesses.{is_from, is_put, read_from, wrote}
use Rattle.teb_rules.proofs.lemmas.history.Newest.{aborted-cons, wrote-cons}
use Rattle.teb_rules.specs.Setup.{Setup, Store}
use Rattle.teb_rules.specs.Versions.{sees}
use Rattle.teb_rules.specs.Cascade.{abort, blamed, cascade, fall_in_turn, txn}
use Rattle.teb_rules.specs.Serializes.{In}
use Rattle.teb_rules.specs.laws.Lawful.{Granted, Lawful}
use Rattle.teb_rules.specs.laws.Laws.{is_read}
use Rattle.teb_rules.proofs.lemmas.laws.Answers.{Good}
use Rattle.teb_rules.proofs.lemmas.laws.Cascades.{cascade-In, falls_parts, unfinished_times}
use Rattle.teb_rules.proofs.lemmas.laws.Intervals.{gone_order}
use Rattle.teb_rules.proofs.lemmas.laws.Lists.{list_any_In, list_any_from}
use Rattle.teb_rules.proofs.lemmas.laws.Locks.{In-txns, find_none}
use Rattle.teb_rules.proofs.lemmas.laws.Pigeons.{In_or_not}
use Rattle.teb_rules.proofs.lemmas.laws.ReadRule.{find_some, from_own, from_row, from_seen, latest-some, read_case, sees_parts}
use Rattle.teb_rules.proofs.lemmas.laws.Serial.{filter-In}
use Rattle.teb_rules.proofs.lemmas.laws.Timeline.{begun_counted}
use Rattle.guarantees.specs.Causes.{IsAfter}
use Rattle.guarantees.proofs.Following.{Keeps, is_plain}

-- a transaction with the cause After read from the one that the cause names, and both are aborted
abbrev pub Fallen : List Event → Type 0
Fallen H = (t : ℕ) (u : Txn) → cause_of H t ≡ Some (After u) → (aborted H t ≡ true) × (read_from H t u.0 ≡ true) × (aborted H u.0 ≡ true)

-- only members of a cascade get a cause from it
pub cause_other : (H : List Event) (t : ℕ) (us : List ℕ) (P : List Event) (v : ℕ) → (In v us → ⊥) → cause_of (fall_in_turn H t us P) v ≡ cause_of P v
unfolding fall_in_turn cause_of
cause_other H t [] P v h = refl
cause_other H t (u ∷ us) P v h = cause_other H t us _ v (λ i. h (inr i)) ∙ rw (ne_eqb u v (λ e. h (inl e))) refl

cause_now : (H : List Event) (t u v : ℕ) (P : List Event) → u ≡ v → cause_of (Gone (txn u) (After (txn (blamed H t u))) ∷ P) v ≡ Some (After (txn (blamed H t v)))
unfolding cause_of
cause_now H t u v P e = rw (eq-eqb u v e) (ap (λ (z : ℕ). Some (After (txn (blamed H t z)))) e)

cause_skip : (c : Cause) (u v : ℕ) (P : List Event) → u ≢ v → cause_of (Gone (txn u) c ∷ P) v ≡ cause_of P v
unfolding cause_of
cause_skip c u v P ne = rw (ne_eqb u v ne) refl

pub cause_member : (H : List Event) (t : ℕ) (us : List ℕ) (P : List Event) (v : ℕ) → In v us ⊎ (cause_of P v ≡ Some (After (txn (blamed H t v))))
    → cause_of (fall_in_turn H t us P) v ≡ Some (After (txn (blamed H t v)))
unfolding fall_in_turn
cause_member H t [] P v o = elim o [ inl i ↦ absurd i | inr e ↦ e ]
cause_member H t (u ∷ us) P v o = cause_member H t us (Gone (txn u) (After (txn (blamed H t u))) ∷ P) v (elim (cases_eq u v) [
  | inl e ↦ inr (cause_now H t u v P e)
  | inr ne ↦ elim o [ inl i ↦ elim i [ inl e ↦ absurd (ne e) | inr j ↦ inl j ] | inr e ↦ inr (cause_skip (After (txn (blamed H t u))) u v P ne ∙ e) ]
])

fall_reads : (H : List Event) (t : ℕ) (us : List ℕ) (P : List Event) (x w : ℕ) → read_from (fall_in_turn H t us P) x w ≡ read_from P x w
unfolding fall_in_turn read_from
fall_reads H t [] P x w = refl
fall_reads H t (u ∷ us) P x w = fall_reads H t us (Gone (txn u) (After (txn (blamed H t u))) ∷ P) x w

pub fall_aborts : (H : List Event) (t : ℕ) (us : List ℕ) (P : List Event) (w : ℕ) → (aborted P w ≡ true) ⊎ In w us → aborted (fall_in_turn H t us P) w ≡ true
unfolding fall_in_turn
fall_aborts H t [] P w o = elim o [ inl a ↦ a | inr i ↦ absurd i ]
fall_aborts H t (u ∷ us) P w o = let e = Gone (txn u) (After (txn (blamed H t u))) in fall_aborts H t us (e ∷ P) w (elim o [
  | inl a ↦ inl (aborted-cons e P w ∙ or_right (is_gone w e) (aborted P w) a)
  | inr i ↦ elim i [ inl q ↦ inl (aborted-cons e P w ∙ or_left (is_gone w e) (aborted P w) (eq-eqb u w q)) | inr j ↦ inr j ]
])

-- a transaction that is aborted after a cascade was aborted before it or is a member
pub aborts_fall : (H : List Event) (t : ℕ) (us : List ℕ) (P : List Event) (w : ℕ) → aborted (fall_in_turn H t us P) w ≡ true → (aborted P w ≡ true) ⊎ In w us
unfolding fall_in_turn
aborts_fall H t [] P w h = inl h
aborts_fall H t (u ∷ us) P w h = let e = Gone (txn u) (After (txn (blamed H t u))) in elim (aborts_fall H t us (e ∷ P) w h) [
  | inr i ↦ inr (inr i)
  | inl a ↦ elim (or_cases (is_gone w e) (aborted P w) (sym (aborted-cons e P w) ∙ a)) [ inl q ↦ inr (inl (eqb-true u w q)) | inr q ↦ inl q ]
]

-- v read from w, and w is t, is aborted, or is in the cascade of t
blames : (H : List Event) (t v w : ℕ) → Bool
blames H t v w = read_from H v w && (eqb w t || aborted H w || list_any (eqb w) (cascade H t))

found_is : (H : List Event) (t v : ℕ) (w : ℕ) → In w (txns H) → blames H t v w ≡ true → blames H t v (blamed H t v) ≡ true
unfolding blames blamed
found_is H t v w i b = go (find (λ w. read_from H v w && (eqb w t || aborted H w || list_any (eqb w) (cascade H t))) (txns H)) refl
  where
    go : (o : Option ℕ) → find (λ w. read_from H v w && (eqb w t || aborted H w || list_any (eqb w) (cascade H t))) (txns H) ≡ o →
        (read_from H v (unwrap_or o 0) && (eqb (unwrap_or o 0) t || aborted H (unwrap_or o 0) || list_any (eqb (unwrap_or o 0)) (cascade H t))) ≡ true
    go None e = absurd (both_ways _ (find_none _ (txns H) w e i) b)
    go (Some m) e = (find_some _ (txns H) m e).1

blamed_is : (S : Setup) (H : List Event) (t v : ℕ) → Good S H → unfinished H t ≡ true → In v (cascade H t) → blames H t v (blamed H t v) ≡ true
unfolding blames
blamed_is S H t v g u i =
    let f = falls_parts H t (cascade H t) v (cascade-In H t v i).1 in
    let w = list_any_In (read_from H v) (t ∷ cascade H t) f.2 in
    elim w.1 [
      | inl e ↦ unfold blames in found_is H t v w.0 (subst (λ (z : ℕ). In z (txns H)) e (In-txns S H t g.legal (unfinished_times H t u).0))
          (unfold blames in and_from _ _ w.2 (or_left _ _ (or_left _ _ (eq-eqb w.0 t (sym e)))))
      | inr j ↦ unfold blames in found_is H t v w.0 (cascade-In H t w.0 j).0
          (unfold blames in and_from _ _ w.2 (or_right (eqb w.0 t || aborted H w.0) _ (list_any_from (eqb w.0) (cascade H t) w.0 j (eq-eqb w.0 w.0 refl))))
    ]

gone_one : (t : ℕ) (c : Cause) (H : List Event) → aborted (Gone (txn t) c ∷ H) t ≡ true
gone_one t c H = aborted-cons (Gone (txn t) c) H t ∙ or_left (eqb t t) (aborted H t) (eq-eqb t t refl)

gone_on : (t w : ℕ) (c : Cause) (H : List Event) → aborted H w ≡ true → aborted (Gone (txn t) c ∷ H) w ≡ true
gone_on t w c H a = aborted-cons (Gone (txn t) c) H w ∙ or_right (eqb t w) (aborted H w) a

-- an abort keeps `Fallen` for the members of its cascade
member_fallen : (S : Setup) (H : List Event) (t : ℕ) (c : Cause) (v : ℕ) → Good S H → unfinished H t ≡ true → In v (cascade H t) →
    (aborted (abort H t c) v ≡ true) × (read_from (abort H t c) v (blamed H t v) ≡ true) × (aborted (abort H t c) (blamed H t v) ≡ true)
unfolding abort blames read_from
member_fallen S H t c v g u i =
    let P = Gone (txn t) c ∷ H in
    let b = and_parts _ _ (blamed_is S H t v g u i) in
    let m = blamed H t v in (
      fall_aborts H t (cascade H t) P v (inr i),
      fall_reads H t (cascade H t) P v m ∙ b.0,
      fall_aborts H t (cascade H t) P m (elim (or_cases (eqb m t || aborted H m) _ b.1) [
        | inl o ↦ elim (or_cases (eqb m t) (aborted H m) o) [ inl e ↦ inl (subst (λ (z : ℕ). aborted P z ≡ true) (sym (eqb-true m t e)) (gone_one t c H)) | inr a ↦ inl (gone_on t m c H a) ]
        | inr l ↦ (let w = list_any_In (eqb m) (cascade H t) l in inr (subst (λ (z : ℕ). In z (cascade H t)) (sym (eqb-true m w.0 w.2)) w.1))
      ]),
    )

same_after : (u v : Txn) → Some (After u) ≡ Some (After v) → u ≡ v
same_after u v e = cc

cause_one : (t v : ℕ) (c : Cause) (H : List Event) → t ≡ v → cause_of (Gone (txn t) c ∷ H) v ≡ Some c
unfolding cause_of
cause_one t v c H e = rw (eq-eqb t v e) refl

reads_gone : (t : ℕ) (c : Cause) (H : List Event) (v w : ℕ) → read_from (Gone (txn t) c ∷ H) v w ≡ read_from H v w
unfolding read_from
reads_gone t c H v w = refl

-- an abort keeps `Fallen` for transactions outside its cascade
outside_fallen : (H : List Event) (t : ℕ) (c : Cause) (us : List ℕ) (v : ℕ) (w : Txn) → is_after (Some c) ≡ false → Fallen H → cause_of (Gone (txn t) c ∷ H) v ≡ Some (After w) →
    (aborted (fall_in_turn H t us (Gone (txn t) c ∷ H)) v ≡ true) × (read_from (fall_in_turn H t us (Gone (txn t) c ∷ H)) v w.0 ≡ true)
    × (aborted (fall_in_turn H t us (Gone (txn t) c ∷ H)) w.0 ≡ true)
outside_fallen H t c us v w a q k = elim (cases_eq t v) [
  | inl s ↦ absurd (both_ways _ a (ap is_after (sym (cause_one t v c H s) ∙ k)))
  | inr ne ↦ (let r = q v w (sym (cause_skip c t v H ne) ∙ k) in (
    fall_aborts H t us (Gone (txn t) c ∷ H) v (inl (gone_on t v c H r.0)),
    fall_reads H t us (Gone (txn t) c ∷ H) v w.0 ∙ reads_gone t c H v w.0 ∙ r.1,
    fall_aborts H t us (Gone (txn t) c ∷ H) w.0 (inl (gone_on t w.0 c H r.2)),
  ))
]

abort_fallen : (S : Setup) (H : List Event) (t : ℕ) (c : Cause) → Good S H → unfinished H t ≡ true → is_after (Some c) ≡ false → Fallen H → Fallen (abort H t c)
unfolding abort
abort_fallen S H t c g u a q v w e = elim (In_or_not v (cascade H t)) [
  | inl i ↦ (let k : txn (blamed H t v) ≡ w = same_after (txn (blamed H t v)) w (sym (cause_member H t (cascade H t) (Gone (txn t) c ∷ H) v (inl i)) ∙ e) in
      let r = member_fallen S H t c v g u i in (
        r.0,
        subst (λ (z : Txn). read_from (fall_in_turn H t (cascade H t) (Gone (txn t) c ∷ H)) v z.0 ≡ true) k r.1,
        subst (λ (z : Txn). aborted (fall_in_turn H t (cascade H t) (Gone (txn t) c ∷ H)) z.0 ≡ true) k r.2,
      ))
  | inr out ↦ outside_fallen H t c (cascade H t) v w a q (sym (cause_other H t (cascade H t) (Gone (txn t) c ∷ H) v out) ∙ e)
]

-- an event that changes no cause keeps `Fallen`
more_fallen : (e : Event) (P : List Event) → ((t : ℕ) → cause_of (e ∷ P) t ≡ cause_of P t) → Fallen P → Fallen (e ∷ P)
unfolding read_from
more_fallen e P same q t u c = let r = q t u (sym (same t) ∙ c) in
    (aborted-cons e P t ∙ or_right (is_gone t e) (aborted P t) r.0, or_right (is_from t u.0 e) (list_any (is_from t u.0) P) r.1, aborted-cons e P u.0 ∙ or_right (is_gone u.0 e) (aborted P u.0) r.2)

plain_cause : (e : Event) (P : List Event) → is_plain e ≡ true → (t : ℕ) → cause_of (e ∷ P) t ≡ cause_of P t
unfolding cause_of
plain_cause (Began s a k i) P h t = refl
plain_cause (Got s x w v) P h t = refl
plain_cause (Put s x v) P h t = refl
plain_cause (Ready s) P h t = refl
plain_cause (Done s) P h t = refl
plain_cause (Gone s c) P h t = absurd (cc)
plain_cause (Told s) P h t = refl

pub keeps_fallen : (X : Store) → Keeps X Fallen
unfolding cause_of
keeps_fallen X = record {
  plain = λ e P h q. more_fallen e P (plain_cause e P h) q;
  begins = λ s k P f q. more_fallen (Began (txn _) s k.kind k.instance) P (λ t. refl) q;
  aborts = λ H t c g u a q. abort_fallen X.setup H t c g u a q;
}

pub none_fallen : Fallen []
unfolding cause_of
none_fallen t u e = absurd (cc)

-- a cell that t read from u and that u had put
record ReadPut (H : List Event) (t u : ℕ) : Type 0 where
  cell : Cell
  read : list_any (is_read t cell u) H ≡ true
  put : wrote H u cell ≡ true

read_more : (e : Event) (P : List Event) (t u : ℕ) → ReadPut P t u → ReadPut (e ∷ P) t u
read_more e P t u r = record { cell = r.cell; read = or_right (is_read t r.cell u e) _ r.read; put = wrote-cons e P u r.cell ∙ or_right (is_put u r.cell e) (wrote P u r.cell) r.put }

read_now : (S : Setup) (e : Event) (P : List Event) (t u : ℕ) → Granted S P e → is_from t u e ≡ true → 0 < u → ReadPut (e ∷ P) t u
read_now S (Got s y v z) P t u g f pos =
    let p = and_parts _ _ f in
    let q = and_parts _ _ p.0 in
    let ts : s.0 ≡ t = eqb-true s.0 t q.0 in
    let vu : v.0 ≡ u = eqb-true v.0 u q.1 in
    let ne = eqb-false t u (not-true _ p.1) in
    let put : wrote P v.0 y ≡ true = elim (read_case S P s.0 y v.0 g.1) [
      | from_own a o ↦ absurd (ne (sym ts ∙ sym o ∙ vu))
      | from_row a o k ↦ absurd (omega arith)
      | from_seen a o ↦ (sees_parts S P y s.0 v.0 (filter-In (sees S P y s.0) v.0 (txns P) (latest-some S P y _ v.0 o).0).1).1
    ] in
    record {
      cell = y;
      read = or_left _ (list_any (is_read t y u) P) (and_from _ _ (and_from _ _ q.0 (same_itself y)) q.1);
      put = wrote-cons (Got s y v z) P u y ∙ subst (λ (k : ℕ). wrote P k y ≡ true) vu put;
    }
read_now S (Began s a k i) P t u g f pos = absurd (cc)
read_now S (Put s x v) P t u g f pos = absurd (cc)
read_now S (Ready s) P t u g f pos = absurd (cc)
read_now S (Done s) P t u g f pos = absurd (cc)
read_now S (Gone s c) P t u g f pos = absurd (cc)
read_now S (Told s) P t u g f pos = absurd (cc)

read_put : (S : Setup) (H : List Event) (t u : ℕ) → Lawful S H → read_from H t u ≡ true → 0 < u → ReadPut H t u
unfolding Lawful read_from
read_put S [] t u l r pos = absurd (cc)
read_put S (e ∷ P) t u l r pos = elim (or_cases (is_from t u e) (list_any (is_from t u) P) r) [ inl q ↦ read_now S e P t u l.0 q pos | inr q ↦ read_more e P t u (read_put S P t u l.1 q pos) ]

pub positive : (S : Setup) (H : List Event) (u : ℕ) → Lawful S H → aborted H u ≡ true → 0 < u
unfolding aborted
positive S H u l a = let g = ltb-true _ _ a in let b = gone_order S H u l g in (begun_counted S H u l (omega arith)).0

pub fell_after : (S : Setup) (H : List Event) (t : ℕ) (u : Txn) → Lawful S H → Fallen H → cause_of H t ≡ Some (After u) → IsAfter H t u
fell_after S H t u l q c =
    let r = q t u c in
    let p = read_put S H t u.0 l r.1 (positive S H u.0 l r.2) in
    record { gone = r.0; kept = c; fell = r.2; cell = p.cell; read = p.read; put = p.put }
