-- What an answer says of an abort, and which transactions it aborts.
use Rattle.std.proofs.Common.{◌≡◌, ◌≢◌, ◌⊎◌, ℕ, Bool, true, false, not, cond, ◌&&◌, ltb, leb, List, [], ◌∷◌, Option, Some, None}
use Rattle.std.proofs.Common.{is_none, unwrap_or, refl, sym, ◌∙◌, ap, subst, inl, inr, ltb-true, eqb-true, eq-eqb, ℤ, ◌+ℤ◌}
use Rattle.std.proofs.lemmas.Bool.{and_parts, or_cases, both_ways}
use Rattle.teb_rules.specs.declared.names.TheConstants.{MOST_TXNS, SESSIONS}
use Rattle.teb_rules.proofs.lemmas.names.SameCells.{same_itself}
use Rattle.teb_rules.specs.declared.names.Cell.{Cell}
use Rattle.teb_rules.specs.declared.names.Txn.{Txn}
use Rattle.teb_rules.specs.declared.names.Spot.{Spot}
use Rattle.teb_rules.specs.declared.names.Session.{Session}
use Rattle.teb_rules.specs.declared.names.Cause.{Cause}
use Rattle.teb_rules.specs.declared.names.Cause.TheVariants.{After, Newer, Asked, Ended}
use Rattle.teb_rules.specs.declared.names.Cause.TheVariants.{Late, First, Pivot}
use Rattle.teb_rules.specs.declared.names.Request.{Request}
use Rattle.teb_rules.specs.declared.names.Request.TheVariants.{Begin, Read, Write, Add, Delete, Scan, Prepare, Commit, Abort, End}
use Rattle.teb_rules.specs.declared.names.Refusal.TheVariants.{UnknownType, Full, UnknownTable, NotInProfile, Overflow, Range, BadSession}
use Rattle.teb_rules.specs.declared.names.Refusal.TheVariants.{Prepared as IsPrepared}
use Rattle.teb_rules.specs.declared.names.Reply.{Reply}
use Rattle.teb_rules.specs.declared.names.Reply.TheVariants.{Aborted, Again, Committed, Prepared, Value, Values}
use Rattle.teb_rules.specs.declared.names.Reply.TheVariants.{Done as Written}
use Rattle.teb_rules.specs.declared.history.Event.{Event}
use Rattle.teb_rules.specs.declared.history.Event.TheVariants.{Began, Got, Put, Ready, Done, Gone, Told as WasTold}
use Rattle.teb_rules.specs.history.Phases.{aborted, begun_count, cause_of, held, is_after, is_gone, kind_of, prepared, unfinished, untold}
use Rattle.teb_rules.proofs.lemmas.history.Newest.{aborted-cons}
use Rattle.teb_rules.specs.Setup.{Store, Setup, profile}
use Rattle.teb_rules.specs.Steps.{cursor, least_step}
use Rattle.teb_rules.specs.Versions.{read}
use Rattle.teb_rules.specs.declared.Stop.{Stop}
use Rattle.teb_rules.specs.declared.Stop.TheVariants.{Go as Free, Wait as Waits, Break as Breaks}
use Rattle.teb_rules.specs.Verdicts.{cause_at}
use Rattle.teb_rules.specs.Stops.{access_stop, begin_stop, commit_stop, prepare_stop, scan_stop}
use Rattle.teb_rules.specs.Cascade.{abort, blamed, cascade, txn}
use Rattle.teb_rules.specs.Answer.{Answered, added, answer, answer_new, answer_of, answer_to, begin_or_wait, broken_off}
use Rattle.teb_rules.specs.Answer.{cells_from, fits, is_scan, or_refused, or_stop, put_value, read_all, refuse, scan_values}
use Rattle.teb_rules.specs.laws.Lawful.{Lawful}
use Rattle.teb_rules.specs.laws.TreeFacts.{TreeFacts}
use Rattle.teb_rules.proofs.lemmas.laws.Answers.{aborted_kept}
use Rattle.teb_rules.proofs.lemmas.laws.Cascades.{cascade-In, falls_parts}
use Rattle.teb_rules.proofs.lemmas.laws.Holding.{held_holds, holds_cases, not_unfinished}
use Rattle.guarantees.specs.Causes.{IsGrounded, request_stop, writes}
use Rattle.guarantees.proofs.Following.{held_runs}
use Rattle.guarantees.proofs.Fallen.{Fallen, aborts_fall, cause_member, cause_other, fell_after}
use Rattle.guarantees.proofs.Named.{StopNames, access_names, commit_names, prepare_names, scan_names}

abbrev is_aborted : Reply → Bool
is_aborted (Aborted c) = true
is_aborted _ = false

abbrev cause_in : Reply → Cause
cause_in (Aborted c) = c
cause_in _ = Asked

-- x, the answer to t's request r, tells a grounded abort and carries it out, or aborts no transaction
record Tells (S : Setup) (H : List Event) (r : Request) (t : ℕ) (x : Answered) : Type 0 where
  tells : (c : Cause) → x.0 ≡ Aborted c → IsGrounded S H r t c × (x.1 ≡ abort H t c)
  keeps : ((c : Cause) × (x.1 ≡ abort H t c)) ⊎ ((v : ℕ) → aborted x.1 v ≡ aborted H v)

reads_abort_none : (X : Store) (t : ℕ) (xs : List Cell) (H : List Event) (v : ℕ) → aborted (read_all X H t xs).1 v ≡ aborted H v
unfolding read_all
reads_abort_none X t [] H v = refl
reads_abort_none X t (x ∷ xs) H v = let r = read X.setup X.rows H t x in let e = Got (txn t) x (txn r.0) r.1 in reads_abort_none X t xs (e ∷ H) v ∙ aborted_kept e H v refl

module _ (X : Store) (tf : TreeFacts X.setup) (H : List Event) (l : Lawful X.setup H) (t : ℕ) (u : unfinished H t ≡ true) where
  granted_tells : (r : Request) (a : Reply) (G : List Event) → is_aborted a ≡ false → ((v : ℕ) → aborted G v ≡ aborted H v) → Tells X.setup H r t (a, G)
  granted_tells r a G n k = record { tells = λ c e. absurd (both_ways _ n (ap is_aborted e)); keeps = inr k }

  same_tells : (r : Request) (a : Reply) → is_aborted a ≡ false → Tells X.setup H r t (a, H)
  same_tells r a n = granted_tells r a H n (λ v. refl)

  aborted_tells : (r : Request) (c : Cause) → IsGrounded X.setup H r t c → Tells X.setup H r t (broken_off H t c)
  aborted_tells r c g = record {
    tells = λ d e. let k : c ≡ d = ap cause_in e in subst (λ (z : Cause). IsGrounded X.setup H r t z × (abort H t c ≡ abort H t z)) k (g, refl);
    keeps = inl (c, refl);
  }

  cond_tells : (r : Request) (b : Bool) (x y : Answered) → Tells X.setup H r t x → Tells X.setup H r t y → Tells X.setup H r t (cond b x y)
  cond_tells r true x y f g = f
  cond_tells r false x y f g = g

  or_stop_tells : (r : Request) (s : Stop) (granted : Answered) → request_stop X.setup H t r ≡ s → StopNames X.setup H r t s → Tells X.setup H r t granted → Tells X.setup H r t (or_stop H t s granted)
  or_stop_tells r Free granted o n g = g
  or_stop_tells r (Breaks m b) granted o n g = aborted_tells r (cause_at m b) (n.breaks m b refl)
  or_stop_tells r (Waits v m) granted o n g = go (ltb t v.0) refl
    where
      go : (b : Bool) → ltb t v.0 ≡ b → Tells X.setup H r t (cond b (broken_off H t (Newer m v)) (Again v m, H))
      go true e = let w = n.waits v m refl in aborted_tells r (Newer m v) (record { running = w.0; newer = ltb-true _ _ e; meet = w.1; waits = o })
      go false e = same_tells r (Again v m) refl

  refused_tells : (r : Request) (x : Cell) (granted : Answered) → Tells X.setup H r t granted → Tells X.setup H r t (or_refused X H t x granted)
  refused_tells r x granted f =
      let inner = cond (is_none (least_step (profile X.setup (kind_of H t)) (cursor X.setup H t) x.table.0)) (refuse H NotInProfile) granted in
      cond_tells r (not (ltb x.table.0 X.tables)) (refuse H UnknownTable) (cond (prepared H t) (refuse H IsPrepared) inner) (same_tells r _ refl)
      (cond_tells r (prepared H t) (refuse H IsPrepared) inner (same_tells r _ refl)
      (cond_tells r (is_none (least_step (profile X.setup (kind_of H t)) (cursor X.setup H t) x.table.0)) (refuse H NotInProfile) granted (same_tells r _ refl) f))

  put_tells : (r : Request) (x : Cell) (v : Option ℤ) → request_stop X.setup H t r ≡ access_stop X.setup H t x true → writes x r ≡ true → Tells X.setup H r t (put_value X.setup H t x v)
  put_tells r x v o w = or_stop_tells r (access_stop X.setup H t x true) _ o (access_names X.setup H r t x true (λ e. w))
      (granted_tells r Written (Put (txn t) x v ∷ H) refl (λ z. aborted_kept (Put (txn t) x v) H z refl))

  added_tells : (r : Request) (x : Cell) (v : ℤ) (o : Option ℤ) → request_stop X.setup H t r ≡ access_stop X.setup H t x true → writes x r ≡ true → Tells X.setup H r t (added X.setup H t x v o)
  added_tells r x v None k w = same_tells r _ refl
  added_tells r x v (Some b) k w = cond_tells r (fits (b +ℤ v)) (put_value X.setup H t x (Some (b +ℤ v))) (refuse H Overflow) (put_tells r x (Some (b +ℤ v)) k w) (same_tells r _ refl)

  of_tells : (r : Request) → Tells X.setup H r t (answer_of X H t r)
  unfolding answer_of read
  of_tells (Begin s) = same_tells (Begin s) _ refl
  of_tells (Read x) = refused_tells (Read x) x _ (or_stop_tells (Read x) (access_stop X.setup H t x false) _ refl (access_names X.setup H (Read x) t x false (λ e. absurd (cc)))
      (granted_tells (Read x) (Value _) (Got (txn t) x _ _ ∷ H) refl (λ v. aborted_kept (Got (txn t) x _ _) H v refl)))
  of_tells (Write x v) = refused_tells (Write x v) x _ (put_tells (Write x v) x (Some v) refl (same_itself x))
  of_tells (Add x v) = refused_tells (Add x v) x _ (added_tells (Add x v) x v _ refl (same_itself x))
  of_tells (Delete x) = refused_tells (Delete x) x _ (put_tells (Delete x) x None refl (same_itself x))
  of_tells (Scan x n) = refused_tells (Scan x n) x _ (cond_tells (Scan x n) (is_scan x n) (scan_values X H t x n) (refuse H Range)
      (or_stop_tells (Scan x n) (scan_stop X.setup H t (cells_from x n)) _ refl (scan_names X.setup H (Scan x n) t (cells_from x n))
      (granted_tells (Scan x n) (Values _) _ refl (reads_abort_none X t (cells_from x n) H)))
      (same_tells (Scan x n) _ refl))
  of_tells Prepare = cond_tells Prepare (prepared H t) (refuse H IsPrepared) (or_stop H t (prepare_stop X.setup H t) (Prepared, Ready (txn t) ∷ H)) (same_tells Prepare _ refl)
      (or_stop_tells Prepare (prepare_stop X.setup H t) _ refl (prepare_names X.setup tf H t l) (granted_tells Prepare Prepared (Ready (txn t) ∷ H) refl (λ v. aborted_kept (Ready (txn t)) H v refl)))
  of_tells Commit = or_stop_tells Commit (commit_stop X.setup H t) _ refl (commit_names X.setup tf H t l)
      (granted_tells Commit Committed (Done (txn t) ∷ H) refl (λ v. aborted_kept (Done (txn t)) H v refl))
  of_tells Abort = aborted_tells Abort Asked (refl, u)
  of_tells End = aborted_tells End Ended (refl, u)

-- an abort keeps its cause for the transaction with which it begins
abort_cause : (H : List Event) (t : ℕ) (c : Cause) → cause_of (abort H t c) t ≡ Some c
unfolding abort cause_of
abort_cause H t c = cause_other H t (cascade H t) (Gone (txn t) c ∷ H) t (λ i. (falls_parts H t (cascade H t) t (cascade-In H t t i).1).1 refl) ∙ rw (eq-eqb t t refl) refl

-- every other transaction that an abort aborts has the cause After, with the transaction that it read from
abort_others : (H : List Event) (t : ℕ) (c : Cause) (v : ℕ) → aborted H v ≡ false → aborted (abort H t c) v ≡ true → t ≢ v → cause_of (abort H t c) v ≡ Some (After (txn (blamed H t v)))
unfolding abort
abort_others H t c v a b ne = elim (aborts_fall H t (cascade H t) (Gone (txn t) c ∷ H) v b) [
  | inr i ↦ cause_member H t (cascade H t) (Gone (txn t) c ∷ H) v (inl i)
  | inl g ↦ absurd (elim (or_cases (is_gone v (Gone (txn t) c)) (aborted H v) (sym (aborted-cons (Gone (txn t) c) H v) ∙ g)) [ inl e ↦ ne (eqb-true t v e) | inr e ↦ both_ways _ a e ])
]

-- what the answer x to request r of session s names
pub record Names (S : Setup) (H : List Event) (s : Session) (r : Request) (x : Answered) : Type 0 where
  pub told : (c : Cause) → x.0 ≡ Aborted c → (t : ℕ) × (held H s.0 ≡ Some t) × IsGrounded S H r t c × (cause_of x.1 t ≡ Some c)
  pub others : (v : ℕ) → aborted H v ≡ false → aborted x.1 v ≡ true → held H s.0 ≢ Some v → (u : Txn) × (cause_of x.1 v ≡ Some (After u))

quiet_names : (S : Setup) (H : List Event) (s : Session) (r : Request) (x : Answered) → is_aborted x.0 ≡ false → ((v : ℕ) → aborted x.1 v ≡ aborted H v) → Names S H s r x
quiet_names S H s r x n k = record { told = λ c e. absurd (both_ways _ n (ap is_aborted e)); others = λ v a b h. absurd (both_ways _ a (sym (k v) ∙ b)) }

cond_names : (S : Setup) (H : List Event) (s : Session) (r : Request) (b : Bool) (x y : Answered) → Names S H s r x → Names S H s r y → Names S H s r (cond b x y)
cond_names S H s r true x y f g = f
cond_names S H s r false x y f g = g

begin_names : (S : Setup) (H : List Event) (s : Session) (k : Spot) (o : Stop) → Names S H s (Begin k) (begin_or_wait H s k o)
begin_names S H s k (Waits u n) = quiet_names S H s (Begin k) _ refl (λ v. refl)
begin_names S H s k Free = quiet_names S H s (Begin k) _ refl (λ v. aborted_kept (Began _ s k.kind k.instance) H v refl)
begin_names S H s k (Breaks n b) = quiet_names S H s (Begin k) _ refl (λ v. aborted_kept (Began _ s k.kind k.instance) H v refl)

new_names : (S : Setup) (H : List Event) (s : Session) (r : Request) → Names S H s r (answer_new S H s r)
unfolding answer_new
new_names S H s (Begin k) =
    let inner = begin_or_wait H s k (begin_stop S H k) in
    cond_names S H s (Begin k) (not (ltb k.kind.0 S.types)) (refuse H UnknownType) (cond (leb MOST_TXNS (begun_count H)) (refuse H Full) inner) (quiet_names S H s (Begin k) _ refl (λ v. refl))
    (cond_names S H s (Begin k) (leb MOST_TXNS (begun_count H)) (refuse H Full) inner (quiet_names S H s (Begin k) _ refl (λ v. refl)) (begin_names S H s k (begin_stop S H k)))
new_names S H s (Read x) = quiet_names S H s (Read x) _ refl (λ v. refl)
new_names S H s (Write x z) = quiet_names S H s (Write x z) _ refl (λ v. refl)
new_names S H s (Add x z) = quiet_names S H s (Add x z) _ refl (λ v. refl)
new_names S H s (Delete x) = quiet_names S H s (Delete x) _ refl (λ v. refl)
new_names S H s (Scan x n) = quiet_names S H s (Scan x n) _ refl (λ v. refl)
new_names S H s Prepare = quiet_names S H s Prepare _ refl (λ v. refl)
new_names S H s Commit = quiet_names S H s Commit _ refl (λ v. refl)
new_names S H s Abort = quiet_names S H s Abort _ refl (λ v. refl)
new_names S H s End = quiet_names S H s End _ refl (λ v. refl)

after_is : (o : Option Cause) → is_after o ≡ true → (u : Txn) × (o ≡ Some (After u))
after_is None h = absurd (cc)
after_is (Some (After u)) h = (u, refl)
after_is (Some Asked) h = absurd (cc)
after_is (Some Ended) h = absurd (cc)
after_is (Some (Late n u x)) h = absurd (cc)
after_is (Some (First n u x)) h = absurd (cc)
after_is (Some (Pivot n a b c d)) h = absurd (cc)
after_is (Some (Newer n u)) h = absurd (cc)

untold_after : (H : List Event) (t : ℕ) → untold H t ≡ true → is_after (cause_of H t) ≡ true
unfolding untold
untold_after H t h = (and_parts _ _ h).0

-- the notice gives the cause that was kept
notice_names : (S : Setup) (H : List Event) (s : Session) (r : Request) (t : ℕ) → Lawful S H → Fallen H → held H s.0 ≡ Some t → aborted H t ≡ true
    → Names S H s r (Aborted (unwrap_or (cause_of H t) Asked), WasTold (txn t) ∷ H)
unfolding cause_of
notice_names S H s r t l q h a =
    let k = elim (holds_cases H s.0 t (held_holds H s.0 t h)) as (λ z. is_after (cause_of H t) ≡ true) [ inl w ↦ absurd (not_unfinished H t a w) | inr w ↦ untold_after H t w ] in
    let f = after_is (cause_of H t) k in
    record {
      told = λ c e. let c1 : After f.0 ≡ c = sym (ap (λ (o : Option Cause). unwrap_or o Asked) f.1) ∙ ap cause_in e in
          (t, h, subst (λ (z : Cause). IsGrounded S H r t z) c1 (fell_after S H t f.0 l q f.1), f.1 ∙ ap (λ (z : Cause). Some z) c1);
      others = λ v b d n. absurd (both_ways _ b (sym (aborted_kept (WasTold (txn t)) H v refl) ∙ d));
    }

of_names : (X : Store) (tf : TreeFacts X.setup) (H : List Event) (s : Session) (r : Request) (t : ℕ) → Lawful X.setup H → held H s.0 ≡ Some t → aborted H t ≡ false
    → Names X.setup H s r (answer_of X H t r)
of_names X tf H s r t l h a =
    let k = of_tells X tf H l t (held_runs H s.0 t h a) r in
    record {
      told = λ c e. let d = k.tells c e in (t, h, d.0, ap (λ (Q : List Event). cause_of Q t) d.1 ∙ abort_cause H t c);
      others = λ v b d n. elim k.keeps [
        | inr same ↦ absurd (both_ways _ b (sym (same v) ∙ d))
        | inl w ↦ (
          txn (blamed H t v),
          ap (λ (Q : List Event). cause_of Q v) w.1 ∙ abort_others H t w.0 v b (sym (ap (λ (Q : List Event). aborted Q v) w.1) ∙ d)
              (λ e. n (h ∙ ap (λ (z : ℕ). Some z) e)),
        )
      ];
    }

to_names : (X : Store) (tf : TreeFacts X.setup) (H : List Event) (s : Session) (r : Request) (o : Option ℕ) → held H s.0 ≡ o → Lawful X.setup H → Fallen H → Names X.setup H s r (answer_to X H s r o)
to_names X tf H s r None e l q = new_names X.setup H s r
to_names X tf H s r (Some t) e l q = go (aborted H t) refl
  where
    go : (b : Bool) → aborted H t ≡ b → Names X.setup H s r (cond b (Aborted (unwrap_or (cause_of H t) Asked), WasTold (txn t) ∷ H) (answer_of X H t r))
    go true a = notice_names X.setup H s r t l q e a
    go false a = of_names X tf H s r t l e a

pub answer_names : (X : Store) (tf : TreeFacts X.setup) (H : List Event) (s : Session) (r : Request) → Lawful X.setup H → Fallen H → Names X.setup H s r (answer X H s r)
unfolding answer
answer_names X tf H s r l q = cond_names X.setup H s r (leb 1 s.0 && leb s.0 SESSIONS) (answer_to X H s r (held H s.0)) (refuse H BadSession) (to_names X tf H s r (held H s.0) refl l q)
    (quiet_names X.setup H s r _ refl (λ v. refl))
