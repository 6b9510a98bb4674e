-- What a reply says about commits.
use Rattle.std.proofs.Common.{inl, inr, ◌≡◌, ℕ, Bool, true, false, cond, not, ◌&&◌, leb, ltb, is_none, List, [], ◌∷◌, Option, Some, None, refl, ◌∙◌, ap, unwrap_or, ℤ, ◌+ℤ◌}
use Rattle.std.proofs.lemmas.Bool.{both_ways}
use Rattle.teb_rules.specs.declared.names.TheConstants.{MOST_TXNS, SESSIONS}
use Rattle.teb_rules.specs.declared.names.Session.{Session}
use Rattle.teb_rules.specs.declared.names.Spot.{Spot}
use Rattle.teb_rules.specs.declared.names.Cell.{Cell}
use Rattle.teb_rules.specs.declared.names.Cause.{Cause}
use Rattle.teb_rules.specs.declared.names.Cause.TheVariants.{After, Asked, Ended, Newer}
use Rattle.teb_rules.specs.declared.names.Request.{Request}
use Rattle.teb_rules.specs.declared.names.Request.TheVariants.{Begin, Read, Write, Add, Delete, Scan, Prepare, Commit, Abort, End}
use Rattle.teb_rules.specs.declared.names.Reply.TheVariants.{Committed, Aborted, Prepared, Again}
use Rattle.teb_rules.specs.declared.names.Refusal.{Refusal}
use Rattle.teb_rules.specs.declared.names.Refusal.TheVariants.{BadSession, InTxn, UnknownType, Full, UnknownTable, NotInProfile, Range, NotRead, Overflow}
use Rattle.teb_rules.specs.declared.names.Refusal.TheVariants.{Prepared as IsPrepared}
use Rattle.teb_rules.specs.declared.history.Event.{Event}
use Rattle.teb_rules.specs.declared.history.Event.TheVariants.{Got, Ready, Done, Gone, Told}
use Rattle.teb_rules.specs.history.Phases.{held, unfinished, aborted, prepared, begun_count, kind_of, cause_of}
use Rattle.teb_rules.specs.history.Accesses.{last_put, last_got}
use Rattle.teb_rules.specs.Setup.{Setup, Store, profile}
use Rattle.teb_rules.specs.Steps.{least_step, cursor}
use Rattle.teb_rules.specs.Cascade.{txn, abort, fall_in_turn, cascade, blamed}
use Rattle.teb_rules.specs.Answer.{Answered, answer, answer_to, answer_of, answer_new, refuse, broken_off, begin_or_wait, or_stop}
use Rattle.teb_rules.specs.Answer.{or_refused, put_value, added, add_base, fits, read_all, scan_values, is_scan, cells_from}
use Rattle.teb_rules.specs.Stops.{begin_stop, access_stop, scan_stop, prepare_stop, commit_stop}
use Rattle.teb_rules.specs.Verdicts.{cause_at}
use Rattle.teb_rules.specs.Versions.{read}
use Rattle.teb_rules.specs.declared.Stop.{Stop}
use Rattle.teb_rules.specs.declared.Stop.TheVariants as stop
use Rattle.teb_rules.proofs.lemmas.laws.Holding.{held_holds, holds_cases}
use Rattle.teb_rules.proofs.lemmas.laws.Reachable.{untold_gone}
use Rattle.commit_laws.specs.Records.{records_of}
use Rattle.commit_journal.specs.Kept.{committing, if_unfinished}

records_fall : (S : Setup) (H : List Event) (t : ℕ) (us : List ℕ) (P : List Event) → records_of S (fall_in_turn H t us P) ≡ records_of S P
unfolding records_of fall_in_turn
records_fall S H t [] P = refl
records_fall S H t (u ∷ us) P = records_fall S H t us (Gone (txn u) (After (txn (blamed H t u))) ∷ P)

records_abort : (S : Setup) (H : List Event) (t : ℕ) (c : Cause) → records_of S (abort H t c) ≡ records_of S H
unfolding records_of abort
records_abort S H t c = records_fall S H t (cascade H t) (Gone (txn t) c ∷ H)

-- the answer commits no transaction
abbrev pub IsQuiet : Setup → List Event → Answered → Type 0
IsQuiet S H x = (x.0 ≡ Committed → ⊥) × (records_of S x.1 ≡ records_of S H)

module _ (S : Setup) (H : List Event) where
  refused : (c : Refusal) → IsQuiet S H (refuse H c)
  refused c = ((λ q. absurd (cc)), refl)

  broken : (t : ℕ) (c : Cause) → IsQuiet S H (broken_off H t c)
  broken t c = ((λ q. absurd (cc)), records_abort S H t c)

  cond_quiet : (b : Bool) (x y : Answered) → IsQuiet S H x → IsQuiet S H y → IsQuiet S H (cond b x y)
  cond_quiet true x y p q = p
  cond_quiet false x y p q = q

  stop_quiet : (t : ℕ) (s : Stop) (granted : Answered) → IsQuiet S H granted → IsQuiet S H (or_stop H t s granted)
  stop_quiet t stop.Go granted g = g
  stop_quiet t (stop.Wait u n) granted g = cond_quiet (ltb t u.0) (broken_off H t (Newer n u)) (Again u n, H) (broken t (Newer n u)) ((λ q. absurd (cc)), refl)
  stop_quiet t (stop.Break n b) granted g = broken t (cause_at n b)

  put_quiet : (t : ℕ) (x : Cell) (v : Option ℤ) → IsQuiet S H (put_value S H t x v)
  unfolding records_of
  put_quiet t x v = stop_quiet t (access_stop S H t x true) _ ((λ q. absurd (cc)), refl)

  added_quiet : (t : ℕ) (x : Cell) (v : ℤ) (o : Option ℤ) → IsQuiet S H (added S H t x v o)
  added_quiet t x v None = refused NotRead
  added_quiet t x v (Some b) = cond_quiet (fits (b +ℤ v)) (put_value S H t x (Some (b +ℤ v))) (refuse H Overflow) (put_quiet t x (Some (b +ℤ v))) (refused Overflow)

read_records : (X : Store) (t : ℕ) (xs : List Cell) (H : List Event) → records_of X.setup (read_all X H t xs).1 ≡ records_of X.setup H
unfolding read_all records_of
read_records X t [] H = refl
read_records X t (x ∷ xs) H = let r = read X.setup X.rows H t x in read_records X t xs (Got (txn t) x (txn r.0) r.1 ∷ H)

access_quiet : (X : Store) (H : List Event) (t : ℕ) (x : Cell) (granted : Answered) → IsQuiet X.setup H granted → IsQuiet X.setup H (or_refused X H t x granted)
access_quiet X H t x granted g =
    let S = X.setup in
    let inner = cond (is_none (least_step (profile X.setup (kind_of H t)) (cursor X.setup H t) x.table.0)) (refuse H NotInProfile) granted in
    cond_quiet S H (not (ltb x.table.0 X.tables)) (refuse H UnknownTable) (cond (prepared H t) (refuse H IsPrepared) inner) (refused S H UnknownTable)
    (cond_quiet S H (prepared H t) (refuse H IsPrepared) inner (refused S H IsPrepared)
    (cond_quiet S H (is_none (least_step (profile X.setup (kind_of H t)) (cursor X.setup H t) x.table.0)) (refuse H NotInProfile) granted (refused S H NotInProfile) g))

-- a request commits the transaction that its session holds, or none
pub data Outcome (S : Setup) (H : List Event) (s : Session) (r : Request) (x : Answered) : Type 0 where
  commits : (t : ℕ) → committing H s r ≡ Some t → x ≡ (Committed, Done (txn t) ∷ H) → Outcome S H s r x
  others : IsQuiet S H x → Outcome S H s r x

commit_outcome : (S : Setup) (H : List Event) (s : Session) (t : ℕ) (o : Stop) → committing H s Commit ≡ Some t → Outcome S H s Commit (or_stop H t o (Committed, Done (txn t) ∷ H))
commit_outcome S H s t stop.Go h = commits t h refl
commit_outcome S H s t (stop.Wait u n) h = others (cond_quiet S H (ltb t u.0) (broken_off H t (Newer n u)) (Again u n, H) (broken S H t (Newer n u)) ((λ q. absurd (cc)), refl))
commit_outcome S H s t (stop.Break n b) h = others (broken S H t (cause_at n b))

of_held : (X : Store) (H : List Event) (s : Session) (t : ℕ) (r : Request) → if_unfinished H (held H s.0) ≡ Some t → Outcome X.setup H s r (answer_of X H t r)
unfolding answer_of records_of read
of_held X H s t Commit h = commit_outcome X.setup H s t (commit_stop X.setup H t) h
of_held X H s t Abort h = others (broken X.setup H t Asked)
of_held X H s t End h = others (broken X.setup H t Ended)
of_held X H s t (Begin k) h = others (refused X.setup H InTxn)
of_held X H s t (Read x) h = others (access_quiet X H t x _ (stop_quiet X.setup H t (access_stop X.setup H t x false) _ ((λ q. absurd (cc)), refl)))
of_held X H s t (Write x v) h = others (access_quiet X H t x _ (put_quiet X.setup H t x (Some v)))
of_held X H s t (Add x v) h = others (access_quiet X H t x _ (added_quiet X.setup H t x v (add_base (last_put H t x) (last_got H t x))))
of_held X H s t (Delete x) h = others (access_quiet X H t x _ (put_quiet X.setup H t x None))
of_held X H s t (Scan x n) h = others
    (access_quiet X H t x _ (cond_quiet X.setup H (is_scan x n) (scan_values X H t x n) (refuse H Range)
    (stop_quiet X.setup H t (scan_stop X.setup H t (cells_from x n)) _ ((λ q. absurd (cc)), read_records X t (cells_from x n) H)) (refused X.setup H Range)))
of_held X H s t Prepare h = others (cond_quiet X.setup H (prepared H t) (refuse H IsPrepared) (or_stop H t (prepare_stop X.setup H t) (Prepared, Ready (txn t) ∷ H)) (refused X.setup H IsPrepared)
    (stop_quiet X.setup H t (prepare_stop X.setup H t) _ ((λ q. absurd (cc)), refl)))

begin_outcome : (S : Setup) (H : List Event) (s : Session) (k : Spot) (o : Stop) → Outcome S H s (Begin k) (begin_or_wait H s k o)
unfolding records_of
begin_outcome S H s k (stop.Wait u n) = others ((λ q. absurd (cc)), refl)
begin_outcome S H s k stop.Go = others ((λ q. absurd (cc)), refl)
begin_outcome S H s k (stop.Break n b) = others ((λ q. absurd (cc)), refl)

cond_outcome : (S : Setup) (H : List Event) (s : Session) (r : Request) (b : Bool) (x y : Answered) → Outcome S H s r x → Outcome S H s r y → Outcome S H s r (cond b x y)
cond_outcome S H s r true x y p q = p
cond_outcome S H s r false x y p q = q

of_new : (S : Setup) (H : List Event) (s : Session) (r : Request) → Outcome S H s r (answer_new S H s r)
unfolding answer_new
of_new S H s (Begin k) = cond_outcome S H s (Begin k) (not (ltb k.kind.0 S.types)) (refuse H UnknownType) _ (others ((λ q. absurd (cc)), refl))
    (cond_outcome S H s (Begin k) (leb MOST_TXNS (begun_count H)) (refuse H Full) (begin_or_wait H s k (begin_stop S H k)) (others ((λ q. absurd (cc)), refl))
    (begin_outcome S H s k (begin_stop S H k)))
of_new S H s (Read x) = others ((λ q. absurd (cc)), refl)
of_new S H s (Write x v) = others ((λ q. absurd (cc)), refl)
of_new S H s (Add x v) = others ((λ q. absurd (cc)), refl)
of_new S H s (Delete x) = others ((λ q. absurd (cc)), refl)
of_new S H s (Scan x n) = others ((λ q. absurd (cc)), refl)
of_new S H s Prepare = others ((λ q. absurd (cc)), refl)
of_new S H s Commit = others ((λ q. absurd (cc)), refl)
of_new S H s Abort = others ((λ q. absurd (cc)), refl)
of_new S H s End = others ((λ q. absurd (cc)), refl)

-- a held transaction that is not aborted is unfinished
is_unfinished : (H : List Event) (s : ℕ) (t : ℕ) → held H s ≡ Some t → aborted H t ≡ false → unfinished H t ≡ true
is_unfinished H s t h f = elim (holds_cases H s t (held_holds H s t h)) [ inl u ↦ u | inr u ↦ absurd (both_ways _ f (untold_gone H t u)) ]

to_outcome : (X : Store) (H : List Event) (s : Session) (r : Request) (o : Option ℕ) → held H s.0 ≡ o → Outcome X.setup H s r (answer_to X H s r o)
to_outcome X H s r None e = of_new X.setup H s r
to_outcome X H s r (Some t) e = go (aborted H t) refl
  where
    go : (b : Bool) → aborted H t ≡ b → Outcome X.setup H s r (cond b (Aborted (unwrap_or (cause_of H t) Asked), Told (txn t) ∷ H) (answer_of X H t r))
    go true f = others ((λ q. absurd (cc)), unfold records_of in refl)
    go false f = of_held X H s t r (ap (if_unfinished H) e ∙ ap (λ (b : Bool). cond b (Some t) None) (is_unfinished H s.0 t e f))

pub outcome : (X : Store) (H : List Event) (s : Session) (r : Request) → Outcome X.setup H s r (answer X H s r)
unfolding answer
outcome X H s r = cond_outcome X.setup H s r (leb 1 s.0 && leb s.0 SESSIONS) (answer_to X H s r (held H s.0)) (refuse H BadSession) (to_outcome X H s r (held H s.0) refl)
    (others ((λ q. absurd (cc)), refl))

-- a Committed reply adds the Done of the transaction that the session asked to commit
pub committed_now : (S : Setup) (H : List Event) (s : Session) (r : Request) (x : Answered) → Outcome S H s r x → x.0 ≡ Committed → (t : ℕ) × (committing H s r ≡ Some t) × (x.1 ≡ Done (txn t) ∷ H)
committed_now S H s r x (commits t c is) q = (t, c, ap (λ (y : Answered). y.1) is)
committed_now S H s r x (others quiet) q = absurd (quiet.0 q)

-- any other reply keeps the records
pub records_same : (S : Setup) (H : List Event) (s : Session) (r : Request) (x : Answered) → Outcome S H s r x → (x.0 ≡ Committed → ⊥) → records_of S x.1 ≡ records_of S H
records_same S H s r x (commits t c is) never = absurd (never (ap (λ (y : Answered). y.0) is))
records_same S H s r x (others quiet) never = quiet.1
