-- A request adds a commit to the history if and only if its reply is Committed.
use Rattle.std.proofs.Common.{◌≡◌, ◌+◌, ℕ, Bool, true, false, cond, not, ◌&&◌, ltb, leb, List, [], ◌∷◌, Option, Some, None, refl, ap, arith, unwrap_or, is_none, ℤ, ◌+ℤ◌}
use Rattle.teb_rules.specs.declared.names.TheConstants.{MOST_TXNS, SESSIONS}
use Rattle.teb_rules.specs.declared.names.Session.{Session}
use Rattle.teb_rules.specs.declared.names.Cell.{Cell}
use Rattle.teb_rules.specs.declared.names.Spot.{Spot}
use Rattle.teb_rules.specs.declared.names.Cause.{Cause}
use Rattle.teb_rules.specs.declared.names.Cause.TheVariants.{Newer, After, Asked, Ended}
use Rattle.teb_rules.specs.declared.names.Request.{Request}
use Rattle.teb_rules.specs.declared.names.Request.TheVariants.{Begin, Read, Write, Add, Delete, Scan, Prepare, Commit, Abort, End}
use Rattle.teb_rules.specs.declared.names.Refusal.{Refusal}
use Rattle.teb_rules.specs.declared.names.Refusal.TheVariants.{BadSession, InTxn, UnknownType, Full, NoTxn, UnknownTable, NotInProfile, Range, NotRead, Overflow}
use Rattle.teb_rules.specs.declared.names.Refusal.TheVariants.{Prepared as IsPrepared}
use Rattle.teb_rules.specs.declared.names.Reply.TheVariants.{Done, Prepared, Committed, Again, Aborted}
use Rattle.teb_rules.specs.declared.history.Event.{Event}
use Rattle.teb_rules.specs.declared.history.Event.TheVariants.{Got, Put, Ready, Gone, Told}
use Rattle.teb_rules.specs.declared.history.Event.TheVariants.{Done as Finished}
use Rattle.teb_rules.specs.history.Phases.{begun_count, held, aborted, prepared, cause_of, kind_of}
use Rattle.teb_rules.specs.history.Accesses.{last_put, last_got}
use Rattle.teb_rules.specs.Setup.{Setup, Store, profile}
use Rattle.teb_rules.specs.Steps.{least_step, cursor}
use Rattle.teb_rules.specs.Cascade.{txn, abort, fall_in_turn, cascade, blamed}
use Rattle.teb_rules.specs.Answer.{Answered, answer, answer_to, answer_of, answer_new, refuse, broken_off, begin_or_wait, or_stop}
use Rattle.teb_rules.specs.Answer.{or_refused, put_value, added, add_base, fits, read_all, scan_values, is_scan, cells_from}
use Rattle.teb_rules.specs.Stops.{begin_stop, access_stop, scan_stop, prepare_stop, commit_stop}
use Rattle.teb_rules.specs.Verdicts.{cause_at}
use Rattle.teb_rules.specs.Versions.{read}
use Rattle.teb_rules.specs.declared.Stop.{Stop}
use Rattle.teb_rules.specs.declared.Stop.TheVariants as stop
use Rattle.commit_laws.specs.Commits.{commit_count}
use Rattle.shared_store.specs.Commits.{commits_in}

count_fall : (H : List Event) (t : ℕ) (us : List ℕ) (P : List Event) → commit_count (fall_in_turn H t us P) ≡ commit_count P
unfolding commit_count fall_in_turn
count_fall H t [] P = refl
count_fall H t (u ∷ us) P = count_fall H t us (Gone (txn u) (After (txn (blamed H t u))) ∷ P)

count_abort : (H : List Event) (t : ℕ) (c : Cause) → commit_count (abort H t c) ≡ commit_count H
unfolding commit_count abort
count_abort H t c = count_fall H t (cascade H t) (Gone (txn t) c ∷ H)

-- an answer adds as many commits to the history as its reply says
abbrev pub IsCounted : List Event → Answered → Type 0
IsCounted H x = commit_count x.1 ≡ commit_count H + commits_in x.0

none_more : (H L : List Event) → commit_count L ≡ commit_count H → commit_count L ≡ commit_count H + 0
none_more H L e = omega arith

module _ (H : List Event) where
  refused : (c : Refusal) → IsCounted H (refuse H c)
  refused c = none_more H H refl

  broken : (t : ℕ) (c : Cause) → IsCounted H (broken_off H t c)
  broken t c = none_more H (abort H t c) (count_abort H t c)

  waits : (x : Answered) (e : x.1 ≡ H) (z : commits_in x.0 ≡ 0) → IsCounted H x
  waits x e z = let c : commit_count x.1 ≡ commit_count H = ap commit_count e in omega arith

  cond_counted : (b : Bool) (x y : Answered) → IsCounted H x → IsCounted H y → IsCounted H (cond b x y)
  cond_counted true x y p q = p
  cond_counted false x y p q = q

  stop_counted : (t : ℕ) (s : Stop) (granted : Answered) → IsCounted H granted → IsCounted H (or_stop H t s granted)
  stop_counted t stop.Go granted g = g
  stop_counted t (stop.Wait u n) granted g = cond_counted (ltb t u.0) (broken_off H t (Newer n u)) (Again u n, H) (broken t (Newer n u)) (none_more H H refl)
  stop_counted t (stop.Break n b) granted g = broken t (cause_at n b)

  put_counted : (S : Setup) (t : ℕ) (x : Cell) (v : Option ℤ) → IsCounted H (put_value S H t x v)
  unfolding commit_count
  put_counted S t x v = stop_counted t (access_stop S H t x true) (Done, Put (txn t) x v ∷ H) (none_more H H refl)

  added_counted : (S : Setup) (t : ℕ) (x : Cell) (v : ℤ) (o : Option ℤ) → IsCounted H (added S H t x v o)
  added_counted S t x v None = refused NotRead
  added_counted S t x v (Some b) = cond_counted (fits (b +ℤ v)) (put_value S H t x (Some (b +ℤ v))) (refuse H Overflow) (put_counted S t x (Some (b +ℤ v))) (refused Overflow)

read_counted : (X : Store) (t : ℕ) (xs : List Cell) (H : List Event) → commit_count (read_all X H t xs).1 ≡ commit_count H
unfolding read_all commit_count
read_counted X t [] H = refl
read_counted X t (x ∷ xs) H = let r = read X.setup X.rows H t x in read_counted X t xs (Got (txn t) x (txn r.0) r.1 ∷ H)

access_counted : (X : Store) (H : List Event) (t : ℕ) (x : Cell) (granted : Answered) → IsCounted H granted → IsCounted H (or_refused X H t x granted)
access_counted X H t x granted g =
    let inner = cond (is_none (least_step (profile X.setup (kind_of H t)) (cursor X.setup H t) x.table.0)) (refuse H NotInProfile) granted in
    cond_counted H (not (ltb x.table.0 X.tables)) (refuse H UnknownTable) (cond (prepared H t) (refuse H IsPrepared) inner) (refused H UnknownTable)
    (cond_counted H (prepared H t) (refuse H IsPrepared) inner (refused H IsPrepared)
    (cond_counted H (is_none (least_step (profile X.setup (kind_of H t)) (cursor X.setup H t) x.table.0)) (refuse H NotInProfile) granted (refused H NotInProfile) g))

one_more : (H : List Event) (t : ℕ) → commit_count (Finished (txn t) ∷ H) ≡ commit_count H + 1
unfolding commit_count
one_more H t = omega arith

of_held : (X : Store) (H : List Event) (t : ℕ) (r : Request) → IsCounted H (answer_of X H t r)
unfolding answer_of commit_count read
of_held X H t Commit = stop_counted H t (commit_stop X.setup H t) (Committed, Finished (txn t) ∷ H) (one_more H t)
of_held X H t Abort = broken H t Asked
of_held X H t End = broken H t Ended
of_held X H t (Begin k) = refused H InTxn
of_held X H t (Read x) = access_counted X H t x _ (stop_counted H t (access_stop X.setup H t x false) _ (none_more H H refl))
of_held X H t (Write x v) = access_counted X H t x _ (put_counted H X.setup t x (Some v))
of_held X H t (Add x v) = access_counted X H t x _ (added_counted H X.setup t x v (add_base (last_put H t x) (last_got H t x)))
of_held X H t (Delete x) = access_counted X H t x _ (put_counted H X.setup t x None)
of_held X H t (Scan x n) = access_counted X H t x _
    (cond_counted H (is_scan x n) (scan_values X H t x n) (refuse H Range)
    (stop_counted H t (scan_stop X.setup H t (cells_from x n)) _ (none_more H (read_all X H t (cells_from x n)).1 (read_counted X t (cells_from x n) H))) (refused H Range))
of_held X H t Prepare = cond_counted H (prepared H t) (refuse H IsPrepared) (or_stop H t (prepare_stop X.setup H t) (Prepared, Ready (txn t) ∷ H)) (refused H IsPrepared)
    (stop_counted H t (prepare_stop X.setup H t) _ (none_more H H refl))

begin_counted : (H : List Event) (s : Session) (k : Spot) (o : Stop) → IsCounted H (begin_or_wait H s k o)
unfolding commit_count
begin_counted H s k (stop.Wait u n) = none_more H H refl
begin_counted H s k stop.Go = none_more H H refl
begin_counted H s k (stop.Break n b) = none_more H H refl

of_new : (S : Setup) (H : List Event) (s : Session) (r : Request) → IsCounted H (answer_new S H s r)
unfolding answer_new
of_new S H s (Begin k) = cond_counted H (not (ltb k.kind.0 S.types)) (refuse H UnknownType) _ (refused H UnknownType)
    (cond_counted H (leb MOST_TXNS (begun_count H)) (refuse H Full) (begin_or_wait H s k (begin_stop S H k)) (refused H Full) (begin_counted H s k (begin_stop S H k)))
of_new S H s (Read x) = refused H NoTxn
of_new S H s (Write x v) = refused H NoTxn
of_new S H s (Add x v) = refused H NoTxn
of_new S H s (Delete x) = refused H NoTxn
of_new S H s (Scan x n) = refused H NoTxn
of_new S H s Prepare = refused H NoTxn
of_new S H s Commit = refused H NoTxn
of_new S H s Abort = refused H NoTxn
of_new S H s End = refused H NoTxn

told : (H : List Event) (t : ℕ) (c : Cause) → IsCounted H (Aborted c, Told (txn t) ∷ H)
unfolding commit_count
told H t c = none_more H H refl

to_counted : (X : Store) (H : List Event) (s : Session) (r : Request) (o : Option ℕ) → IsCounted H (answer_to X H s r o)
to_counted X H s r None = of_new X.setup H s r
to_counted X H s r (Some t) = cond_counted H (aborted H t) (Aborted (unwrap_or (cause_of H t) Asked), Told (txn t) ∷ H) (answer_of X H t r) (told H t (unwrap_or (cause_of H t) Asked))
    (of_held X H t r)

pub answer_counted : (X : Store) (H : List Event) (s : Session) (r : Request) → IsCounted H (answer X H s r)
unfolding answer
answer_counted X H s r = cond_counted H (leb 1 s.0 && leb s.0 SESSIONS) (answer_to X H s r (held H s.0)) (refuse H BadSession) (to_counted X H s r (held H s.0)) (refused H BadSession)
