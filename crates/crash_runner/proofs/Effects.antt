-- An answer adds at most one commit or put to a history, and the answer to an End adds none.
use Rattle.std.proofs.Common.{◌≡◌, ◌≤◌, ◌+◌, ℕ, Bool, true, false, cond, not, ◌&&◌, leb, ltb, is_none, List, [], ◌∷◌, Option, Some, None, refl, ap, arith, unwrap_or, ℤ, ◌+ℤ◌}
use Rattle.teb_rules.specs.declared.names.TheConstants.{MOST_TXNS, SESSIONS}
use Rattle.teb_rules.specs.declared.names.Session.{Session}
use Rattle.teb_rules.specs.declared.names.Spot.{Spot}
use Rattle.teb_rules.specs.declared.names.Cell.{Cell}
use Rattle.teb_rules.specs.declared.names.Cause.{Cause}
use Rattle.teb_rules.specs.declared.names.Cause.TheVariants.{After, Asked, Ended, Newer}
use Rattle.teb_rules.specs.declared.names.Request.{Request}
use Rattle.teb_rules.specs.declared.names.Request.TheVariants.{Begin, Read, Write, Add, Delete, Scan, Prepare, Commit, Abort, End}
use Rattle.teb_rules.specs.declared.names.Reply.TheVariants.{Committed, Aborted, Prepared, Again, Done}
use Rattle.teb_rules.specs.declared.names.Refusal.{Refusal}
use Rattle.teb_rules.specs.declared.names.Refusal.TheVariants.{BadSession, InTxn, UnknownType, Full, NoTxn, UnknownTable, NotInProfile, Range, NotRead, Overflow}
use Rattle.teb_rules.specs.declared.names.Refusal.TheVariants.{Prepared as IsPrepared}
use Rattle.teb_rules.specs.declared.history.Event.{Event}
use Rattle.teb_rules.specs.declared.history.Event.TheVariants.{Got, Put, Ready, Gone, Told}
use Rattle.teb_rules.specs.declared.history.Event.TheVariants.{Done as Finished}
use Rattle.teb_rules.specs.history.Phases.{held, aborted, prepared, begun_count, kind_of, cause_of}
use Rattle.teb_rules.specs.history.Accesses.{last_put, last_got}
use Rattle.teb_rules.specs.Setup.{Setup, Store, profile}
use Rattle.teb_rules.specs.Steps.{least_step, cursor}
use Rattle.teb_rules.specs.Cascade.{txn, abort, fall_in_turn, cascade, blamed}
use Rattle.teb_rules.specs.Answer.{Answered, answer, answer_to, answer_of, answer_new, refuse, broken_off, begin_or_wait, or_stop, or_refused}
use Rattle.teb_rules.specs.Answer.{put_value, got_value, added, add_base, fits, read_all, got_values, scan_values, is_scan, cells_from}
use Rattle.teb_rules.specs.Stops.{begin_stop, access_stop, scan_stop, prepare_stop, commit_stop}
use Rattle.teb_rules.specs.Verdicts.{cause_at}
use Rattle.teb_rules.specs.Versions.{read}
use Rattle.teb_rules.specs.declared.Stop.{Stop}
use Rattle.teb_rules.specs.declared.Stop.TheVariants as stop
use Rattle.commit_laws.specs.Commits.{commit_count, put_count}
use Rattle.crash_runner.specs.Underway.{effects, weight}

effects_fall : (H : List Event) (t : ℕ) (us : List ℕ) (P : List Event) → effects (fall_in_turn H t us P) ≡ effects P
unfolding commit_count put_count fall_in_turn
effects_fall H t [] P = refl
effects_fall H t (u ∷ us) P = effects_fall H t us (Gone (txn u) (After (txn (blamed H t u))) ∷ P)

effects_abort : (H : List Event) (t : ℕ) (c : Cause) → effects (abort H t c) ≡ effects H
unfolding commit_count put_count abort
effects_abort H t c = effects_fall H t (cascade H t) (Gone (txn t) c ∷ H)

effects_read : (X : Store) (t : ℕ) (xs : List Cell) (H : List Event) → effects (read_all X H t xs).1 ≡ effects H
unfolding commit_count put_count read_all
effects_read X t [] H = refl
effects_read X t (x ∷ xs) H = let r = read X.setup X.rows H t x in effects_read X t xs (Got (txn t) x (txn r.0) r.1 ∷ H)

-- the answer adds at most n commits and puts
abbrev AddsUpTo : ℕ → List Event → Answered → Type 0
AddsUpTo n H x = effects x.1 ≤ n + effects H

module _ (n : ℕ) (H : List Event) where
  nothing : (x : Answered) → x.1 ≡ H → AddsUpTo n H x
  nothing x same = omega (arith, ap effects same)

  refused : (c : Refusal) → AddsUpTo n H (refuse H c)
  refused c = nothing (refuse H c) refl

  broken : (t : ℕ) (c : Cause) → AddsUpTo n H (broken_off H t c)
  broken t c = omega (arith, effects_abort H t c)

  either : (b : Bool) (x y : Answered) → AddsUpTo n H x → AddsUpTo n H y → AddsUpTo n H (cond b x y)
  either true x y p q = p
  either false x y p q = q

  stopped : (t : ℕ) (s : Stop) (granted : Answered) → AddsUpTo n H granted → AddsUpTo n H (or_stop H t s granted)
  stopped t stop.Go granted g = g
  stopped t (stop.Wait u k) granted g = either (ltb t u.0) (broken_off H t (Newer k u)) (Again u k, H) (broken t (Newer k u)) (nothing (Again u k, H) refl)
  stopped t (stop.Break k b) granted g = broken t (cause_at k b)

  accessed : (X : Store) (t : ℕ) (x : Cell) (granted : Answered) → AddsUpTo n H granted → AddsUpTo n H (or_refused X H t x granted)
  accessed X t x granted g =
      let inner = cond (is_none (least_step (profile X.setup (kind_of H t)) (cursor X.setup H t) x.table.0)) (refuse H NotInProfile) granted in
      either (not (ltb x.table.0 X.tables)) (refuse H UnknownTable) (cond (prepared H t) (refuse H IsPrepared) inner) (refused UnknownTable)
      (either (prepared H t) (refuse H IsPrepared) inner (refused IsPrepared)
      (either (is_none (least_step (profile X.setup (kind_of H t)) (cursor X.setup H t) x.table.0)) (refuse H NotInProfile) granted (refused NotInProfile) g))

one_put : (H : List Event) (t : ℕ) (x : Cell) (v : Option ℤ) → AddsUpTo 1 H (Done, Put (txn t) x v ∷ H)
unfolding commit_count put_count
one_put H t x v = omega arith

put_adds : (S : Setup) (H : List Event) (t : ℕ) (x : Cell) (v : Option ℤ) → AddsUpTo 1 H (put_value S H t x v)
put_adds S H t x v = stopped 1 H t (access_stop S H t x true) (Done, Put (txn t) x v ∷ H) (one_put H t x v)

added_adds : (S : Setup) (H : List Event) (t : ℕ) (x : Cell) (v : ℤ) (o : Option ℤ) → AddsUpTo 1 H (added S H t x v o)
added_adds S H t x v None = refused 1 H NotRead
added_adds S H t x v (Some b) = either 1 H (fits (b +ℤ v)) (put_value S H t x (Some (b +ℤ v))) (refuse H Overflow) (put_adds S H t x (Some (b +ℤ v))) (refused 1 H Overflow)

of_held : (X : Store) (H : List Event) (t : ℕ) (r : Request) → AddsUpTo (weight r) H (answer_of X H t r)
unfolding answer_of commit_count put_count
of_held X H t Commit = stopped 1 H t (commit_stop X.setup H t) (Committed, Finished (txn t) ∷ H) (omega arith)
of_held X H t Abort = broken 1 H t Asked
of_held X H t End = broken 0 H t Ended
of_held X H t (Begin k) = refused 1 H InTxn
of_held X H t (Read x) = accessed 1 H X t x _ (stopped 1 H t (access_stop X.setup H t x false) (got_value H t x (read X.setup X.rows H t x)) (omega arith))
of_held X H t (Write x v) = accessed 1 H X t x _ (put_adds X.setup H t x (Some v))
of_held X H t (Add x v) = accessed 1 H X t x _ (added_adds X.setup H t x v (add_base (last_put H t x) (last_got H t x)))
of_held X H t (Delete x) = accessed 1 H X t x _ (put_adds X.setup H t x None)
of_held X H t (Scan x n) = accessed 1 H X t x _
    (either 1 H (is_scan x n) (scan_values X H t x n) (refuse H Range)
    (stopped 1 H t (scan_stop X.setup H t (cells_from x n)) (got_values (read_all X H t (cells_from x n))) (omega (arith, effects_read X t (cells_from x n) H))) (refused 1 H Range))
of_held X H t Prepare = either 1 H (prepared H t) (refuse H IsPrepared) (or_stop H t (prepare_stop X.setup H t) (Prepared, Ready (txn t) ∷ H)) (refused 1 H IsPrepared)
    (stopped 1 H t (prepare_stop X.setup H t) (Prepared, Ready (txn t) ∷ H) (omega arith))

begin_adds : (H : List Event) (s : Session) (k : Spot) (o : Stop) → AddsUpTo 1 H (begin_or_wait H s k o)
unfolding commit_count put_count
begin_adds H s k (stop.Wait u n) = omega arith
begin_adds H s k stop.Go = omega arith
begin_adds H s k (stop.Break n b) = omega arith

of_new : (S : Setup) (H : List Event) (s : Session) (r : Request) → AddsUpTo (weight r) H (answer_new S H s r)
unfolding answer_new
of_new S H s (Begin k) = either 1 H (not (ltb k.kind.0 S.types)) (refuse H UnknownType) _ (refused 1 H UnknownType)
    (either 1 H (leb MOST_TXNS (begun_count H)) (refuse H Full) (begin_or_wait H s k (begin_stop S H k)) (refused 1 H Full) (begin_adds H s k (begin_stop S H k)))
of_new S H s (Read x) = refused 1 H NoTxn
of_new S H s (Write x v) = refused 1 H NoTxn
of_new S H s (Add x v) = refused 1 H NoTxn
of_new S H s (Delete x) = refused 1 H NoTxn
of_new S H s (Scan x n) = refused 1 H NoTxn
of_new S H s Prepare = refused 1 H NoTxn
of_new S H s Commit = refused 1 H NoTxn
of_new S H s Abort = refused 1 H NoTxn
of_new S H s End = refused 0 H NoTxn

to_any : (X : Store) (H : List Event) (s : Session) (r : Request) (o : Option ℕ) → AddsUpTo (weight r) H (answer_to X H s r o)
unfolding commit_count put_count
to_any X H s r None = of_new X.setup H s r
to_any X H s r (Some t) = either (weight r) H (aborted H t) (Aborted (unwrap_or (cause_of H t) Asked), Told (txn t) ∷ H) (answer_of X H t r) (omega arith) (of_held X H t r)

pub adds_few : (X : Store) (H : List Event) (s : Session) (r : Request) → effects (answer X H s r).1 ≤ weight r + effects H
unfolding answer
adds_few X H s r = either (weight r) H (leb 1 s.0 && leb s.0 SESSIONS) (answer_to X H s r (held H s.0)) (refuse H BadSession) (to_any X H s r (held H s.0)) (refused (weight r) H BadSession)
