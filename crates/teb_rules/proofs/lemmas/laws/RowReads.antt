-- A read from the starting rows gives the value of the starting row.
use Rattle.std.proofs.Common.{◌≡◌, ℕ, suc, Bool, true, false, cond, not, ◌&&◌, ltb, leb, List, [], ◌∷◌, Option, Some, None, refl, arith, is_none, unwrap_or, ℤ, ◌+ℤ◌}
use Rattle.teb_rules.specs.declared.history.Event.{Event}
use Rattle.teb_rules.specs.declared.history.Event.TheVariants.{Got, Ready, Gone, Told}
use Rattle.teb_rules.specs.declared.names.TheConstants.{MOST_TXNS, SESSIONS}
use Rattle.teb_rules.specs.declared.names.Request.{Request}
use Rattle.teb_rules.specs.declared.names.Request.TheVariants.{Begin, Read, Write, Add, Delete, Scan, Prepare, Commit, Abort, End}
use Rattle.teb_rules.specs.declared.names.Reply.TheVariants.{Prepared, Aborted, Again}
use Rattle.teb_rules.specs.declared.names.Refusal.TheVariants.{UnknownType, Full, BadSession, UnknownTable, NotInProfile, Range, Overflow}
use Rattle.teb_rules.specs.declared.names.Refusal.TheVariants.{Prepared as IsPrepared}
use Rattle.teb_rules.specs.declared.names.Cause.{Cause}
use Rattle.teb_rules.specs.declared.names.Cause.TheVariants.{After, Newer, Asked, Ended}
use Rattle.teb_rules.specs.history.Phases.{aborted, begun_count, cause_of, held, kind_of, prepared}
use Rattle.teb_rules.specs.declared.names.Cell.{Cell}
use Rattle.teb_rules.specs.declared.names.Session.{Session}
use Rattle.teb_rules.specs.declared.names.Spot.{Spot}
use Rattle.teb_rules.specs.Verdicts.{cause_at}
use Rattle.teb_rules.specs.Answer.{Answered, added, broken_off, answer, answer_new, answer_of, answer_to, begin_or_wait}
use Rattle.teb_rules.specs.Answer.{cells_from, fits, is_scan, or_refused, or_stop, put_value, read_all, refuse, scan_values}
use Rattle.teb_rules.specs.Cascade.{abort, blamed, cascade, fall_in_turn, txn}
use Rattle.teb_rules.specs.Setup.{Store, Setup, profile}
use Rattle.teb_rules.specs.Steps.{cursor, least_step}
use Rattle.teb_rules.specs.Stops.{access_stop, begin_stop, commit_stop, prepare_stop, scan_stop}
use Rattle.teb_rules.specs.declared.Stop.{Stop}
use Rattle.teb_rules.specs.declared.Stop.TheVariants.{Break as Breaks, Go as Free, Wait as Waits}
use Rattle.teb_rules.specs.Versions.{read}
use Rattle.std.proofs.Common.{zero}
use Rattle.teb_rules.specs.Answer.{got_value}
use Rattle.teb_rules.specs.laws.Lawful.{ReadsRows}
use Rattle.teb_rules.specs.names.Rows.{row_of}
use Rattle.teb_rules.specs.Versions.{source, version}
use Rattle.teb_rules.specs.Run.{history_after}

-- the version of transaction 0 is the starting row
of_row : (R : List (Cell × ℤ)) (H : List Event) (x : Cell) (w : ℕ) → w ≡ 0 → version R H x w ≡ row_of R x
of_row R H x zero e = refl
of_row R H x (suc w) e = absurd (omega arith)

fall_rows : (R : List (Cell × ℤ)) (H : List Event) (t : ℕ) (us : List ℕ) (P : List Event) → ReadsRows R P → ReadsRows R (fall_in_turn H t us P)
unfolding fall_in_turn ReadsRows
fall_rows R H t [] P g = g
fall_rows R H t (u ∷ us) P g = fall_rows R H t us (Gone (txn u) (After (txn (blamed H t u))) ∷ P) g

abort_rows : (R : List (Cell × ℤ)) (H : List Event) (t : ℕ) (c : Cause) → ReadsRows R H → ReadsRows R (abort H t c)
unfolding abort ReadsRows
abort_rows R H t c g = fall_rows R H t (cascade H t) (Gone (txn t) c ∷ H) g

cond_rows : (R : List (Cell × ℤ)) (b : Bool) (x y : Answered) → ReadsRows R x.1 → ReadsRows R y.1 → ReadsRows R (cond b x y).1
cond_rows R true x y f g = f
cond_rows R false x y f g = g

stop_rows : (R : List (Cell × ℤ)) (H : List Event) (t : ℕ) (s : Stop) (granted : Answered) → ReadsRows R H → ReadsRows R granted.1 → ReadsRows R (or_stop H t s granted).1
stop_rows R H t Free granted g k = k
stop_rows R H t (Waits u n) granted g k = cond_rows R (ltb t u.0) (broken_off H t (Newer n u)) (Again u n, H) (abort_rows R H t (Newer n u) g) g
stop_rows R H t (Breaks n b) granted g k = abort_rows R H t (cause_at n b) g

refused_rows : (X : Store) (H : List Event) (t : ℕ) (x : Cell) (granted : Answered) → ReadsRows X.rows H → ReadsRows X.rows granted.1 → ReadsRows X.rows (or_refused X H t x granted).1
refused_rows X H t x granted k g =
    let inner = cond (is_none (least_step (profile X.setup (kind_of H t)) (cursor X.setup H t) x.table.0)) (refuse H NotInProfile) granted in
    cond_rows X.rows (not (ltb x.table.0 X.tables)) (refuse H UnknownTable) (cond (prepared H t) (refuse H IsPrepared) inner) k
    (cond_rows X.rows (prepared H t) (refuse H IsPrepared) inner k
    (cond_rows X.rows (is_none (least_step (profile X.setup (kind_of H t)) (cursor X.setup H t) x.table.0)) (refuse H NotInProfile) granted k g))

put_rows : (R : List (Cell × ℤ)) (S : Setup) (H : List Event) (t : ℕ) (x : Cell) (v : Option ℤ) → ReadsRows R H → ReadsRows R (put_value S H t x v).1
unfolding ReadsRows
put_rows R S H t x v g = stop_rows R H t (access_stop S H t x true) _ g g

added_rows : (R : List (Cell × ℤ)) (S : Setup) (H : List Event) (t : ℕ) (x : Cell) (v : ℤ) (o : Option ℤ) → ReadsRows R H → ReadsRows R (added S H t x v o).1
added_rows R S H t x v None g = g
added_rows R S H t x v (Some b) g = cond_rows R (fits (b +ℤ v)) (put_value S H t x (Some (b +ℤ v))) (refuse H Overflow) (put_rows R S H t x (Some (b +ℤ v)) g) g

got_rows : (X : Store) (H : List Event) (t : ℕ) (x : Cell) → ReadsRows X.rows H → ReadsRows X.rows (got_value H t x (read X.setup X.rows H t x)).1
unfolding read ReadsRows
got_rows X H t x g = (of_row X.rows H x (source X.setup H t x), g)

reads_rows : (X : Store) (t : ℕ) (xs : List Cell) (H : List Event) → ReadsRows X.rows H → ReadsRows X.rows (read_all X H t xs).1
unfolding read_all
reads_rows X t [] H g = g
reads_rows X t (x ∷ xs) H g = let r = read X.setup X.rows H t x in reads_rows X t xs (Got (txn t) x (txn r.0) r.1 ∷ H) (got_rows X H t x g)

of_rows : (X : Store) (H : List Event) (t : ℕ) (r : Request) → ReadsRows X.rows H → ReadsRows X.rows (answer_of X H t r).1
unfolding answer_of ReadsRows
of_rows X H t (Begin s) g = g
of_rows X H t (Read x) g = refused_rows X H t x _ g (stop_rows X.rows H t (access_stop X.setup H t x false) _ g (got_rows X H t x g))
of_rows X H t (Write x v) g = refused_rows X H t x _ g (put_rows X.rows X.setup H t x (Some v) g)
of_rows X H t (Add x v) g = refused_rows X H t x _ g (added_rows X.rows X.setup H t x v _ g)
of_rows X H t (Delete x) g = refused_rows X H t x _ g (put_rows X.rows X.setup H t x None g)
of_rows X H t (Scan x n) g = refused_rows X H t x _ g (cond_rows X.rows (is_scan x n) (scan_values X H t x n) (refuse H Range)
    (stop_rows X.rows H t (scan_stop X.setup H t (cells_from x n)) _ g (reads_rows X t (cells_from x n) H g)) g)
of_rows X H t Prepare g = cond_rows X.rows (prepared H t) (refuse H IsPrepared) (or_stop H t (prepare_stop X.setup H t) (Prepared, Ready (txn t) ∷ H)) g
    (stop_rows X.rows H t (prepare_stop X.setup H t) _ g g)
of_rows X H t Commit g = stop_rows X.rows H t (commit_stop X.setup H t) _ g g
of_rows X H t Abort g = abort_rows X.rows H t Asked g
of_rows X H t End g = abort_rows X.rows H t Ended g

begin_rows : (R : List (Cell × ℤ)) (H : List Event) (s : Session) (k : Spot) (o : Stop) → ReadsRows R H → ReadsRows R (begin_or_wait H s k o).1
unfolding ReadsRows
begin_rows R H s k (Waits u n) g = g
begin_rows R H s k Free g = g
begin_rows R H s k (Breaks n b) g = g

new_rows : (R : List (Cell × ℤ)) (S : Setup) (H : List Event) (s : Session) (r : Request) → ReadsRows R H → ReadsRows R (answer_new S H s r).1
unfolding answer_new
new_rows R S H s (Begin k) g =
    let inner = begin_or_wait H s k (begin_stop S H k) in
    cond_rows R (not (ltb k.kind.0 S.types)) (refuse H UnknownType) (cond (leb MOST_TXNS (begun_count H)) (refuse H Full) inner) g
    (cond_rows R (leb MOST_TXNS (begun_count H)) (refuse H Full) inner g (begin_rows R H s k (begin_stop S H k) g))
new_rows R S H s (Read x) g = g
new_rows R S H s (Write x v) g = g
new_rows R S H s (Add x v) g = g
new_rows R S H s (Delete x) g = g
new_rows R S H s (Scan x n) g = g
new_rows R S H s Prepare g = g
new_rows R S H s Commit g = g
new_rows R S H s Abort g = g
new_rows R S H s End g = g

to_rows : (X : Store) (H : List Event) (s : Session) (r : Request) (o : Option ℕ) → ReadsRows X.rows H → ReadsRows X.rows (answer_to X H s r o).1
unfolding ReadsRows
to_rows X H s r None g = new_rows X.rows X.setup H s r g
to_rows X H s r (Some t) g = cond_rows X.rows (aborted H t) (Aborted (unwrap_or (cause_of H t) Asked), Told (txn t) ∷ H) (answer_of X H t r) g (of_rows X H t r g)

pub answer_rows : (X : Store) (H : List Event) (s : Session) (r : Request) → ReadsRows X.rows H → ReadsRows X.rows (answer X H s r).1
unfolding answer
answer_rows X H s r g = cond_rows X.rows (leb 1 s.0 && leb s.0 SESSIONS) (answer_to X H s r (held H s.0)) (refuse H BadSession) (to_rows X H s r (held H s.0) g) g

pub run_rows : (X : Store) (asked : List (Session × Request)) (H : List Event) → ReadsRows X.rows H → ReadsRows X.rows (history_after X H asked)
unfolding history_after
run_rows X [] H g = g
run_rows X (a ∷ rest) H g = run_rows X rest (answer X H a.0 a.1).1 (answer_rows X H a.0 a.1 g)
