-- Histories only grow, and no outcome changes.
use Rattle.std.proofs.Common.{◌≡◌, ℕ, suc, ◌<◌, Bool, true, false, cond, not, ◌&&◌, ltb, leb, List, [], ◌∷◌, ◌++◌, length, Option, Some, None, refl, sym, ap, subst, arith, is_none, unwrap_or, ℤ, ◌+ℤ◌}
use Rattle.teb_rules.specs.declared.history.Event.{Event}
use Rattle.teb_rules.specs.declared.history.Event.TheVariants.{Got, Put, Ready, Gone, Told}
use Rattle.teb_rules.specs.declared.names.TheConstants.{MOST_TXNS, SESSIONS}
use Rattle.teb_rules.specs.declared.names.Request.{Request}
use Rattle.teb_rules.specs.declared.names.Request.TheVariants.{Begin, Read, Write, Add, Delete, Scan, Prepare, Commit, Abort, End}
use Rattle.teb_rules.specs.declared.names.Reply.TheVariants.{Prepared, Aborted, Again}
use Rattle.teb_rules.specs.declared.names.Refusal.TheVariants.{UnknownType, Full, BadSession, UnknownTable, NotInProfile, Range, Overflow}
use Rattle.teb_rules.specs.declared.names.Refusal.TheVariants.{Prepared as IsPrepared}
use Rattle.teb_rules.specs.declared.names.Cause.{Cause}
use Rattle.teb_rules.specs.declared.names.Cause.TheVariants.{After, Newer, Asked, Ended}
use Rattle.std.proofs.Common.{le-ltb, lt-ltb, ltb-true}
use Rattle.std.proofs.lemmas.Bool.{both_ways, false_from_ne_true}
use Rattle.teb_rules.specs.history.Phases.{aborted, begun_count, cause_of, committed, done_at, gone_at, held, is_done, is_gone, kind_of, prepared}
use Rattle.teb_rules.specs.history.Positions.{came, first, first_event, newest}
use Rattle.teb_rules.proofs.lemmas.laws.Positions.{before, first_cases, later, now}
use Rattle.teb_rules.proofs.lemmas.laws.Timeline.{done_order}
use Rattle.teb_rules.specs.laws.Lawful.{Lawful}
use Rattle.teb_rules.specs.declared.names.Cell.{Cell}
use Rattle.teb_rules.specs.declared.names.Session.{Session}
use Rattle.teb_rules.specs.declared.names.Spot.{Spot}
use Rattle.teb_rules.specs.Verdicts.{cause_at}
use Rattle.teb_rules.specs.Answer.{Answered, added, broken_off, answer, answer_new, answer_of, answer_to, begin_or_wait}
use Rattle.teb_rules.specs.Answer.{cells_from, fits, is_scan, or_refused, or_stop, put_value, read_all, refuse, scan_values}
use Rattle.teb_rules.specs.Cascade.{abort, blamed, cascade, fall_in_turn, txn}
use Rattle.teb_rules.specs.Setup.{Store, Setup, profile}
use Rattle.teb_rules.specs.Steps.{cursor, least_step}
use Rattle.teb_rules.specs.Stops.{access_stop, begin_stop, commit_stop, prepare_stop, scan_stop}
use Rattle.teb_rules.specs.declared.Stop.{Stop}
use Rattle.teb_rules.specs.declared.Stop.TheVariants.{Break as Breaks, Go as Free, Wait as Waits}
use Rattle.teb_rules.specs.Versions.{read}

-- H2 extends H
abbrev pub GoesOn : List Event → List Event → Type 0
GoesOn H H2 = (more : List Event) × (H2 ≡ more ++ H)

on_refl : (H : List Event) → GoesOn H H
on_refl H = ([], refl)

on_cons : (e : Event) (H P : List Event) → GoesOn H P → GoesOn H (e ∷ P)
on_cons e H P g = (e ∷ g.0, ap (λ (Q : List Event). e ∷ Q) g.1)

on_one : (e : Event) (H : List Event) → GoesOn H (e ∷ H)
on_one e H = (e ∷ [], refl)

fall_on : (H G : List Event) (t : ℕ) (us : List ℕ) (P : List Event) → GoesOn G P → GoesOn G (fall_in_turn H t us P)
unfolding fall_in_turn
fall_on H G t [] P g = g
fall_on H G t (u ∷ us) P g = fall_on H G t us (Gone (txn u) (After (txn (blamed H t u))) ∷ P) (on_cons (Gone (txn u) (After (txn (blamed H t u)))) G P g)

abort_on : (H : List Event) (t : ℕ) (c : Cause) → GoesOn H (abort H t c)
unfolding abort
abort_on H t c = fall_on H H t (cascade H t) (Gone (txn t) c ∷ H) (on_one (Gone (txn t) c) H)

cond_on : (H : List Event) (b : Bool) (x y : Answered) → GoesOn H x.1 → GoesOn H y.1 → GoesOn H (cond b x y).1
cond_on H true x y f g = f
cond_on H false x y f g = g

stop_on : (H : List Event) (t : ℕ) (s : Stop) (granted : Answered) → GoesOn H granted.1 → GoesOn H (or_stop H t s granted).1
stop_on H t Free granted g = g
stop_on H t (Waits u n) granted g = cond_on H (ltb t u.0) (broken_off H t (Newer n u)) (Again u n, H) (abort_on H t (Newer n u)) (on_refl H)
stop_on H t (Breaks n b) granted g = abort_on H t (cause_at n b)

refused_on : (X : Store) (H : List Event) (t : ℕ) (x : Cell) (granted : Answered) → GoesOn H granted.1 → GoesOn H (or_refused X H t x granted).1
refused_on X H t x granted g =
    let inner = cond (is_none (least_step (profile X.setup (kind_of H t)) (cursor X.setup H t) x.table.0)) (refuse H NotInProfile) granted in
    cond_on H (not (ltb x.table.0 X.tables)) (refuse H UnknownTable) (cond (prepared H t) (refuse H IsPrepared) inner) (on_refl H)
    (cond_on H (prepared H t) (refuse H IsPrepared) inner (on_refl H)
    (cond_on H (is_none (least_step (profile X.setup (kind_of H t)) (cursor X.setup H t) x.table.0)) (refuse H NotInProfile) granted (on_refl H) g))

put_on : (S : Setup) (H : List Event) (t : ℕ) (x : Cell) (v : Option ℤ) → GoesOn H (put_value S H t x v).1
put_on S H t x v = stop_on H t (access_stop S H t x true) _ (on_one (Put (txn t) x v) H)

added_on : (S : Setup) (H : List Event) (t : ℕ) (x : Cell) (v : ℤ) (o : Option ℤ) → GoesOn H (added S H t x v o).1
added_on S H t x v None = on_refl H
added_on S H t x v (Some b) = cond_on H (fits (b +ℤ v)) (put_value S H t x (Some (b +ℤ v))) (refuse H Overflow) (put_on S H t x (Some (b +ℤ v))) (on_refl H)

reads_on : (X : Store) (G : List Event) (t : ℕ) (xs : List Cell) (H : List Event) → GoesOn G H → GoesOn G (read_all X H t xs).1
unfolding read_all
reads_on X G t [] H g = g
reads_on X G t (x ∷ xs) H g = let r = read X.setup X.rows H t x in reads_on X G t xs (Got (txn t) x (txn r.0) r.1 ∷ H) (on_cons (Got (txn t) x (txn r.0) r.1) G H g)

of_on : (X : Store) (H : List Event) (t : ℕ) (r : Request) → GoesOn H (answer_of X H t r).1
unfolding answer_of
of_on X H t (Begin s) = on_refl H
of_on X H t (Read x) = refused_on X H t x _ (stop_on H t (access_stop X.setup H t x false) _ (on_one _ H))
of_on X H t (Write x v) = refused_on X H t x _ (put_on X.setup H t x (Some v))
of_on X H t (Add x v) = refused_on X H t x _ (added_on X.setup H t x v _)
of_on X H t (Delete x) = refused_on X H t x _ (put_on X.setup H t x None)
of_on X H t (Scan x n) = refused_on X H t x _ (cond_on H (is_scan x n) (scan_values X H t x n) (refuse H Range)
    (stop_on H t (scan_stop X.setup H t (cells_from x n)) _ (reads_on X H t (cells_from x n) H (on_refl H))) (on_refl H))
of_on X H t Prepare = cond_on H (prepared H t) (refuse H IsPrepared) (or_stop H t (prepare_stop X.setup H t) (Prepared, Ready (txn t) ∷ H)) (on_refl H)
    (stop_on H t (prepare_stop X.setup H t) _ (on_one _ H))
of_on X H t Commit = stop_on H t (commit_stop X.setup H t) _ (on_one _ H)
of_on X H t Abort = abort_on H t Asked
of_on X H t End = abort_on H t Ended

begin_on : (S : Setup) (H : List Event) (s : Session) (k : Spot) (o : Stop) → GoesOn H (begin_or_wait H s k o).1
begin_on S H s k (Waits u n) = on_refl H
begin_on S H s k Free = on_one _ H
begin_on S H s k (Breaks n b) = on_one _ H

new_on : (S : Setup) (H : List Event) (s : Session) (r : Request) → GoesOn H (answer_new S H s r).1
unfolding answer_new
new_on S H s (Begin k) =
    let inner = begin_or_wait H s k (begin_stop S H k) in
    cond_on H (not (ltb k.kind.0 S.types)) (refuse H UnknownType) (cond (leb MOST_TXNS (begun_count H)) (refuse H Full) inner) (on_refl H)
    (cond_on H (leb MOST_TXNS (begun_count H)) (refuse H Full) inner (on_refl H) (begin_on S H s k (begin_stop S H k)))
new_on S H s (Read x) = on_refl H
new_on S H s (Write x v) = on_refl H
new_on S H s (Add x v) = on_refl H
new_on S H s (Delete x) = on_refl H
new_on S H s (Scan x n) = on_refl H
new_on S H s Prepare = on_refl H
new_on S H s Commit = on_refl H
new_on S H s Abort = on_refl H
new_on S H s End = on_refl H

to_on : (X : Store) (H : List Event) (s : Session) (r : Request) (o : Option ℕ) → GoesOn H (answer_to X H s r o).1
to_on X H s r None = new_on X.setup H s r
to_on X H s r (Some t) = cond_on H (aborted H t) (Aborted (unwrap_or (cause_of H t) Asked), Told (txn t) ∷ H) (answer_of X H t r) (on_one _ H) (of_on X H t r)

pub answer_on : (X : Store) (H : List Event) (s : Session) (r : Request) → GoesOn H (answer X H s r).1
unfolding answer
answer_on X H s r = cond_on H (leb 1 s.0 && leb s.0 SESSIONS) (answer_to X H s r (held H s.0)) (refuse H BadSession) (to_on X H s r (held H s.0)) (on_refl H)

-- an event that has occurred has occurred in every longer history
came_more : (q : Event → Bool) (more H : List Event) → came H (first_event q H) ≡ true → came (more ++ H) (first_event q (more ++ H)) ≡ true
unfolding first_event
came_more q [] H h = h
came_more q (e ∷ more) H h = let r = ltb-true _ _ (came_more q more H h) in elim (first_cases (newest q) e (more ++ H)) [
  | before a b ↦ lt-ltb _ _ (let z : first (newest q) (e ∷ (more ++ H)) < suc (length (more ++ H)) = omega arith in z)
  | now a b c ↦ absurd (omega arith)
  | later a b c ↦ absurd (omega arith)
]

came_on : (q : Event → Bool) (H G : List Event) → GoesOn H G → came H (first_event q H) ≡ true → came G (first_event q G) ≡ true
came_on q H G g h = subst (λ (Q : List Event). came Q (first_event q Q) ≡ true) (sym g.1) (came_more q g.0 H h)

pub committed_on : (H G : List Event) (t : ℕ) → GoesOn H G → committed H t ≡ true → committed G t ≡ true
unfolding committed done_at
committed_on H G t g h = came_on (is_done t) H G g h

pub aborted_on : (H G : List Event) (t : ℕ) → GoesOn H G → aborted H t ≡ true → aborted G t ≡ true
unfolding aborted gone_at
aborted_on H G t g h = came_on (is_gone t) H G g h

-- a committed transaction is not aborted
pub not_aborted : (S : Setup) (H : List Event) (t : ℕ) → Lawful S H → committed H t ≡ true → aborted H t ≡ false
unfolding committed aborted
not_aborted S H t l h = le-ltb _ _ (done_order S H t l (ltb-true _ _ h)).1

pub not_committed : (S : Setup) (H : List Event) (t : ℕ) → Lawful S H → aborted H t ≡ true → committed H t ≡ false
not_committed S H t l h = false_from_ne_true _ (λ c. both_ways _ (not_aborted S H t l c) h)
