-- Reads under timestamp and snapshot nodes are served.
use Rattle.std.proofs.Common.{◌≡◌, ℕ, ◌≤◌, Bool, true, false, not, cond, ◌&&◌, ◌||◌, eqb, ltb, leb, List, [], ◌∷◌, Some, is_none, refl, ◌∙◌, ap, subst, le-leb, eqb-true, eq-eqb}
use Rattle.std.proofs.lemmas.Bool.{and_from, and_parts, or_left, or_right, not-true}
use Rattle.teb_rules.specs.declared.names.TheConstants.{SESSIONS}
use Rattle.teb_rules.specs.declared.names.Cell.{Cell}
use Rattle.teb_rules.specs.declared.names.Session.{Session}
use Rattle.teb_rules.specs.declared.names.ControlKind.{ControlKind}
use Rattle.teb_rules.specs.declared.names.ControlKind.TheVariants.{Locks, Pipeline, Timestamp, Snapshot}
use Rattle.teb_rules.specs.declared.names.Request.{Request}
use Rattle.teb_rules.specs.declared.names.Request.TheVariants.{Begin, Read, Write, Add, Delete, Scan, Prepare, Commit, Abort, End}
use Rattle.teb_rules.specs.declared.names.Refusal.TheVariants.{UnknownTable, NotInProfile, Range}
use Rattle.teb_rules.specs.declared.names.Refusal.TheVariants.{Prepared as IsPrepared}
use Rattle.teb_rules.specs.declared.history.Event.{Event}
use Rattle.teb_rules.specs.history.Phases.{aborted, held, kind_of, prepared, session_of, unfinished}
use Rattle.teb_rules.specs.Setup.{Setup, Store, among, profile}
use Rattle.teb_rules.specs.Tree.{is_snapshot, is_timestamp, on, on_path, row}
use Rattle.teb_rules.specs.Steps.{cursor, least_step}
use Rattle.teb_rules.specs.declared.Verdict.{Verdict}
use Rattle.teb_rules.specs.declared.Verdict.TheVariants.{Go}
use Rattle.teb_rules.specs.declared.Stop.{Stop}
use Rattle.teb_rules.specs.declared.Stop.TheVariants.{Go as Free}
use Rattle.teb_rules.specs.Controls.{on_access}
use Rattle.teb_rules.specs.Stops.{access_stop, nodes_of, or_stop_of, scan_stop, stop_of, stop_with}
use Rattle.teb_rules.specs.Alone.{is_served}
use Rattle.teb_rules.specs.Answer.{Answered, answer, answer_of, cells_from, is_scan, or_refused, or_stop, refuse, scan_values}
use Rattle.teb_rules.specs.laws.Lawful.{Lawful}
use Rattle.teb_rules.proofs.lemmas.laws.Cascades.{unfinished_times}
use Rattle.teb_rules.proofs.lemmas.laws.Holding.{held_holds}
use Rattle.teb_rules.proofs.lemmas.laws.Sessions.{session_range}
use Rattle.guarantees.specs.Causes.{writes}
use Rattle.guarantees.specs.Reading.{ReadsFreely, is_write}

read_goes : (c : ControlKind) (S : Setup) (H : List Event) (n t : ℕ) (x : Cell) → (is_timestamp c || is_snapshot c) ≡ true → on_access c S H n t x false ≡ Go
unfolding on_access
read_goes Locks S H n t x h = absurd (cc)
read_goes Pipeline S H n t x h = absurd (cc)
read_goes Timestamp S H n t x h = refl
read_goes Snapshot S H n t x h = refl

all_go : (f : ℕ → Verdict) (ns : List ℕ) → ((n : ℕ) → among n ns ≡ true → f n ≡ Go) → stop_of f ns ≡ Free
unfolding stop_of
all_go f [] h = refl
all_go f (n ∷ ns) h = ap (λ (v : Verdict). stop_with n v (stop_of f ns)) (h n (or_left (eqb n n) (among n ns) (eq-eqb n n refl))) ∙ all_go f ns (λ m i. h m (or_right (eqb n m) (among m ns) i))

read_free : (X : Store) (H : List Event) (t : ℕ) (x : Cell) → ReadsFreely X H t → access_stop X.setup H t x false ≡ Free
unfolding access_stop on on_path
read_free X H t x f = all_go _ (nodes_of X.setup H t) (λ n i. read_goes (row X.setup.tree n).control X.setup H n t x (f n i))

scan_free : (X : Store) (H : List Event) (t : ℕ) (xs : List Cell) → ReadsFreely X H t → scan_stop X.setup H t xs ≡ Free
unfolding scan_stop
scan_free X H t [] f = refl
scan_free X H t (x ∷ xs) f = ap (λ (s : Stop). or_stop_of s (scan_stop X.setup H t xs)) (read_free X H t x f) ∙ scan_free X H t xs f

cond_served : (r : Request) (b : Bool) (x y : Answered) → is_served r x.0 ≡ true → is_served r y.0 ≡ true → is_served r (cond b x y).0 ≡ true
cond_served r true x y f g = f
cond_served r false x y f g = g

stop_served : (H : List Event) (t : ℕ) (r : Request) (s : Stop) (granted : Answered) → s ≡ Free → is_served r granted.0 ≡ true → is_served r (or_stop H t s granted).0 ≡ true
stop_served H t r s granted e g = rw e g

read_served : (X : Store) (H : List Event) (t : ℕ) (x : Cell) (granted : Answered) (r : Request) → is_served r (refuse H UnknownTable).0 ≡ true → is_served r (refuse H IsPrepared).0 ≡ true
    → is_served r (refuse H NotInProfile).0 ≡ true → is_served r granted.0 ≡ true → is_served r (or_refused X H t x granted).0 ≡ true
read_served X H t x granted r a b c g =
    let inner = cond (is_none (least_step (profile X.setup (kind_of H t)) (cursor X.setup H t) x.table.0)) (refuse H NotInProfile) granted in
    cond_served r (not (ltb x.table.0 X.tables)) (refuse H UnknownTable) (cond (prepared H t) (refuse H IsPrepared) inner) a
    (cond_served r (prepared H t) (refuse H IsPrepared) inner b
    (cond_served r (is_none (least_step (profile X.setup (kind_of H t)) (cursor X.setup H t) x.table.0)) (refuse H NotInProfile) granted c g))

-- an active transaction's session is one of 1 to SESSIONS, and its requests are answered for that transaction
asked_by : (X : Store) (H : List Event) (s : Session) (t : ℕ) (r : Request) → Lawful X.setup H → held H s.0 ≡ Some t → unfinished H t ≡ true → answer X H s r ≡ answer_of X H t r
unfolding answer unfinished
asked_by X H s t r l h u =
    let e : session_of H t ≡ s.0 = eqb-true _ _ (and_parts _ _ (held_holds H s.0 t h)).0 in
    let b = session_range X.setup H t l (unfinished_times H t u).0 in
    let valid : (leb 1 s.0 && leb s.0 SESSIONS) ≡ true = and_from _ _ (le-leb 1 s.0 (subst (λ (z : ℕ). 1 ≤ z) e b.0)) (le-leb s.0 SESSIONS (subst (λ (z : ℕ). z ≤ SESSIONS) e b.1)) in
    let a : aborted H t ≡ false = not-true _ (and_parts _ _ u).1 in
    rw (valid, h, a) refl

pub reads_served : (X : Store) (H : List Event) (s : Session) (t : ℕ) (x : Cell) → Lawful X.setup H → held H s.0 ≡ Some t → unfinished H t ≡ true → ReadsFreely X H t
    → is_served (Read x) (answer X H s (Read x)).0 ≡ true
unfolding answer_of
reads_served X H s t x l h u f = rw (asked_by X H s t (Read x) l h u)
    (read_served X H t x _ (Read x) refl refl refl (stop_served H t (Read x) (access_stop X.setup H t x false) _ (read_free X H t x f) refl))

pub scans_served : (X : Store) (H : List Event) (s : Session) (t : ℕ) (x : Cell) (n : ℕ) → Lawful X.setup H → held H s.0 ≡ Some t → unfinished H t ≡ true → ReadsFreely X H t
    → is_served (Scan x n) (answer X H s (Scan x n)).0 ≡ true
unfolding answer_of
scans_served X H s t x n l h u f = rw (asked_by X H s t (Scan x n) l h u)
    (read_served X H t x _ (Scan x n) refl refl refl (cond_served (Scan x n) (is_scan x n) (scan_values X H t x n) (refuse H Range)
    (stop_served H t (Scan x n) (scan_stop X.setup H t (cells_from x n)) _ (scan_free X H t (cells_from x n) f) refl) refl))

pub writes_is : (x : Cell) (r : Request) → writes x r ≡ true → is_write r ≡ true
writes_is x (Write y v) h = refl
writes_is x (Add y v) h = refl
writes_is x (Delete y) h = refl
writes_is x (Begin s) h = absurd (cc)
writes_is x (Read y) h = absurd (cc)
writes_is x (Scan y n) h = absurd (cc)
writes_is x Prepare h = absurd (cc)
writes_is x Commit h = absurd (cc)
writes_is x Abort h = absurd (cc)
writes_is x End h = absurd (cc)
