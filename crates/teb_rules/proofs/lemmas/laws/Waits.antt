-- An Again names an unfinished transaction of a smaller number than the one that is told to wait.
use Rattle.std.proofs.Common.{count_by, ◌≡◌, ◌≢◌, ◌⊎◌, ℕ, ◌<◌, Bool, true, false, cond, not, ◌&&◌, ◌||◌, eqb, ltb, leb, List, [], ◌∷◌}
use Rattle.std.proofs.Common.{Option, Some, None, refl, sym, ◌∙◌, ap, subst, inl, inr, arith, filter, find, is_none, unwrap_or, ℤ, ◌+ℤ◌}
use Rattle.teb_rules.specs.declared.history.Event.{Event}
use Rattle.teb_rules.specs.declared.history.Event.TheVariants.{Ready, Told}
use Rattle.teb_rules.specs.declared.names.TheConstants.{MOST_TXNS, SESSIONS}
use Rattle.teb_rules.specs.declared.names.ControlKind.{ControlKind}
use Rattle.teb_rules.specs.declared.names.ControlKind.TheVariants.{Locks, Pipeline, Timestamp, Snapshot}
use Rattle.teb_rules.specs.declared.names.Request.{Request}
use Rattle.teb_rules.specs.declared.names.Request.TheVariants.{Begin, Read, Write, Add, Delete, Scan, Prepare, Commit, Abort, End}
use Rattle.teb_rules.specs.declared.names.Reply.{Reply}
use Rattle.teb_rules.specs.declared.names.Reply.TheVariants.{Again, Aborted, Value, Values, Begun, Refused}
use Rattle.teb_rules.specs.declared.names.Reply.TheVariants.{Done as IsDone, Prepared as IsReady, Committed as IsCommitted}
use Rattle.teb_rules.specs.declared.names.Refusal.TheVariants.{UnknownType, Full, BadSession, UnknownTable, NotInProfile, Range, Overflow}
use Rattle.teb_rules.specs.declared.names.Refusal.TheVariants.{Prepared as IsPrepared}
use Rattle.teb_rules.specs.declared.Broken.{Broken}
use Rattle.teb_rules.specs.declared.names.Cause.TheVariants.{Asked}
use Rattle.teb_rules.specs.declared.Broken.TheVariants.{First}
use Rattle.std.proofs.Common.{count_by, le-ltb, lt-ltb}
use Rattle.std.proofs.lemmas.Bool.{and_parts, cases_lt, or_cases}
use Rattle.teb_rules.specs.history.Phases.{held, kind_of, prepared, txns}
use Rattle.teb_rules.proofs.lemmas.laws.Nodes.{meets_parts}
use Rattle.teb_rules.specs.declared.names.Cell.{Cell}
use Rattle.teb_rules.specs.declared.names.Node.{Node}
use Rattle.teb_rules.specs.declared.names.Session.{Session}
use Rattle.teb_rules.specs.declared.names.Spot.{Spot}
use Rattle.teb_rules.specs.declared.names.Txn.{Txn}
use Rattle.teb_rules.specs.Answer.{Answered, added, answer, answer_new, answer_of, begin_or_wait, cells_from, fits, is_scan, or_refused, or_stop, put_value, refuse, scan_values}
use Rattle.teb_rules.specs.Cascade.{txn}
use Rattle.teb_rules.specs.Controls.{blocks, entry_blocks, gate, on_access, pivot_break, validate}
use Rattle.teb_rules.specs.Setup.{Store, Setup, profile}
use Rattle.teb_rules.specs.Steps.{cursor, least_step}
use Rattle.teb_rules.specs.Stops.{access_stop, commit_stop, on_begin, on_commit, or_stop_of, prepare_stop, scan_stop, stop_of, stop_with}
use Rattle.teb_rules.specs.Tree.{meets, side}
use Rattle.teb_rules.specs.declared.Verdict.{Verdict}
use Rattle.teb_rules.specs.declared.Verdict.TheVariants.{Break, Go, Wait}
use Rattle.teb_rules.specs.declared.Stop.{Stop}
use Rattle.teb_rules.specs.declared.Stop.TheVariants.{Break as Breaks, Go as Free, Wait as Waits}
use Rattle.teb_rules.specs.Verdicts.{break_for, or_else, wait_for}
use Rattle.teb_rules.specs.history.Phases.{aborted, begun_count, cause_of, unfinished}
use Rattle.teb_rules.proofs.lemmas.laws.ReadRule.{find_some}
use Rattle.teb_rules.proofs.lemmas.laws.Serial.{filter-In}
use Rattle.teb_rules.specs.Answer.{answer_to}
use Rattle.teb_rules.specs.Stops.{begin_stop}
use Rattle.teb_rules.specs.history.Accesses.{read_from, wrote}
use Rattle.teb_rules.specs.Controls.{is_first}
use Rattle.teb_rules.specs.Steps.{passed, rank_of_table}
use Rattle.teb_rules.specs.Tree.{row}
use Rattle.teb_rules.specs.Batches.{start}
use Rattle.teb_rules.specs.Tree.{has_batches, leaf, on, side_at}

-- a node by its number
abbrev pub node : ℕ → Node
node n = record { 0 = n }

-- u is unfinished and meets t at n
abbrev pub InWay : Setup → List Event → ℕ → ℕ → ℕ → Type 0
InWay S H n t u = (unfinished H u ≡ true) × (meets S H n t u ≡ true)

wait_found : (o : Option ℕ) (u : ℕ) → wait_for o ≡ Wait (txn u) → o ≡ Some u
wait_found None u h = absurd (cc)
wait_found (Some v) u h = let e : txn v ≡ txn u = cc in ap (λ (z : Txn). Some z.0) e

wait_is : (p : ℕ → Bool) (us : List ℕ) (u : ℕ) → wait_for (find p us) ≡ Wait (txn u) → p u ≡ true
wait_is p us u h = (find_some p us u (wait_found (find p us) u h)).1

or_else_wait : (v w : Verdict) (u : ℕ) → or_else v w ≡ Wait (txn u) → (v ≡ Wait (txn u)) ⊎ (w ≡ Wait (txn u))
or_else_wait Go w u h = inr h
or_else_wait (Wait v) w u h = inl h
or_else_wait (Break c) w u h = absurd (cc)

break_waits : (o : Option ℕ) (f : ℕ → Broken) (u : ℕ) → break_for o f ≡ Wait (txn u) → ⊥
break_waits None f u h = cc
break_waits (Some v) f u h = cc

blocks_way : (S : Setup) (H : List Event) (n t : ℕ) (x : Cell) (write : Bool) (u : ℕ) → blocks S H n t x write u ≡ true → InWay S H n t u
unfolding blocks
blocks_way S H n t x write u h = let p = and_parts _ _ (and_parts _ _ h).0 in (p.0, p.1)

entry_way : (S : Setup) (H : List Event) (n t : ℕ) (x : Cell) (u : ℕ) → entry_blocks S H n t x u ≡ true → InWay S H n t u
unfolding entry_blocks
entry_way S H n t x u h = let p = and_parts _ _ (and_parts _ _ (and_parts _ _ h).0).0 in let q = and_parts _ _ p.0 in (q.1, p.1)

pub access_way : (c : ControlKind) (S : Setup) (H : List Event) (n t : ℕ) (x : Cell) (write : Bool) (u : ℕ) → on_access c S H n t x write ≡ Wait (txn u) → InWay S H n t u
unfolding on_access
access_way Locks S H n t x write u h = blocks_way S H n t x write u (wait_is _ (txns H) u h)
access_way Pipeline S H n t x write u h =
    let p : ℕ → Bool = entry_blocks S H n t x in
    let q : ℕ → Bool = λ u. blocks S H n t x write u && not (passed S H n u (rank_of_table S n x.table.0)) in
    elim (or_else_wait (wait_for (find p (txns H))) (wait_for (find q (txns H))) u h) [
      | inl e ↦ entry_way S H n t x u (wait_is p (txns H) u e)
      | inr e ↦ blocks_way S H n t x write u (and_parts (blocks S H n t x write u) _ (wait_is q (txns H) u e)).0
    ]
access_way Timestamp S H n t x false u h = absurd (cc)
access_way Timestamp S H n t x true u h = absurd (break_waits _ _ u h)
access_way Snapshot S H n t x false u h = absurd (cc)
access_way Snapshot S H n t x true u h =
    let p : ℕ → Bool = λ u. unfinished H u && meets S H n t u && wrote H u x in
    let o : Option ℕ = find (is_first S H n t x) (txns H) in
    let f : ℕ → Broken = λ u. First (txn u) x in
    elim (or_else_wait (break_for o f) (wait_for (find p (txns H))) u h) [
      | inl e ↦ absurd (break_waits o f u e)
      | inr e ↦ (let a = and_parts (unfinished H u && meets S H n t u) (wrote H u x) (wait_is p (txns H) u e) in let q = and_parts (unfinished H u) (meets S H n t u) a.0 in (q.0, q.1))
    ]

pivot_waits : (o : Option ((ℕ × ℕ) × (ℕ × ℕ))) (u : ℕ) → pivot_break o ≡ Wait (txn u) → ⊥
pivot_waits None u h = cc
pivot_waits (Some q) u h = cc

validate_waits : (c : ControlKind) (S : Setup) (H : List Event) (n t u : ℕ) → validate c S H n t ≡ Wait (txn u) → ⊥
unfolding validate
validate_waits Snapshot S H n t u h = pivot_waits _ u h
validate_waits Locks S H n t u h = cc
validate_waits Pipeline S H n t u h = cc
validate_waits Timestamp S H n t u h = cc

gate_way : (c : ControlKind) (S : Setup) (H : List Event) (n t u : ℕ) → gate c S H n t u ≡ true → InWay S H n t u
unfolding gate
gate_way Pipeline S H n t u h = let p = and_parts _ _ (and_parts _ _ h).0 in (p.0, p.1)
gate_way Timestamp S H n t u h = let p = and_parts _ _ (and_parts _ _ h).0 in ((and_parts _ _ p.0).1, p.1)
gate_way Locks S H n t u h = absurd (cc)
gate_way Snapshot S H n t u h = absurd (cc)

pub commit_way : (S : Setup) (H : List Event) (t n u : ℕ) → on_commit S H t n ≡ Wait (txn u) → InWay S H n t u
unfolding on_commit
commit_way S H t n u h =
    let p : ℕ → Bool = λ u. gate (row S.tree n).control S H n t u || (unfinished H u && meets S H n t u && read_from H t u) in
    elim (or_else_wait (validate (row S.tree n).control S H n t) (wait_for (find p (txns H))) u h) [
      | inl e ↦ absurd (validate_waits (row S.tree n).control S H n t u e)
      | inr e ↦ elim (or_cases (gate (row S.tree n).control S H n t u) _ (wait_is p (txns H) u e)) [
        | inl g ↦ gate_way (row S.tree n).control S H n t u g
        | inr g ↦ (let a = and_parts (unfinished H u && meets S H n t u) (read_from H t u) g in let q = and_parts (unfinished H u) (meets S H n t u) a.0 in (q.0, q.1))
      ]
    ]

cond_wait : (b : Bool) (v : Verdict) (u : ℕ) → cond b v Go ≡ Wait (txn u) → v ≡ Wait (txn u)
cond_wait true v u h = h
cond_wait false v u h = absurd (cc)

begin_way : (S : Setup) (H : List Event) (s : Spot) (n u : ℕ) → on_begin S H s n ≡ Wait (txn u) → unfinished H u ≡ true
unfolding on_begin
begin_way S H s n u h =
    let members = filter (λ u. on S H n u && eqb (side S H n u) (side_at S.tree n s 0)) (txns H) in
    let p : ℕ → Bool = λ u. leb (row S.tree n).batch (count_by (λ v. eqb (start S H n v) (start S H n u)) members) in
    let o = find p (filter (unfinished H) members) in
    (filter-In (unfinished H) u members (find_some p (filter (unfinished H) members) u (wait_found o u (cond_wait (has_batches S.tree n && not (eqb n (leaf S.tree s))) (wait_for o) u h))).0).1

stop_at : (f : ℕ → Verdict) (ns : List ℕ) (u n : ℕ) → stop_of f ns ≡ Waits (txn u) (node n) → f n ≡ Wait (txn u)
unfolding stop_of
stop_at f [] u n h = absurd (cc)
stop_at f (m ∷ ms) u n h = go (f m) refl h (stop_at f ms u n)
  where
    go : (v : Verdict) → f m ≡ v → stop_with m v (stop_of f ms) ≡ Waits (txn u) (node n) → (stop_of f ms ≡ Waits (txn u) (node n) → f n ≡ Wait (txn u)) → f n ≡ Wait (txn u)
    go Go e h ih = ih h
    go (Wait w) e h ih = let a : w ≡ txn u = cc in let b : node m ≡ node n = cc in ap f (sym (ap (λ (z : Node). z.0) b)) ∙ e ∙ ap (λ (z : Txn). Wait z) a
    go (Break c) e h ih = absurd (cc)

-- u is unfinished and has a smaller number than t
abbrev pub IsOlder : List Event → ℕ → ℕ → Type 0
IsOlder H t u = (unfinished H u ≡ true) × (u < t)

-- u is unfinished and is not t
abbrev pub IsOther : List Event → ℕ → ℕ → Type 0
IsOther H t u = (unfinished H u ≡ true) × (t ≢ u)

other : (S : Setup) (H : List Event) (n t u : ℕ) → InWay S H n t u → IsOther H t u
other S H n t u w = (w.0, λ e. (meets_parts S H n t u w.1).2 (ap (side S H n) e))

pub access_other : (S : Setup) (H : List Event) (t : ℕ) (x : Cell) (write : Bool) (u n : ℕ) → access_stop S H t x write ≡ Waits (txn u) (node n) → IsOther H t u
unfolding access_stop
access_other S H t x write u n h = other S H n t u (access_way _ S H n t x write u (stop_at _ _ u n h))

pub commit_other : (S : Setup) (H : List Event) (t u n : ℕ) → commit_stop S H t ≡ Waits (txn u) (node n) → IsOther H t u
unfolding commit_stop
commit_other S H t u n h = other S H n t u (commit_way S H t n u (stop_at _ _ u n h))

pub prepare_other : (S : Setup) (H : List Event) (t u n : ℕ) → prepare_stop S H t ≡ Waits (txn u) (node n) → IsOther H t u
unfolding prepare_stop
prepare_other S H t u n h = absurd (validate_waits _ S H n t u (stop_at _ _ u n h))

pub scan_other : (S : Setup) (H : List Event) (t : ℕ) (xs : List Cell) (u n : ℕ) → scan_stop S H t xs ≡ Waits (txn u) (node n) → IsOther H t u
unfolding scan_stop
scan_other S H t [] u n h = absurd (cc)
scan_other S H t (x ∷ xs) u n h = go (access_stop S H t x false) refl h (scan_other S H t xs u n)
  where
    go : (s : Stop) → access_stop S H t x false ≡ s → or_stop_of s (scan_stop S H t xs) ≡ Waits (txn u) (node n) → (scan_stop S H t xs ≡ Waits (txn u) (node n) → IsOther H t u) → IsOther H t u
    go Free e h ih = ih h
    go (Waits v m) e h ih = access_other S H t x false u n (e ∙ h)
    go (Breaks m b) e h ih = absurd (cc)

-- each transaction that a reply names by an Again has P
abbrev Says : (ℕ → Type 0) → Reply → Type 0
Says P r = (u : Txn) (n : Node) → r ≡ Again u n → P u.0

abbrev SaysOlder : List Event → ℕ → Reply → Type 0
SaysOlder H t r = Says (IsOlder H t) r

cond_says : (P : ℕ → Type 0) (b : Bool) (x y : Answered) → Says P x.0 → Says P y.0 → Says P (cond b x y).0
cond_says P true x y f g = f
cond_says P false x y f g = g

abbrev is_again : Reply → Bool
is_again (Again u n) = true
is_again a = false

says_no : (P : ℕ → Type 0) (r : Reply) → is_again r ≡ false → Says P r
says_no P (Again v m) h = absurd (cc)
says_no P (Begun v) h = λ u n e. absurd (cc)
says_no P (Value v) h = λ u n e. absurd (cc)
says_no P (Values v) h = λ u n e. absurd (cc)
says_no P IsDone h = λ u n e. absurd (cc)
says_no P IsReady h = λ u n e. absurd (cc)
says_no P IsCommitted h = λ u n e. absurd (cc)
says_no P (Aborted c) h = λ u n e. absurd (cc)
says_no P (Refused c) h = λ u n e. absurd (cc)

or_stop_says : (H : List Event) (t : ℕ) (s : Stop) (granted : Answered) → ((u n : ℕ) → s ≡ Waits (txn u) (node n) → IsOther H t u) → SaysOlder H t granted.0 → SaysOlder H t (or_stop H t s granted).0
or_stop_says H t Free granted f g = g
or_stop_says H t (Waits v m) granted f g = elim (cases_lt t v.0) [
  | inl l ↦ rw (lt-ltb _ _ l) (λ u n e. absurd (cc))
  | inr l ↦ rw (le-ltb _ _ l) (λ u n e. let q : v.0 ≡ u.0 = ap who e in let o = f v.0 m.0 refl in subst (λ (z : ℕ). IsOlder H t z) q (o.0, (let ne = o.1 in omega arith)))
]
  where
    who : Reply → ℕ
    who (Again u n) = u.0
    who _ = v.0
or_stop_says H t (Breaks n b) granted f g = λ u n e. absurd (cc)

refused_says : (X : Store) (H : List Event) (t : ℕ) (x : Cell) (granted : Answered) → SaysOlder H t granted.0 → SaysOlder H t (or_refused X H t x granted).0
refused_says X H t x granted g =
    let inner = cond (is_none (least_step (profile X.setup (kind_of H t)) (cursor X.setup H t) x.table.0)) (refuse H NotInProfile) granted in
    cond_says (IsOlder H t) (not (ltb x.table.0 X.tables)) (refuse H UnknownTable) (cond (prepared H t) (refuse H IsPrepared) inner) (says_no (IsOlder H t) _ refl)
    (cond_says (IsOlder H t) (prepared H t) (refuse H IsPrepared) inner (says_no (IsOlder H t) _ refl)
    (cond_says (IsOlder H t) (is_none (least_step (profile X.setup (kind_of H t)) (cursor X.setup H t) x.table.0)) (refuse H NotInProfile) granted (says_no (IsOlder H t) _ refl) g))

put_says : (S : Setup) (H : List Event) (t : ℕ) (x : Cell) (v : Option ℤ) → SaysOlder H t (put_value S H t x v).0
put_says S H t x v = or_stop_says H t (access_stop S H t x true) _ (access_other S H t x true) (says_no (IsOlder H t) _ refl)

added_says : (S : Setup) (H : List Event) (t : ℕ) (x : Cell) (v : ℤ) (o : Option ℤ) → SaysOlder H t (added S H t x v o).0
added_says S H t x v None = says_no (IsOlder H t) _ refl
added_says S H t x v (Some b) = cond_says (IsOlder H t) (fits (b +ℤ v)) (put_value S H t x (Some (b +ℤ v))) (refuse H Overflow) (put_says S H t x (Some (b +ℤ v))) (says_no (IsOlder H t) _ refl)

of_says : (X : Store) (H : List Event) (t : ℕ) (r : Request) → SaysOlder H t (answer_of X H t r).0
unfolding answer_of
of_says X H t (Begin s) = says_no (IsOlder H t) _ refl
of_says X H t (Read x) = refused_says X H t x _ (or_stop_says H t (access_stop X.setup H t x false) _ (access_other X.setup H t x false) (says_no (IsOlder H t) _ refl))
of_says X H t (Write x v) = refused_says X H t x _ (put_says X.setup H t x (Some v))
of_says X H t (Add x v) = refused_says X H t x _ (added_says X.setup H t x v _)
of_says X H t (Delete x) = refused_says X H t x _ (put_says X.setup H t x None)
of_says X H t (Scan x n) = refused_says X H t x _ (cond_says (IsOlder H t) (is_scan x n) (scan_values X H t x n) (refuse H Range)
    (or_stop_says H t (scan_stop X.setup H t (cells_from x n)) _ (scan_other X.setup H t (cells_from x n)) (says_no (IsOlder H t) _ refl)) (says_no (IsOlder H t) _ refl))
of_says X H t Prepare = cond_says (IsOlder H t) (prepared H t) (refuse H IsPrepared) (or_stop H t (prepare_stop X.setup H t) (IsReady, Ready (txn t) ∷ H)) (says_no (IsOlder H t) _ refl)
    (or_stop_says H t (prepare_stop X.setup H t) _ (prepare_other X.setup H t) (says_no (IsOlder H t) _ refl))
of_says X H t Commit = or_stop_says H t (commit_stop X.setup H t) _ (commit_other X.setup H t) (says_no (IsOlder H t) _ refl)
of_says X H t Abort = says_no (IsOlder H t) _ refl
of_says X H t End = says_no (IsOlder H t) _ refl

-- an Again names an unfinished transaction, of a smaller number than the transaction that the session holds
pub record IsFair (H : List Event) (s u : ℕ) : Type 0 where
  pub running : unfinished H u ≡ true
  pub older : (t : ℕ) → held H s ≡ Some t → u < t

begin_says : (S : Setup) (H : List Event) (s : Session) (k : Spot) (o : Stop) → ((u n : ℕ) → o ≡ Waits (txn u) (node n) → unfinished H u ≡ true)
    → Says (λ u. unfinished H u ≡ true) (begin_or_wait H s k o).0
begin_says S H s k (Waits v m) f = λ u n e. subst (λ (z : ℕ). unfinished H z ≡ true) (ap who e) (f v.0 m.0 refl)
  where
    who : Reply → ℕ
    who (Again u n) = u.0
    who _ = 0
begin_says S H s k Free f = λ u n e. absurd (cc)
begin_says S H s k (Breaks m b) f = λ u n e. absurd (cc)

pub begin_running : (S : Setup) (H : List Event) (k : Spot) (u n : ℕ) → begin_stop S H k ≡ Waits (txn u) (node n) → unfinished H u ≡ true
unfolding begin_stop
begin_running S H k u n e = begin_way S H k n u (stop_at _ _ u n e)

new_says : (S : Setup) (H : List Event) (s : Session) (r : Request) → Says (λ u. unfinished H u ≡ true) (answer_new S H s r).0
unfolding answer_new
new_says S H s (Begin k) =
    let inner = begin_or_wait H s k (begin_stop S H k) in
    cond_says (λ u. unfinished H u ≡ true) (not (ltb k.kind.0 S.types)) (refuse H UnknownType) (cond (leb MOST_TXNS (begun_count H)) (refuse H Full) inner) (says_no _ _ refl)
    (cond_says (λ u. unfinished H u ≡ true) (leb MOST_TXNS (begun_count H)) (refuse H Full) inner (says_no _ _ refl) (begin_says S H s k (begin_stop S H k) (begin_running S H k)))
new_says S H s (Read x) = says_no _ _ refl
new_says S H s (Write x v) = says_no _ _ refl
new_says S H s (Add x v) = says_no _ _ refl
new_says S H s (Delete x) = says_no _ _ refl
new_says S H s (Scan x n) = says_no _ _ refl
new_says S H s Prepare = says_no _ _ refl
new_says S H s Commit = says_no _ _ refl
new_says S H s Abort = says_no _ _ refl
new_says S H s End = says_no _ _ refl

to_says : (X : Store) (H : List Event) (s : Session) (r : Request) (o : Option ℕ) → held H s.0 ≡ o → Says (IsFair H s.0) (answer_to X H s r o).0
to_says X H s r None e = λ u n q. record { running = new_says X.setup H s r u n q; older = λ t f. absurd (let z : None ≡ Some t = sym e ∙ f in cc) }
to_says X H s r (Some t) e = cond_says (IsFair H s.0) (aborted H t) (Aborted (unwrap_or (cause_of H t) Asked), Told (txn t) ∷ H) (answer_of X H t r) (says_no _ _ refl)
    (λ u n q. let o = of_says X H t r u n q in record { running = o.0; older = λ v f. let z : Some t ≡ Some v = sym e ∙ f in let y : t ≡ v = cc in subst (λ (b : ℕ). u.0 < b) y o.1 })

pub again_fair : (X : Store) (H : List Event) (s : Session) (r : Request) (u : Txn) (n : Node) → (answer X H s r).0 ≡ Again u n → IsFair H s.0 u.0
unfolding answer
again_fair X H s r u n e = cond_says (IsFair H s.0) (leb 1 s.0 && leb s.0 SESSIONS) (answer_to X H s r (held H s.0)) (refuse H BadSession) (to_says X H s r (held H s.0) refl) (says_no _ _ refl) u n e
