-- Every answer names nodes of the tree, and tables and types of the store.
use Rattle.std.proofs.Common.{◌≡◌, ◌⊎◌, ℕ, zero, suc, ◌<◌, ◌+◌, Bool, true, false, cond, not, ◌&&◌, ltb, leb, List, [], ◌∷◌, Option}
use Rattle.std.proofs.Common.{Some, None, is_none, unwrap_or, eqb, refl, subst, inl, inr, arith, length, find, ltb-true, ℤ, ◌+ℤ◌}
use Rattle.std.proofs.lemmas.Bool.{not-false}
use Rattle.teb_rules.specs.declared.names.TheConstants.{MOST_TXNS, SESSIONS}
use Rattle.teb_rules.specs.declared.names.Node.{Node}
use Rattle.teb_rules.specs.declared.names.Cell.{Cell}
use Rattle.teb_rules.specs.declared.names.Spot.{Spot}
use Rattle.teb_rules.specs.declared.names.Session.{Session}
use Rattle.teb_rules.specs.declared.names.ControlKind.{ControlKind}
use Rattle.teb_rules.specs.declared.names.ControlKind.TheVariants.{Locks, Pipeline, Timestamp, Snapshot}
use Rattle.teb_rules.specs.declared.names.Cause.{Cause}
use Rattle.teb_rules.specs.declared.names.Cause.TheVariants.{Newer, Asked, Ended}
use Rattle.teb_rules.specs.declared.names.Request.{Request}
use Rattle.teb_rules.specs.declared.names.Request.TheVariants.{Begin, Read, Write, Add, Delete, Scan, Prepare, Commit, Abort, End}
use Rattle.teb_rules.specs.declared.names.Refusal.{Refusal}
use Rattle.teb_rules.specs.declared.names.Refusal.TheVariants.{BadSession, UnknownType, Full, NoTxn, UnknownTable, NotInProfile, Range, NotRead, Overflow, InTxn}
use Rattle.teb_rules.specs.declared.names.Refusal.TheVariants.{Prepared as IsPrepared}
use Rattle.teb_rules.specs.declared.history.Event.{Event}
use Rattle.teb_rules.specs.declared.history.Event.TheVariants.{Began, Got, Put, Ready, Done, Gone, Told}
use Rattle.teb_rules.specs.history.Phases.{spot_of, begun_count, held, aborted, prepared, cause_of, kind_of}
use Rattle.teb_rules.specs.Setup.{Setup, Store, profile}
use Rattle.teb_rules.specs.Tree.{below, row, leaf, climb, way, path, houses}
use Rattle.teb_rules.specs.Steps.{least_step, cursor}
use Rattle.teb_rules.specs.Versions.{read}
use Rattle.teb_rules.specs.Controls.{on_access, validate, pivot_break}
use Rattle.teb_rules.specs.Stops.{on_commit, on_begin, stop_with, stop_of, nodes_of, access_stop, scan_stop, prepare_stop, commit_stop, begin_stop, or_stop_of}
use Rattle.teb_rules.specs.Cascade.{txn, cascade, fall_in_turn, abort}
use Rattle.teb_rules.specs.Answer.{Answered, refuse, broken_off, or_stop, put_value, added, fits, cells_from, is_scan, read_all, or_refused, answer_of, begin_or_wait, answer_new, answer_to, answer}
use Rattle.teb_rules.specs.Run.{history_after}
use Rattle.teb_rules.specs.Serializes.{In}
use Rattle.teb_rules.specs.Verdicts.{wait_for, break_for, or_else, cause_at}
use Rattle.teb_rules.specs.declared.Broken.{Broken}
use Rattle.teb_rules.specs.declared.Broken.TheVariants as broken
use Rattle.teb_rules.specs.declared.Verdict.{Verdict}
use Rattle.teb_rules.specs.declared.Verdict.TheVariants.{Go, Wait, Break}
use Rattle.teb_rules.specs.declared.Stop.{Stop}
use Rattle.teb_rules.specs.declared.Stop.TheVariants as stop
use Rattle.teb_rules.specs.laws.TreeFacts.{TreeFacts}
use Rattle.teb_rules.specs.laws.Within.{NodeWithin, CellWithin, CauseWithin, ReplyWithin, AllWithin, StaysWithin}
use Rattle.teb_rules.proofs.lemmas.laws.ReadRule.{find_some}
use Rattle.teb_rules.proofs.lemmas.laws.Sound.{tree_facts}
use Rattle.teb_rules.specs.laws.Laws.{OfEveryStore, reached}
use Rattle.teb_rules.proofs.lemmas.laws.TableRanks.{below-In}

found_below : (p : ℕ → Bool) (n : ℕ) → 0 < n → unwrap_or (find p (below n)) 0 < n
found_below p n h = go (find p (below n)) refl
  where
    go : (o : Option ℕ) → find p (below n) ≡ o → unwrap_or o 0 < n
    go None e = h
    go (Some m) e = below-In n m (find_some p (below n) m e).0

leaf_below : (S : Setup) → TreeFacts S → (s : Spot) → leaf S.tree s < length S.tree
unfolding leaf
leaf_below S a s = found_below (λ n. houses (row S.tree n) s) (length S.tree) a.some

climb_below : (S : Setup) → TreeFacts S → (d n : ℕ) (lower : List ℕ) → n < length S.tree → ((k : ℕ) → In k lower → k < length S.tree) → (m : ℕ) → In m (climb S.tree d n lower) → m < length S.tree
unfolding climb
climb_below S a zero n lower h f m i = elim i [ inl e ↦ omega arith | inr j ↦ f m j ]
climb_below S a (suc d) n lower h f m i = go (row S.tree n).parent refl (λ p. climb_below S a d p (n ∷ lower)) i
  where
    go : (o : Option ℕ) → (row S.tree n).parent ≡ o → ((p : ℕ) → p < length S.tree → ((k : ℕ) → In k (n ∷ lower) → k < length S.tree) → (m : ℕ) → In m (climb S.tree d p (n ∷ lower))
        → m < length S.tree) →
        In m (elim o as (λ z. List ℕ) [ None ↦ n ∷ lower | Some p ↦ climb S.tree d p (n ∷ lower) ]) → m < length S.tree
    go None e ih j = elim j [ inl q ↦ omega arith | inr k ↦ f m k ]
    go (Some p) e ih j = ih p (let z : p < n = a.parents n p e in omega arith) (λ k q. elim q [ inl r ↦ omega arith | inr r ↦ f k r ]) m j

-- each node of a path is in the tree
pub path-below : (S : Setup) → TreeFacts S → (s : Spot) (m : ℕ) → In m (path S.tree s) → m < length S.tree
unfolding path way
path-below S a s m i = climb_below S a (leaf S.tree s) (leaf S.tree s) [] (leaf_below S a s) (λ k j. absurd j) m i

-- x is one of these cells
abbrev InCells : Cell → List Cell → Type 0
InCells x [] = ⊥
InCells x (y ∷ ys) = (y ≡ x) ⊎ InCells x ys

module _ (X : Store) (a : TreeFacts X.setup) where
  abbrev BrokenWithin : Broken → Type 0
  BrokenWithin (broken.Late r x) = CellWithin X x
  BrokenWithin (broken.First w x) = CellWithin X x
  BrokenWithin (broken.Pivot b c d e) = Unit {0}

  abbrev of_verdict : Verdict → Type 0
  of_verdict (Break b) = BrokenWithin b
  of_verdict _ = Unit {0}

  record VerdictWithin (v : Verdict) : Type 0 where
    is : of_verdict v

  abbrev of_stop : Stop → Type 0
  of_stop stop.Go = Unit {0}
  of_stop (stop.Wait u n) = NodeWithin X n
  of_stop (stop.Break n b) = NodeWithin X n × BrokenWithin b

  record StopWithin (v : Stop) : Type 0 where
    is : of_stop v

  record AnswerWithin (x : Answered) : Type 0 where
    reply : ReplyWithin X x.0
    events : AllWithin X x.1

  -- verdicts
  wait_within : (o : Option ℕ) → VerdictWithin (wait_for o)
  wait_within None = record { is = tt }
  wait_within (Some u) = record { is = tt }

  break_within : (o : Option ℕ) (f : ℕ → Broken) → ((u : ℕ) → BrokenWithin (f u)) → VerdictWithin (break_for o f)
  break_within None f h = record { is = tt }
  break_within (Some u) f h = record { is = h u }

  either_within : (v w : Verdict) → VerdictWithin v → VerdictWithin w → VerdictWithin (or_else v w)
  either_within Go w h k = k
  either_within (Wait u) w h k = record { is = tt }
  either_within (Break b) w h k = h

  access_within : (c : ControlKind) (H : List Event) (n t : ℕ) (x : Cell) (write : Bool) → CellWithin X x → VerdictWithin (on_access c X.setup H n t x write)
  unfolding on_access
  access_within Locks H n t x write h = wait_within _
  access_within Pipeline H n t x write h = either_within _ _ (wait_within _) (wait_within _)
  access_within Timestamp H n t x false h = record { is = tt }
  access_within Timestamp H n t x true h = break_within _ (λ u. broken.Late (record { 0 = u }) x) (λ u. h)
  access_within Snapshot H n t x false h = record { is = tt }
  access_within Snapshot H n t x true h = either_within _ _ (break_within _ (λ u. broken.First (record { 0 = u }) x) (λ u. h)) (wait_within _)

  pivot_within : (o : Option ((ℕ × ℕ) × (ℕ × ℕ))) → VerdictWithin (pivot_break o)
  pivot_within None = record { is = tt }
  pivot_within (Some q) = record { is = tt }

  validate_within : (c : ControlKind) (H : List Event) (n t : ℕ) → VerdictWithin (validate c X.setup H n t)
  unfolding validate
  validate_within Locks H n t = record { is = tt }
  validate_within Pipeline H n t = record { is = tt }
  validate_within Timestamp H n t = record { is = tt }
  validate_within Snapshot H n t = pivot_within _

  commit_within : (H : List Event) (t n : ℕ) → VerdictWithin (on_commit X.setup H t n)
  unfolding on_commit
  commit_within H t n = either_within _ _ (validate_within (row X.setup.tree n).control H n t) (wait_within _)

  begin_within : (H : List Event) (s : Spot) (n : ℕ) → VerdictWithin (on_begin X.setup H s n)
  unfolding on_begin
  begin_within H s n = chosen _ _
    where
      chosen : (b : Bool) (o : Option ℕ) → VerdictWithin (cond b (wait_for o) Go)
      chosen true o = wait_within o
      chosen false o = record { is = tt }

  -- stops
  with_within : (n : ℕ) (v : Verdict) (rest : Stop) → n < length X.setup.tree → VerdictWithin v → StopWithin rest → StopWithin (stop_with n v rest)
  with_within n Go rest l h k = k
  with_within n (Wait u) rest l h k = record { is = l }
  with_within n (Break b) rest l h k = record { is = (l, h.is) }

  along_within : (f : ℕ → Verdict) (ns : List ℕ) → ((n : ℕ) → In n ns → n < length X.setup.tree) → ((n : ℕ) → VerdictWithin (f n)) → StopWithin (stop_of f ns)
  unfolding stop_of
  along_within f [] l h = record { is = tt }
  along_within f (n ∷ ns) l h = with_within n (f n) (stop_of f ns) (l n (inl refl)) (h n) (along_within f ns (λ m i. l m (inr i)) h)

  path_within : (H : List Event) (t n : ℕ) → In n (nodes_of X.setup H t) → n < length X.setup.tree
  path_within H t n i = path-below X.setup a (spot_of H t) n i

  access_stop_within : (H : List Event) (t : ℕ) (x : Cell) (write : Bool) → CellWithin X x → StopWithin (access_stop X.setup H t x write)
  unfolding access_stop
  access_stop_within H t x write h = along_within _ _ (path_within H t) (λ n. access_within (row X.setup.tree n).control H n t x write h)

  prepare_stop_within : (H : List Event) (t : ℕ) → StopWithin (prepare_stop X.setup H t)
  unfolding prepare_stop
  prepare_stop_within H t = along_within _ _ (path_within H t) (λ n. validate_within (row X.setup.tree n).control H n t)

  commit_stop_within : (H : List Event) (t : ℕ) → StopWithin (commit_stop X.setup H t)
  unfolding commit_stop
  commit_stop_within H t = along_within _ _ (path_within H t) (commit_within H t)

  begin_stop_within : (H : List Event) (s : Spot) → StopWithin (begin_stop X.setup H s)
  unfolding begin_stop
  begin_stop_within H s = along_within _ _ (path-below X.setup a s) (begin_within H s)

  first_within : (s u : Stop) → StopWithin s → StopWithin u → StopWithin (or_stop_of s u)
  first_within stop.Go u h k = k
  first_within (stop.Wait v n) u h k = h
  first_within (stop.Break n b) u h k = h

  scan_stop_within : (H : List Event) (t : ℕ) (xs : List Cell) → ((x : Cell) → InCells x xs → CellWithin X x) → StopWithin (scan_stop X.setup H t xs)
  unfolding scan_stop
  scan_stop_within H t [] h = record { is = tt }
  scan_stop_within H t (x ∷ xs) h = first_within _ _ (access_stop_within H t x false (h x (inl refl))) (scan_stop_within H t xs (λ y i. h y (inr i)))

  -- aborts
  fall_within : (H : List Event) (t : ℕ) (us : List ℕ) (P : List Event) → AllWithin X P → AllWithin X (fall_in_turn H t us P)
  unfolding fall_in_turn
  fall_within H t [] P h = h
  fall_within H t (u ∷ us) P h = fall_within H t us _ (tt, h)

  abort_within : (H : List Event) (t : ℕ) (c : Cause) → CauseWithin X c → AllWithin X H → AnswerWithin (broken_off H t c)
  unfolding abort
  abort_within H t c h k = record { reply = h; events = fall_within H t (cascade H t) (Gone (txn t) c ∷ H) (h, k) }

  -- answers
  refuse_within : (H : List Event) (r : Refusal) → AllWithin X H → AnswerWithin (refuse H r)
  refuse_within H r h = record { reply = tt; events = h }

  cond_within : (b : Bool) (x y : Answered) → (b ≡ true → AnswerWithin x) → (b ≡ false → AnswerWithin y) → AnswerWithin (cond b x y)
  cond_within true x y h k = h refl
  cond_within false x y h k = k refl

  broken_cause : (n : Node) (b : Broken) → NodeWithin X n → BrokenWithin b → CauseWithin X (cause_at n b)
  broken_cause n (broken.Late r x) l h = (l, h)
  broken_cause n (broken.First w x) l h = (l, h)
  broken_cause n (broken.Pivot b c d e) l h = l

  stopped_within : (H : List Event) (t : ℕ) (s : Stop) (granted : Answered) → AllWithin X H → StopWithin s → AnswerWithin granted → AnswerWithin (or_stop H t s granted)
  stopped_within H t stop.Go granted h k g = g
  stopped_within H t (stop.Wait u n) granted h k g = cond_within (ltb t u.0) _ _ (λ _. abort_within H t (Newer n u) k.is h) (λ _. record { reply = k.is; events = h })
  stopped_within H t (stop.Break n b) granted h k g = abort_within H t (cause_at n b) (broken_cause n b k.is.0 k.is.1) h

  put_within : (H : List Event) (t : ℕ) (x : Cell) (v : Option ℤ) → AllWithin X H → CellWithin X x → AnswerWithin (put_value X.setup H t x v)
  put_within H t x v h c = stopped_within H t (access_stop X.setup H t x true) _ h (access_stop_within H t x true c) (record { reply = tt; events = (c, h) })

  added_within : (H : List Event) (t : ℕ) (x : Cell) (v : ℤ) (o : Option ℤ) → AllWithin X H → CellWithin X x → AnswerWithin (added X.setup H t x v o)
  added_within H t x v None h c = refuse_within H NotRead h
  added_within H t x v (Some b) h c = cond_within (fits (b +ℤ v)) _ _ (λ _. put_within H t x (Some (b +ℤ v)) h c) (λ _. refuse_within H Overflow h)

  reads_within : (H : List Event) (t : ℕ) (xs : List Cell) → AllWithin X H → ((x : Cell) → InCells x xs → CellWithin X x) → AllWithin X (read_all X H t xs).1
  unfolding read_all
  reads_within H t [] h f = h
  reads_within H t (x ∷ xs) h f = reads_within (Got (txn t) x (txn (read X.setup X.rows H t x).0) (read X.setup X.rows H t x).1 ∷ H) t xs (f x (inl refl), h) (λ y i. f y (inr i))

  cells_within : (x : Cell) (n : ℕ) → CellWithin X x → (y : Cell) → InCells y (cells_from x n) → CellWithin X y
  unfolding cells_from
  cells_within x zero c y i = absurd i
  cells_within x (suc n) c y i = elim i [ inl e ↦ subst (CellWithin X) e c | inr j ↦ cells_within (record { table = x.table; key = x.key + 1 }) n c y j ]

  access_refused_within : (H : List Event) (t : ℕ) (x : Cell) (granted : Answered) → AllWithin X H → (CellWithin X x → AnswerWithin granted) → AnswerWithin (or_refused X H t x granted)
  access_refused_within H t x granted h g = cond_within (not (ltb x.table.0 X.tables)) _ _ (λ _. refuse_within H UnknownTable h)
      (λ e. cond_within (prepared H t) _ _ (λ _. refuse_within H IsPrepared h)
      (λ _. cond_within (is_none (least_step (profile X.setup (kind_of H t)) (cursor X.setup H t) x.table.0)) _ _ (λ _. refuse_within H NotInProfile h) (λ _. g (ltb-true _ _ (not-false _ e)))))

  of_within : (H : List Event) (t : ℕ) (r : Request) → AllWithin X H → AnswerWithin (answer_of X H t r)
  unfolding answer_of
  of_within H t (Begin s) h = refuse_within H InTxn h
  of_within H t (Read x) h = access_refused_within H t x _ h (λ c. stopped_within H t _ _ h (access_stop_within H t x false c) (record { reply = tt; events = (c, h) }))
  of_within H t (Write x v) h = access_refused_within H t x _ h (λ c. put_within H t x (Some v) h c)
  of_within H t (Add x v) h = access_refused_within H t x _ h (λ c. added_within H t x v _ h c)
  of_within H t (Delete x) h = access_refused_within H t x _ h (λ c. put_within H t x None h c)
  of_within H t (Scan x n) h = access_refused_within H t x _ h (λ c. cond_within (is_scan x n) _ _
      (λ _. stopped_within H t _ _ h (scan_stop_within H t (cells_from x n) (cells_within x n c)) (record { reply = tt; events = reads_within H t (cells_from x n) h (cells_within x n c) }))
      (λ _. refuse_within H Range h))
  of_within H t Prepare h = cond_within (prepared H t) _ _ (λ _. refuse_within H IsPrepared h) (λ _. stopped_within H t _ _ h (prepare_stop_within H t) (record { reply = tt; events = (tt, h) }))
  of_within H t Commit h = stopped_within H t _ _ h (commit_stop_within H t) (record { reply = tt; events = (tt, h) })
  of_within H t Abort h = abort_within H t Asked tt h
  of_within H t End h = abort_within H t Ended tt h

  waiting_within : (H : List Event) (s : Session) (k : Spot) (w : Stop) → AllWithin X H → k.kind.0 < X.setup.types → StopWithin w → AnswerWithin (begin_or_wait H s k w)
  waiting_within H s k stop.Go h l m = record { reply = tt; events = (l, h) }
  waiting_within H s k (stop.Wait u n) h l m = record { reply = m.is; events = h }
  waiting_within H s k (stop.Break n b) h l m = record { reply = tt; events = (l, h) }

  new_within : (H : List Event) (s : Session) (r : Request) → AllWithin X H → AnswerWithin (answer_new X.setup H s r)
  unfolding answer_new
  new_within H s (Begin k) h = cond_within (not (ltb k.kind.0 X.setup.types)) _ _ (λ _. refuse_within H UnknownType h)
      (λ e. cond_within (leb MOST_TXNS (begun_count H)) _ _ (λ _. refuse_within H Full h) (λ _. waiting_within H s k (begin_stop X.setup H k) h (ltb-true _ _ (not-false _ e)) (begin_stop_within H k)))
  new_within H s (Read x) h = refuse_within H NoTxn h
  new_within H s (Write x v) h = refuse_within H NoTxn h
  new_within H s (Add x v) h = refuse_within H NoTxn h
  new_within H s (Delete x) h = refuse_within H NoTxn h
  new_within H s (Scan x n) h = refuse_within H NoTxn h
  new_within H s Prepare h = refuse_within H NoTxn h
  new_within H s Commit h = refuse_within H NoTxn h
  new_within H s Abort h = refuse_within H NoTxn h
  new_within H s End h = refuse_within H NoTxn h

  -- the recorded cause of an abort
  cause_within : (H : List Event) (t : ℕ) → AllWithin X H → CauseWithin X (unwrap_or (cause_of H t) Asked)
  unfolding cause_of
  cause_within [] t h = tt
  cause_within (Gone u c ∷ P) t h = kept (eqb u.0 t) (cause_within P t h.1)
    where
      kept : (b : Bool) → CauseWithin X (unwrap_or (cause_of P t) Asked) → CauseWithin X (unwrap_or (cond b (Some c) (cause_of P t)) Asked)
      kept true k = h.0
      kept false k = k
  cause_within (Began u s k i ∷ P) t h = cause_within P t h.1
  cause_within (Got u x w v ∷ P) t h = cause_within P t h.1
  cause_within (Put u x v ∷ P) t h = cause_within P t h.1
  cause_within (Ready u ∷ P) t h = cause_within P t h.1
  cause_within (Done u ∷ P) t h = cause_within P t h.1
  cause_within (Told u ∷ P) t h = cause_within P t h.1

  to_within : (H : List Event) (s : Session) (r : Request) (o : Option ℕ) → AllWithin X H → AnswerWithin (answer_to X H s r o)
  to_within H s r None h = new_within H s r h
  to_within H s r (Some t) h = cond_within (aborted H t) _ _ (λ _. record { reply = cause_within H t h; events = (tt, h) }) (λ _. of_within H t r h)

  answer_within : (H : List Event) (s : Session) (r : Request) → AllWithin X H → AnswerWithin (answer X H s r)
  unfolding answer
  answer_within H s r h = cond_within (leb 1 s.0 && leb s.0 SESSIONS) _ _ (λ _. to_within H s r (held H s.0) h) (λ _. refuse_within H BadSession h)

  run_within : (asked : List (Session × Request)) (H : List Event) → AllWithin X H → AllWithin X (history_after X H asked)
  unfolding history_after
  run_within [] H h = h
  run_within (r ∷ rest) H h = run_within rest (answer X H r.0 r.1).1 (answer_within H r.0 r.1 h).events

pub stays_within : OfEveryStore StaysWithin
stays_within X s asked =
    let a = tree_facts X.setup s in
    let h = run_within X a asked [] tt in
    record { events = h; replies = λ z r. (answer_within X a (reached X asked) z r h).reply }
