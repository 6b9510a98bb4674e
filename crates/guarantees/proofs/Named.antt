-- The transactions and grounds that the stops of a request name.
use Rattle.std.proofs.Common.{◌≡◌, ◌≢◌, ◌⊎◌, ℕ, Bool, true, false, not, ◌&&◌, ◌||◌, eqb, List, [], ◌∷◌, find, Option, Some, None, refl, ◌∙◌, ap, subst, inl, inr, ltb-true, ltb-false, eqb-true, eq-eqb}
use Rattle.std.proofs.lemmas.Bool.{and_from, and_parts, or_cases, or_left, or_right, cases_eq, not-true}
use Rattle.std.specs.List.{list_any}
use Rattle.teb_rules.proofs.lemmas.names.SameCells.{same_itself}
use Rattle.teb_rules.specs.declared.names.Cell.{Cell}
use Rattle.teb_rules.specs.names.Cells.{same_cell}
use Rattle.teb_rules.specs.declared.names.Node.{Node}
use Rattle.teb_rules.specs.declared.names.Txn.{Txn}
use Rattle.teb_rules.specs.declared.names.ControlKind.{ControlKind}
use Rattle.teb_rules.specs.declared.names.ControlKind.TheVariants.{Locks, Pipeline, Timestamp, Snapshot}
use Rattle.teb_rules.specs.declared.names.Request.{Request}
use Rattle.teb_rules.specs.declared.names.Request.TheVariants.{Prepare, Commit}
use Rattle.teb_rules.specs.declared.history.Event.{Event}
use Rattle.teb_rules.specs.declared.history.Event.TheVariants.{Began, Got, Put, Ready, Done, Gone, Told}
use Rattle.teb_rules.specs.history.Phases.{committed, prepared, txns}
use Rattle.teb_rules.specs.history.Accesses.{wrote}
use Rattle.teb_rules.specs.Setup.{Setup}
use Rattle.teb_rules.specs.Tree.{row}
use Rattle.teb_rules.specs.Batches.{one_batch}
use Rattle.teb_rules.specs.Versions.{precedes}
use Rattle.teb_rules.specs.declared.Broken.{Broken}
use Rattle.teb_rules.specs.declared.Broken.TheVariants.{Late, First, Pivot}
use Rattle.teb_rules.specs.declared.Verdict.{Verdict}
use Rattle.teb_rules.specs.declared.Verdict.TheVariants.{Go, Wait, Break}
use Rattle.teb_rules.specs.declared.Stop.{Stop}
use Rattle.teb_rules.specs.declared.Stop.TheVariants.{Go as Free, Wait as Waits, Break as Breaks}
use Rattle.teb_rules.specs.Verdicts.{break_for, cause_at, or_else, wait_for}
use Rattle.teb_rules.specs.Controls.{at_stake, blocks, edge, entry_blocks, edges, has_read_before, is_first, is_late, on_access, pivot_break, quads, reads_past, validate}
use Rattle.teb_rules.specs.Stops.{access_stop, commit_stop, on_commit, or_stop_of, prepare_stop, scan_stop, stop_of, stop_with}
use Rattle.teb_rules.specs.Cascade.{txn}
use Rattle.teb_rules.specs.Serializes.{In}
use Rattle.teb_rules.specs.laws.Lawful.{Lawful}
use Rattle.teb_rules.specs.laws.Laws.{is_read}
use Rattle.teb_rules.specs.laws.TreeFacts.{TreeFacts}
use Rattle.teb_rules.proofs.lemmas.laws.Pivots.{edges_from, find_has, no_stake_pivot, quads_from}
use Rattle.teb_rules.proofs.lemmas.laws.ReadRule.{find_some}
use Rattle.teb_rules.proofs.lemmas.laws.Serial.{filter-In}
use Rattle.teb_rules.proofs.lemmas.laws.Waits.{InWay, access_way, commit_way}
use Rattle.teb_rules.specs.Steps.{passed, rank_of_table}
use Rattle.guarantees.specs.Causes.{IsGrounded, IsOverwritten, IsSecond, IsTooLate, writes}

-- a stop is the verdict of one node
pub stop_waits : (f : ℕ → Verdict) (ns : List ℕ) (u : Txn) (n : Node) → stop_of f ns ≡ Waits u n → f n.0 ≡ Wait u
unfolding stop_of
stop_waits f [] u n h = absurd (cc)
stop_waits f (m ∷ ms) u n h = go (f m) refl h (stop_waits f ms u n)
  where
    go : (v : Verdict) → f m ≡ v → stop_with m v (stop_of f ms) ≡ Waits u n → (stop_of f ms ≡ Waits u n → f n.0 ≡ Wait u) → f n.0 ≡ Wait u
    go Go e h ih = ih h
    go (Wait w) e h ih = let a : w ≡ u = cc in let b : record { 0 = m } ≡ n = cc in subst (λ (z : Node). f z.0 ≡ Wait u) b (e ∙ ap (λ (z : Txn). Wait z) a)
    go (Break c) e h ih = absurd (cc)

pub stop_breaks : (f : ℕ → Verdict) (ns : List ℕ) (n : Node) (b : Broken) → stop_of f ns ≡ Breaks n b → f n.0 ≡ Break b
unfolding stop_of
stop_breaks f [] n b h = absurd (cc)
stop_breaks f (m ∷ ms) n b h = go (f m) refl h (stop_breaks f ms n b)
  where
    go : (v : Verdict) → f m ≡ v → stop_with m v (stop_of f ms) ≡ Breaks n b → (stop_of f ms ≡ Breaks n b → f n.0 ≡ Break b) → f n.0 ≡ Break b
    go Go e h ih = ih h
    go (Wait w) e h ih = absurd (cc)
    go (Break c) e h ih = let a : c ≡ b = cc in let k : record { 0 = m } ≡ n = cc in subst (λ (z : Node). f z.0 ≡ Break b) k (e ∙ ap (λ (z : Broken). Break z) a)

wait_no_break : (o : Option ℕ) (b : Broken) → wait_for o ≡ Break b → ⊥
wait_no_break None b h = cc
wait_no_break (Some u) b h = cc

or_else_break : (v w : Verdict) (b : Broken) → or_else v w ≡ Break b → (v ≡ Break b) ⊎ (w ≡ Break b)
or_else_break Go w b h = inr h
or_else_break (Wait u) w b h = absurd (cc)
or_else_break (Break c) w b h = inl h

two_waits : (o p : Option ℕ) (b : Broken) → or_else (wait_for o) (wait_for p) ≡ Break b → ⊥
two_waits o p b h = elim (or_else_break (wait_for o) (wait_for p) b h) [ inl k ↦ wait_no_break o b k | inr k ↦ wait_no_break p b k ]

break_found : (o : Option ℕ) (f : ℕ → Broken) (b : Broken) → break_for o f ≡ Break b → (u : ℕ) × (o ≡ Some u) × (f u ≡ b)
break_found None f b h = absurd (cc)
break_found (Some u) f b h = let e : f u ≡ b = cc in (u, refl, e)

-- a read of x by u, from the starting row, from t, or from a version before that of t
read_before : (S : Setup) (H P : List Event) (x : Cell) (t u : ℕ) → has_read_before S H P x t u ≡ true → (w : ℕ) × (list_any (is_read u x w) P ≡ true) × ((w ≡ t) ⊎ (precedes S H x w t ≡ true))
unfolding has_read_before
read_before S H [] x t u h = absurd (cc)
read_before S H (Got s y w v ∷ P) x t u h = elim (or_cases (eqb s.0 u && same_cell y x && (eqb w.0 t || precedes S H x w.0 t)) _ h) [
  | inl k ↦ (let p = and_parts _ _ k in
      (w.0, or_left _ (list_any (is_read u x w.0) P) (and_from _ _ p.0 (eq-eqb w.0 w.0 refl)), elim (or_cases (eqb w.0 t) _ p.1) [ inl e ↦ inl (eqb-true w.0 t e) | inr e ↦ inr e ]))
  | inr k ↦ (let r = read_before S H P x t u k in (r.0, or_right _ (list_any (is_read u x r.0) P) r.1, r.2))
]
read_before S H (Began s a k i ∷ P) x t u h = read_before S H P x t u h
read_before S H (Put s y v ∷ P) x t u h = read_before S H P x t u h
read_before S H (Ready s ∷ P) x t u h = read_before S H P x t u h
read_before S H (Done s ∷ P) x t u h = read_before S H P x t u h
read_before S H (Gone s c ∷ P) x t u h = read_before S H P x t u h
read_before S H (Told s ∷ P) x t u h = read_before S H P x t u h

too_late : (S : Setup) (H : List Event) (r : Request) (t n u : ℕ) (x : Cell) → writes x r ≡ true → (row S.tree n).control ≡ Timestamp → is_late S H n t x u ≡ true → IsTooLate S H r t n u x
unfolding is_late
too_late S H r t n u x a c h =
    let p = and_parts _ _ h in
    let q = and_parts _ _ p.0 in
    let k = and_parts _ _ q.0 in
    let w = read_before S H H x t u p.1 in
    record { asks = a; stamps = c; meet = k.0; stands = not-true _ k.1; later = ltb-true _ _ q.1; from = w.0; read = w.1; before = w.2 }

second : (S : Setup) (H : List Event) (r : Request) (t n u : ℕ) (x : Cell) → writes x r ≡ true → (row S.tree n).control ≡ Snapshot → is_first S H n t x u ≡ true → IsSecond S H r t n u x
unfolding is_first
second S H r t n u x a c h =
    let p = and_parts _ _ h in
    let q = and_parts _ _ p.0 in
    let k = and_parts _ _ q.0 in
    record { asks = a; snapshot = c; meet = k.0; done = k.1; put = q.1; unclosed = ltb-false _ _ (not-true _ p.1) }

-- an access that a node breaks
access_breaks : (c : ControlKind) (S : Setup) (H : List Event) (r : Request) (n t : ℕ) (x : Cell) (write : Bool) (b : Broken) → (row S.tree n).control ≡ c → (write ≡ true → writes x r ≡ true)
    → on_access c S H n t x write ≡ Break b → IsGrounded S H r t (cause_at (record { 0 = n }) b)
unfolding on_access
access_breaks Locks S H r n t x write b c a h = absurd (wait_no_break _ b h)
access_breaks Pipeline S H r n t x write b c a h = absurd
    (two_waits (find (entry_blocks S H n t x) (txns H)) (find (λ u. blocks S H n t x write u && not (passed S H n u (rank_of_table S n x.table.0))) (txns H)) b h)
access_breaks Timestamp S H r n t x false b c a h = absurd (cc)
access_breaks Timestamp S H r n t x true b c a h =
    let f : ℕ → Broken = λ u. Late (record { 0 = u }) x in
    let k = break_found (find (is_late S H n t x) (txns H)) f b h in
    subst (λ (z : Broken). IsGrounded S H r t (cause_at (record { 0 = n }) z)) k.2 (too_late S H r t n k.0 x (a refl) c (find_some (is_late S H n t x) (txns H) k.0 k.1).1)
access_breaks Snapshot S H r n t x false b c a h = absurd (cc)
access_breaks Snapshot S H r n t x true b c a h =
    let f : ℕ → Broken = λ u. First (record { 0 = u }) x in
    elim (or_else_break (break_for (find (is_first S H n t x) (txns H)) f) _ b h) [
      | inl e ↦ (let k = break_found (find (is_first S H n t x) (txns H)) f b e in
          subst (λ (z : Broken). IsGrounded S H r t (cause_at (record { 0 = n }) z)) k.2 (second S H r t n k.0 x (a refl) c (find_some (is_first S H n t x) (txns H) k.0 k.1).1))
      | inr e ↦ absurd (wait_no_break _ b e)
    ]

-- an edge is a read that was overwritten
past_read : (S : Setup) (H P : List Event) (a b : ℕ) → reads_past S H P a b ≡ true → (x : Cell) × (w : ℕ) × (list_any (is_read a x w) P ≡ true) × (wrote H b x ≡ true) × (precedes S H x w b ≡ true)
unfolding reads_past
past_read S H [] a b h = absurd (cc)
past_read S H (Got s x w v ∷ P) a b h = elim (or_cases (eqb s.0 a && wrote H b x && precedes S H x w.0 b) _ h) [
  | inl k ↦ (let p = and_parts _ _ k in let q = and_parts _ _ p.0 in
      (x, w.0, or_left _ (list_any (is_read a x w.0) P) (and_from _ _ (and_from _ _ q.0 (same_itself x)) (eq-eqb w.0 w.0 refl)), q.1, p.1))
  | inr k ↦ (let r = past_read S H P a b k in (r.0, r.1, or_right _ (list_any (is_read a r.0 r.1) P) r.2, r.3, r.4))
]
past_read S H (Began s c k i ∷ P) a b h = past_read S H P a b h
past_read S H (Put s y v ∷ P) a b h = past_read S H P a b h
past_read S H (Ready s ∷ P) a b h = past_read S H P a b h
past_read S H (Done s ∷ P) a b h = past_read S H P a b h
past_read S H (Gone s c ∷ P) a b h = past_read S H P a b h
past_read S H (Told s ∷ P) a b h = past_read S H P a b h

overwritten : (S : Setup) (H : List Event) (n a b : ℕ) → edge S H n a b ≡ true → IsOverwritten S H n a b
unfolding edge
overwritten S H n a b h =
    let p = and_parts _ _ h in
    let q = and_parts _ _ p.0 in
    let w = past_read S H H a b p.1 in
    record { meet = q.0; together = q.1; cell = w.0; from = w.1; read = w.2; put = w.3; after = w.4 }

-- a transaction at stake is t, or is prepared or committed
at_stake_is : (H : List Event) (t u : ℕ) → In u (at_stake H t) → (u ≡ t) ⊎ ((prepared H u || committed H u) ≡ true)
unfolding at_stake
at_stake_is H t u i = elim (or_cases (eqb u t || prepared H u) (committed H u) (filter-In _ u (txns H) i).1) [
  | inl k ↦ elim (or_cases (eqb u t) (prepared H u) k) [ inl e ↦ inl (eqb-true u t e) | inr p ↦ inr (or_left (prepared H u) (committed H u) p) ]
  | inr k ↦ inr (or_right (prepared H u) (committed H u) k)
]

settled_one : (H : List Event) (t u : ℕ) → In u (at_stake H t) → u ≢ t → (prepared H u || committed H u) ≡ true
settled_one H t u i ne = elim (at_stake_is H t u i) [ inl e ↦ absurd (ne e) | inr s ↦ s ]

settled_two : (H : List Event) (t u : ℕ) → In u (at_stake H t) → u ≢ t → (prepared H u ≡ true) ⊎ (committed H u ≡ true)
settled_two H t u i ne = or_cases (prepared H u) (committed H u) (settled_one H t u i ne)

-- t is one of the four: the transactions that are already prepared or committed have no pivot
one_of : (S : Setup) (tf : TreeFacts S) (H : List Event) (n t a b c d : ℕ) → Lawful S H → (row S.tree n).control ≡ Snapshot → In a (at_stake H t) → In b (at_stake H t) → In c (at_stake H t)
    → In d (at_stake H t) →
    edge S H n a b ≡ true → edge S H n c d ≡ true → one_batch S H n b c ≡ true → In t (a ∷ b ∷ c ∷ d ∷ [])
one_of S tf H n t a b c d l k ia ib ic id e f o = elim (cases_eq a t) [
  | inl q ↦ inl q
  | inr na ↦ elim (cases_eq b t) [
    | inl q ↦ inr (inl q)
    | inr nb ↦ elim (cases_eq c t) [
      | inl q ↦ inr (inr (inl q))
      | inr nc ↦ elim (cases_eq d t) [
        | inl q ↦ inr (inr (inr (inl q)))
        | inr nd ↦ absurd (no_stake_pivot S tf H n a b c d l k (settled_one H t a ia na) (settled_one H t b ib nb) (settled_one H t c ic nc) (settled_one H t d id nd) e f o)
      ]
    ]
  ]
]

pivot_found : (o : Option ((ℕ × ℕ) × (ℕ × ℕ))) (b : Broken) → pivot_break o ≡ Break b → (q : (ℕ × ℕ) × (ℕ × ℕ)) × (o ≡ Some q) × (Pivot (txn q.0.0) (txn q.0.1) (txn q.1.0) (txn q.1.1) ≡ b)
pivot_found None b h = absurd (cc)
pivot_found (Some q) b h = let e : Pivot (txn q.0.0) (txn q.0.1) (txn q.1.0) (txn q.1.1) ≡ b = cc in (q, refl, e)

validate_breaks : (c : ControlKind) (S : Setup) (tf : TreeFacts S) (H : List Event) (r : Request) (n t : ℕ) (b : Broken) → Lawful S H → (row S.tree n).control ≡ c → (r ≡ Prepare) ⊎ (r ≡ Commit)
    → validate c S H n t ≡ Break b → IsGrounded S H r t (cause_at (record { 0 = n }) b)
unfolding validate
validate_breaks Locks S tf H r n t b l c a h = absurd (cc)
validate_breaks Pipeline S tf H r n t b l c a h = absurd (cc)
validate_breaks Timestamp S tf H r n t b l c a h = absurd (cc)
validate_breaks Snapshot S tf H r n t b l c a h =
    let p : (ℕ × ℕ) × (ℕ × ℕ) → Bool = λ q. one_batch S H n q.0.1 q.1.0 in
    let es = edges S H n (at_stake H t) in
    let k = pivot_found (find p (quads es)) b h in
    let q = k.0 in
    let f = find_has p (quads es) q k.1 in
    let two = quads_from es q f.0 in
    let e = edges_from S H n (at_stake H t) q.0 two.0 in
    let d = edges_from S H n (at_stake H t) q.1 two.1 in
    subst (λ (z : Broken). IsGrounded S H r t (cause_at (record { 0 = n }) z)) k.2 (record {
      asks = a;
      snapshot = c;
      into = overwritten S H n q.0.0 q.0.1 e.2;
      mates = f.1;
      out = overwritten S H n q.1.0 q.1.1 d.2;
      asker = one_of S tf H n t q.0.0 q.0.1 q.1.0 q.1.1 l c e.0 e.1 d.0 d.1 e.2 d.2 f.1;
      settled = λ v i ne. settled_two H t v (elim i [
        | inl w ↦ subst (λ (z : ℕ). In z (at_stake H t)) w e.0
        | inr j ↦ elim j [
          | inl w ↦ subst (λ (z : ℕ). In z (at_stake H t)) w e.1
          | inr m ↦ elim m [
            | inl w ↦ subst (λ (z : ℕ). In z (at_stake H t)) w d.0
            | inr y ↦ elim y [ inl w ↦ subst (λ (z : ℕ). In z (at_stake H t)) w d.1 | inr x ↦ absurd x ]
          ]
        ]
      ]) ne;
    })

-- what the stop of t's request r names: the transaction of a wait, and the ground of a break
pub record StopNames (S : Setup) (H : List Event) (r : Request) (t : ℕ) (s : Stop) : Type 0 where
  pub waits : (u : Txn) (n : Node) → s ≡ Waits u n → InWay S H n.0 t u.0
  pub breaks : (n : Node) (b : Broken) → s ≡ Breaks n b → IsGrounded S H r t (cause_at n b)

pub access_names : (S : Setup) (H : List Event) (r : Request) (t : ℕ) (x : Cell) (write : Bool) → (write ≡ true → writes x r ≡ true) → StopNames S H r t (access_stop S H t x write)
unfolding access_stop
access_names S H r t x write a = record {
  waits = λ u n e. access_way (row S.tree n.0).control S H n.0 t x write u.0 (stop_waits _ _ u n e);
  breaks = λ n b e. access_breaks (row S.tree n.0).control S H r n.0 t x write b refl a (stop_breaks _ _ n b e);
}

pub scan_names : (S : Setup) (H : List Event) (r : Request) (t : ℕ) (xs : List Cell) → StopNames S H r t (scan_stop S H t xs)
unfolding scan_stop
scan_names S H r t [] = record { waits = λ u n e. absurd (cc); breaks = λ n b e. absurd (cc) }
scan_names S H r t (x ∷ xs) = go (access_stop S H t x false) (access_names S H r t x false (λ e. absurd (cc))) (scan_names S H r t xs)
  where
    go : (s : Stop) → StopNames S H r t s → StopNames S H r t (scan_stop S H t xs) → StopNames S H r t (or_stop_of s (scan_stop S H t xs))
    go Free a b = b
    go (Waits u n) a b = a
    go (Breaks n c) a b = a

pivot_no_wait : (o : Option ((ℕ × ℕ) × (ℕ × ℕ))) (u : Txn) → pivot_break o ≡ Wait u → ⊥
pivot_no_wait None u h = cc
pivot_no_wait (Some q) u h = cc

validate_no_wait : (c : ControlKind) (S : Setup) (H : List Event) (n t : ℕ) (u : Txn) → validate c S H n t ≡ Wait u → ⊥
unfolding validate
validate_no_wait Locks S H n t u h = cc
validate_no_wait Pipeline S H n t u h = cc
validate_no_wait Timestamp S H n t u h = cc
validate_no_wait Snapshot S H n t u h = pivot_no_wait (find (λ q. one_batch S H n q.0.1 q.1.0) (quads (edges S H n (at_stake H t)))) u h

pub prepare_names : (S : Setup) (tf : TreeFacts S) (H : List Event) (t : ℕ) → Lawful S H → StopNames S H Prepare t (prepare_stop S H t)
unfolding prepare_stop
prepare_names S tf H t l = record {
  waits = λ u n e. absurd (validate_no_wait (row S.tree n.0).control S H n.0 t u (stop_waits _ _ u n e));
  breaks = λ n b e. validate_breaks (row S.tree n.0).control S tf H Prepare n.0 t b l refl (inl refl) (stop_breaks _ _ n b e);
}

commit_breaks : (S : Setup) (tf : TreeFacts S) (H : List Event) (t n : ℕ) (b : Broken) → Lawful S H → on_commit S H t n ≡ Break b → IsGrounded S H Commit t (cause_at (record { 0 = n }) b)
unfolding on_commit
commit_breaks S tf H t n b l h = elim (or_else_break (validate (row S.tree n).control S H n t) _ b h) [
  | inl e ↦ validate_breaks (row S.tree n).control S tf H Commit n t b l refl (inr refl) e
  | inr e ↦ absurd (wait_no_break _ b e)
]

pub commit_names : (S : Setup) (tf : TreeFacts S) (H : List Event) (t : ℕ) → Lawful S H → StopNames S H Commit t (commit_stop S H t)
unfolding commit_stop
commit_names S tf H t l = record {
  waits = λ u n e. commit_way S H t n.0 u.0 (stop_waits _ _ u n e);
  breaks = λ n b e. commit_breaks S tf H t n.0 b l (stop_breaks _ _ n b e);
}
