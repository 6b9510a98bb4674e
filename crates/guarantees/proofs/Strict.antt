-- A root that orders by commits, is a leaf, or admits one transaction per batch, keeps the real-time order.
use Rattle.std.proofs.Common.{◌≡◌, ◌≢◌, ◌⊎◌, ℕ, suc, ◌<◌, ◌≤◌, true, ◌||◌, eqb, List, [], ◌∷◌, length, refl, sym, ◌∙◌, ap, inl, inr, arith, le_refl, eq-eqb, eqb-true}
use Rattle.std.proofs.lemmas.Bool.{or_left, both_ways, cases_eq, cases_lt}
use Rattle.teb_rules.specs.declared.names.ControlKind.{ControlKind}
use Rattle.teb_rules.specs.declared.names.ControlKind.TheVariants.{Locks, Pipeline, Timestamp, Snapshot}
use Rattle.teb_rules.specs.declared.history.Event.{Event}
use Rattle.teb_rules.specs.declared.history.Event.TheVariants.{Began}
use Rattle.teb_rules.specs.history.Positions.{upto}
use Rattle.teb_rules.specs.history.Phases.{began_at, done_at, gone_at, is_began, spot_of}
use Rattle.teb_rules.specs.Setup.{Setup, among}
use Rattle.teb_rules.specs.Tree.{is_locks, is_pipeline, on, on_path, path, row, side}
use Rattle.teb_rules.specs.Batches.{close, idle, start}
use Rattle.teb_rules.specs.Ranks.{rank, serial_order, serially}
use Rattle.teb_rules.specs.laws.Lawful.{Lawful}
use Rattle.teb_rules.specs.laws.TreeFacts.{TreeFacts}
use Rattle.teb_rules.proofs.lemmas.laws.Batches.{Works, idle_no, idle_someone, opens_at, starts_at}
use Rattle.teb_rules.proofs.lemmas.laws.Commits.{committed_in, order_of_commits, serial_from_root}
use Rattle.teb_rules.proofs.lemmas.laws.Intervals.{interval}
use Rattle.teb_rules.proofs.lemmas.laws.Lists.{stands_sorted}
use Rattle.teb_rules.proofs.lemmas.laws.Meeting.{Rooted, path_good}
use Rattle.teb_rules.proofs.lemmas.laws.Ranks.{BatchRank, by_done, by_start, by_batch, commits, done_rank, kind_node, snapshot_rank, timestamp_rank}
use Rattle.teb_rules.proofs.lemmas.laws.Serial.{Commits, commits_from, order_all, order_each, order_sorted, serial_strict}
use Rattle.teb_rules.proofs.lemmas.laws.Timeline.{apart, kind-lt}
use Rattle.guarantees.specs.Shapes.{orders_by_commits}
use Rattle.guarantees.specs.Time.{KeepsRealTime, commit_order}

-- every path begins at the root
pub on_root : (S : Setup) (a : TreeFacts S) (H : List Event) (t : ℕ) → Lawful S H → began_at H t < length H → on S H 0 t ≡ true
unfolding on on_path
on_root S a H t l b = first_among (path S.tree (spot_of H t)) (path_good S a (spot_of H t) (kind-lt S H t l b)).rooted
  where
    first_among : (xs : List ℕ) → Rooted xs → among 0 xs ≡ true
    first_among [] h = absurd h
    first_among (x ∷ xs) h = or_left (eqb x 0) (among 0 xs) (eq-eqb x 0 h)

-- every transaction finds its side of the root idle when it begins, so each batch of the root has one transaction
unfoldable pub BeginsIdle : Setup → List Event → Type 0
BeginsIdle S H = (t : ℕ) → began_at H t < length H → idle S (upto (began_at H t) H) 0 (side S H 0 t) ≡ true

one_began : (u t : ℕ) (e : Event) → is_began u e ≡ true → is_began t e ≡ true → u ≡ t
one_began u t (Began s a k i) p q = sym (eqb-true s.0 u p) ∙ eqb-true s.0 t q
one_began u t _ p q = absurd (cc)

-- two transactions begin at different positions
began_apart : (H : List Event) (u t : ℕ) → began_at H u < length H → u ≢ t → began_at H u ≡ began_at H t → ⊥
unfolding began_at
began_apart H u t b ne e = apart (is_began u) (is_began t) H (λ v p q. ne (one_began u t v p q)) b e

-- so its batch starts when it begins and closes when it ends
start_is : (S : Setup) (a : TreeFacts S) (H : List Event) (t : ℕ) → Lawful S H → BeginsIdle S H → began_at H t < length H → began_at H t ≤ start S H 0 t
unfolding BeginsIdle
start_is S a H t l f b =
    let o = on_root S a H t l b in
    let s = starts_at S H 0 t l b o in
    elim (cases_lt (start S H 0 t) (began_at H t)) [
      | inl r ↦ absurd (both_ways _ (s.none_between (began_at H t) r (le_refl _)) (opens_at S H 0 t l b o (f t b)))
      | inr r ↦ r
    ]

close_is : (S : Setup) (a : TreeFacts S) (H : List Event) (t : ℕ) → Lawful S H → BeginsIdle S H → Commits H t → close S H 0 t ≤ done_at H t
unfolding BeginsIdle
close_is S a H t l f d =
    let c = commits S H t l d in
    let b : began_at H t < length H = omega arith in
    let v = interval S H 0 t l b (on_root S a H t l b) in
    elim (cases_lt (done_at H t) (close S H 0 t)) [
      | inr r ↦ r
      | inl r ↦ (let by = v.by_began in let i : suc (done_at H t) ≤ length H = d in
          let w = idle_someone S H 0 (side S H 0 t) (suc (done_at H t)) l i (v.busy (suc (done_at H t)) (let z : start S H 0 t < suc (done_at H t) = omega arith in z) r) in
          absurd (other w.who w.works c.0 c.1 b i))
    ]
  where
    other : (u : ℕ) → Works S H 0 (side S H 0 t) (suc (done_at H t)) u → began_at H t < done_at H t → length H ≤ gone_at H t → began_at H t < length H → suc (done_at H t) ≤ length H → ⊥
    other u w c g b i =
        let ub = w.begun in let ud = w.undone in let ug = w.ungone in
        elim (cases_lt (began_at H u) (began_at H t)) [
          | inl r ↦ idle_no S H 0 (side S H 0 t) (began_at H t) u l (let z : began_at H t ≤ length H = omega arith in z) (f t b)
              (record { on_node = w.on_node; on_side = w.on_side; begun = r; undone = omega arith; ungone = omega arith })
          | inr r ↦ elim (cases_lt (began_at H t) (began_at H u)) [
            | inl q ↦ idle_no S H 0 (side S H 0 u) (began_at H u) t l (let z : began_at H u ≤ length H = omega arith in z) (f u (let z : began_at H u < length H = omega arith in z))
                (record { on_node = on_root S a H t l b; on_side = sym w.on_side; begun = q; undone = omega arith; ungone = omega arith })
            | inr q ↦ elim (cases_eq u t) [
              | inl e ↦ (let z = ap (done_at H) e in omega arith)
              | inr ne ↦ began_apart H u t (let z : began_at H u < length H = omega arith in z) ne (let z : began_at H u ≡ began_at H t = omega arith in z)
            ]
          ]
        ]

strict_by_idle : (S : Setup) (a : TreeFacts S) (H : List Event) → Lawful S H → BeginsIdle S H → (t u : ℕ) → Commits H t → Commits H u → done_at H t < began_at H u → BatchRank S H 0
    → rank S H 0 t < rank S H 0 u
strict_by_idle S a H l f t u dt du h r =
    let ct = commits S H t l dt in let cu = commits S H u l du in
    let bt : began_at H t < length H = omega arith in
    let bu : began_at H u < length H = omega arith in
    let x = r.high t bt (on_root S a H t l bt) in
    let y = r.low u bu (on_root S a H u l bu) in
    let z = close_is S a H t l f dt in
    let w = start_is S a H u l f bu in
    omega arith

-- the rank at the root follows real time
root_rank : (S : Setup) (a : TreeFacts S) (H : List Event) → Lawful S H → (orders_by_commits S ≡ true) ⊎ BeginsIdle S H → (t u : ℕ) → Commits H t → Commits H u → done_at H t < began_at H u
    → rank S H 0 t < rank S H 0 u
root_rank S a H l o t u dt du h = elim (kind_node S 0) [
  | by_done c ↦ (let p = done_rank S H 0 t c in let q = done_rank S H 0 u c in let z = (commits S H u l du).0 in omega arith)
  | by_start c ↦ elim o [ inl k ↦ absurd (no_stamps (row S.tree 0).control c k) | inr f ↦ strict_by_idle S a H l f t u dt du h (timestamp_rank S H 0 l c) ]
  | by_batch c ↦ elim o [ inl k ↦ absurd (no_snapshot (row S.tree 0).control c k) | inr f ↦ strict_by_idle S a H l f t u dt du h (snapshot_rank S H 0 l c) ]
]
  where
    no_stamps : (c : ControlKind) → c ≡ Timestamp → is_locks c || is_pipeline c ≡ true → ⊥
    no_stamps Locks e h = absurd (cc)
    no_stamps Pipeline e h = absurd (cc)
    no_stamps Timestamp e h = absurd (cc)
    no_stamps Snapshot e h = absurd (cc)

    no_snapshot : (c : ControlKind) → c ≡ Snapshot → is_locks c || is_pipeline c ≡ true → ⊥
    no_snapshot Locks e h = absurd (cc)
    no_snapshot Pipeline e h = absurd (cc)
    no_snapshot Timestamp e h = absurd (cc)
    no_snapshot Snapshot e h = absurd (cc)

pub keeps_real_time : (S : Setup) (a : TreeFacts S) (H : List Event) → Lawful S H → (orders_by_commits S ≡ true) ⊎ BeginsIdle S H → KeepsRealTime S H
keeps_real_time S a H l o t u ct cu h =
    let dt = commits_from H t ct in let du = commits_from H u cu in
    stands_sorted (serially S H) (Commits H) (serial_strict S a H l) (serial_order S H) t u (order_each S a H l) (order_sorted S a H l) (order_all S a H l t dt) (order_all S a H l u du)
    (serial_from_root S a H t u l dt du (root_rank S a H l o t u dt du h))

-- the serial order is the commit order
pub commit_ordered : (S : Setup) (a : TreeFacts S) (H : List Event) → Lawful S H → orders_by_commits S ≡ true → serial_order S H ≡ commit_order H
commit_ordered S a H l o = order_of_commits S a H l (kind (row S.tree 0).control refl o) ∙ same H
  where
    kind : (c : ControlKind) → (row S.tree 0).control ≡ c → is_locks c || is_pipeline c ≡ true → ((row S.tree 0).control ≡ Locks) ⊎ ((row S.tree 0).control ≡ Pipeline)
    kind Locks e h = inl e
    kind Pipeline e h = inr e
    kind Timestamp e h = absurd (cc)
    kind Snapshot e h = absurd (cc)

    same : (H : List Event) → committed_in H ≡ commit_order H
    same H = refl
