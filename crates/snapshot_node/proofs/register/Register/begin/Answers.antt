use Rattle.std.proofs.Common.{◌≡◌, ◌∙◌, List, true, false, drop, sym, ap, subst}
use Rattle.teb_rules.specs.declared.history.Event.{Event}
use Rattle.teb_rules.specs.declared.history.Event.TheVariants.{Began}
use Rattle.teb_rules.specs.history.Phases.{begun}
use Rattle.teb_rules.specs.Tree.{on, side}
use Rattle.phase_api.specs.FactsView.{setup_of, events_of}
use Rattle.access_conflicts.proofs.Noting.{orderly_now, typed_now}
use Rattle.snapshot_node.specs.Standing.{SnapshotStand}
use Rattle.snapshot_node.specs.Committed.{CommittedStand}
use Rattle.snapshot_node.proofs.Noting.{began_begun, began_new, noted_began, noted_began_off}
use Rattle.snapshot_node.proofs.Committing.{committed_began}
use Rattle.snapshot_node.proofs.register.Register.begin.Goals as goal

pub is_on-requires : goal.is_on-requires
is_on-requires c =
    let f = c.args.facts.now in
    let H = events_of f in
    let t = c.args.txn in
    let q = c.requires.newest in
    typed_now f t.0 (orderly_now (setup_of f) H _ (Began t q.0 q.1 q.2) q.3.is q.3.may c.requires.stands.orderly)
    (ap (λ (G : List Event). begun G t.0) q.3.is ∙ began_begun (drop 1 H) t q.0 q.1 q.2)

pub side-requires-clause-typed : goal.side-requires-clause-typed
side-requires-clause-typed c =
    let f = c.args.facts.now in
    let H = events_of f in
    let t = c.args.txn in
    let q = c.requires.newest in
    typed_now f t.0 (orderly_now (setup_of f) H _ (Began t q.0 q.1 q.2) q.3.is q.3.may c.requires.stands.orderly)
    (ap (λ (G : List Event). begun G t.0) q.3.is ∙ began_begun (drop 1 H) t q.0 q.1 q.2)

pub join-requires-clause-new : goal.join-requires-clause-new
join-requires-clause-new c =
    let f = c.args.facts.now in
    let was = c.args.self.now in
    let q = c.requires.newest in
    began_new (setup_of f) (drop 1 (events_of f)) was.node.0 was.batches was.accesses c.requires.stands c.args.txn q.0 q.1 q.2 q.3.may

pub returns-then-is_on-clause-stands : goal.returns-then-is_on-clause-stands
returns-then-is_on-clause-stands c =
    let S = setup_of c.args.facts.now in
    let H = events_of c.args.facts.now in
    let P = drop 1 H in
    let was = c.args.self.now in
    let n = was.node.0 in
    let t = c.args.txn in
    let a' = c.begin.new.self in
    let b' = c.join.new.self in
    let d = c.side.result in
    let q = c.requires.newest in
    let noted = c.begin.ensures in
    subst (λ (G : List Event). on S G n t.0 ≡ true → d ≡ side S G n t.0 → SnapshotStand n b' a' S G) (sym q.3.is)
    (λ o e. noted_began S P n was.batches was.accesses c.requires.stands t q.0 q.1 q.2 q.3.may a' noted.readers noted.writers noted.committed noted.touched noted.begun b' d c.args.at o e c.requires.at
    c.join.ensures.size c.join.ensures.batches)
    (sym c.is_on.ensures ∙ c.if-is_on.true) c.side.ensures

pub returns-else-is_on-clause-stands : goal.returns-else-is_on-clause-stands
returns-else-is_on-clause-stands c =
    let S = setup_of c.args.facts.now in
    let H = events_of c.args.facts.now in
    let P = drop 1 H in
    let was = c.args.self.now in
    let n = was.node.0 in
    let t = c.args.txn in
    let a' = c.begin.new.self in
    let q = c.requires.newest in
    let noted = c.begin.ensures in
    subst (λ (G : List Event). on S G n t.0 ≡ false → SnapshotStand n was.batches a' S G) (sym q.3.is)
    (noted_began_off S P n was.batches was.accesses c.requires.stands t q.0 q.1 q.2 q.3.may a' noted.readers noted.writers noted.committed noted.touched noted.begun)
    (sym c.is_on.ensures ∙ c.if-is_on.false)

pub returns-then-is_on-clause-committed : goal.returns-then-is_on-clause-committed
returns-then-is_on-clause-committed c =
    let S = setup_of c.args.facts.now in
    let was = c.args.self.now in
    let a' = c.begin.new.self in
    let q = c.requires.newest in
    subst (λ (G : List Event). CommittedStand was.node.0 a' S G) (sym q.3.is)
    (committed_began S (drop 1 (events_of c.args.facts.now)) was.node.0 was.accesses c.requires.committed a' c.begin.ensures.committed c.begin.ensures.pending c.args.txn q.0 q.1 q.2
    c.requires.stands.orderly q.3.may)

pub returns-else-is_on-clause-committed : goal.returns-else-is_on-clause-committed
returns-else-is_on-clause-committed c =
    let S = setup_of c.args.facts.now in
    let was = c.args.self.now in
    let a' = c.begin.new.self in
    let q = c.requires.newest in
    subst (λ (G : List Event). CommittedStand was.node.0 a' S G) (sym q.3.is)
    (committed_began S (drop 1 (events_of c.args.facts.now)) was.node.0 was.accesses c.requires.committed a' c.begin.ensures.committed c.begin.ensures.pending c.args.txn q.0 q.1 q.2
    c.requires.stands.orderly q.3.may)
