use Rattle.std.proofs.Common.{◌∙◌, drop, sym, refl, eq-eqb}
use Rattle.teb_rules.specs.declared.history.Event.TheVariants.{Began}
use Rattle.phase_api.specs.FactsView.{setup_of, events_of}
use Rattle.access_conflicts.proofs.Noting.{typed_now}
use Rattle.batch_book.proofs.Telling.{next_new}
use Rattle.timestamp_node.proofs.Noting.{orderly_now, begun_now, began_on, began_off}
use Rattle.timestamp_node.proofs.stamps.Stamps.begin.Goals as goal

pub is_on-requires : goal.is_on-requires
is_on-requires c =
    let S = setup_of c.args.facts.now in
    let H = events_of c.args.facts.now in
    let n = c.args.self.now.node.0 in
    let t = c.args.txn in
    let q = c.requires.newest in
    let e = Began t q.0 q.1 q.2 in
    typed_now c.args.facts.now t.0 (orderly_now S H n e q.3.is q.3.may c.requires.stands.orderly) (begun_now S H n e q.3.is q.3.may t.0 (eq-eqb t.0 t.0 refl))

pub side-requires-clause-typed : goal.side-requires-clause-typed
side-requires-clause-typed c =
    let S = setup_of c.args.facts.now in
    let H = events_of c.args.facts.now in
    let n = c.args.self.now.node.0 in
    let t = c.args.txn in
    let q = c.requires.newest in
    let e = Began t q.0 q.1 q.2 in
    typed_now c.args.facts.now t.0 (orderly_now S H n e q.3.is q.3.may c.requires.stands.orderly) (begun_now S H n e q.3.is q.3.may t.0 (eq-eqb t.0 t.0 refl))

pub join-requires-clause-new : goal.join-requires-clause-new
join-requires-clause-new c =
    let S = setup_of c.args.facts.now in
    let H = events_of c.args.facts.now in
    let n = c.args.self.now.node.0 in
    next_new c.args.self.now.batches S (drop 1 H) n c.args.txn.0 c.requires.stands.batches c.requires.newest.3.may.0

pub returns-then-is_on-clause-stands : goal.returns-then-is_on-clause-stands
returns-then-is_on-clause-stands c =
    let S = setup_of c.args.facts.now in
    let H = events_of c.args.facts.now in
    let was = c.args.self.now in
    let t = c.args.txn in
    let q = c.requires.newest in
    began_on S H was.node.0 (Began t q.0 q.1 q.2) q.3.is q.3.may was.ordered was.batches was.reads c.requires.stands t q.0 q.1 q.2 refl (sym c.is_on.ensures ∙ c.if-is_on.true)
    c.join.new.self c.side.result c.args.at c.side.ensures c.requires.at c.join.ensures.size c.join.ensures.batches

pub returns-else-is_on-clause-stands : goal.returns-else-is_on-clause-stands
returns-else-is_on-clause-stands c =
    let S = setup_of c.args.facts.now in
    let H = events_of c.args.facts.now in
    let was = c.args.self.now in
    let t = c.args.txn in
    let q = c.requires.newest in
    began_off S H was.node.0 (Began t q.0 q.1 q.2) q.3.is q.3.may was.ordered was.batches was.reads c.requires.stands t q.0 q.1 q.2 refl (sym c.is_on.ensures ∙ c.if-is_on.false)
