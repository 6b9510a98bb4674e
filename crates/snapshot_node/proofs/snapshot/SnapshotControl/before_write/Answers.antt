use Rattle.std.proofs.Common.{◌∙◌, List, sym, subst}
use Rattle.teb_rules.specs.declared.names.Txn.{Txn}
use Rattle.teb_rules.specs.history.Ascending.{IsAscendingBy}
use Rattle.teb_rules.specs.history.Live.{number_of}
use Rattle.phase_api.specs.FactsView.{setup_of, events_of}
use Rattle.snapshot_node.specs.declared.asked.Asked.{Asked}
use Rattle.snapshot_node.specs.Asking.{AreThere}
use Rattle.snapshot_node.specs.Pivots.{AreHere}
use Rattle.snapshot_node.proofs.Found.{first_found, met_found}
use Rattle.snapshot_node.proofs.Later.{first_later, met_later}
use Rattle.snapshot_node.proofs.Listed.{writers_ascend, writers_here}
use Rattle.snapshot_node.proofs.RecentAcross.{late_as}
use Rattle.snapshot_node.proofs.Said.{snapshot_first, snapshot_write}
use Rattle.snapshot_node.proofs.snapshot.SnapshotControl.before_write.Goals as goal

pub among-among-requires-clause-ascending : goal.among-among-requires-clause-ascending
among-among-requires-clause-ascending g c =
    let f = c.args.facts.now in
    subst (IsAscendingBy number_of) (sym c.writers.ensures) (writers_ascend (setup_of f) (events_of f) c.args.self.now.register.node.0 c.args.cell)

pub among-among-requires-clause-txns_here : goal.among-among-requires-clause-txns_here
among-among-requires-clause-txns_here g c =
    let f = c.args.facts.now in
    let n = c.args.self.now.register.node.0 in
    subst (λ (a : Asked). AreThere a c.writers.result.now) (sym c.recent-recent.ensures.asked)
    (subst (λ (us : List Txn). AreHere f n us) (sym c.writers.ensures) (writers_here f n c.args.cell c.requires.stands.register.orderly))

pub first_writer-requires-clause-among_here : goal.first_writer-requires-clause-among_here
first_writer-requires-clause-among_here g c = subst (λ (a : Asked). AreThere a c.among-among.result.now) c.recent-recent.ensures.asked c.among-among.ensures.here

pub blocker-requires-clause-among_here : goal.blocker-requires-clause-among_here
blocker-requires-clause-among_here g c = subst (λ (a : Asked). AreThere a c.among-among.result.now) c.recent-recent.ensures.asked c.among-among.ensures.here

pub returns-in-Some : goal.returns-in-Some
returns-in-Some g c =
    let f = c.args.facts.now in
    let S = setup_of f in
    let H = events_of f in
    let n = c.args.self.now.register.node.0 in
    let x = c.args.cell in
    let stands = c.requires.stands.register in
    let late = late_as c.recent-recent.ensures.asked c.recent-recent.ensures.t c.writers.ensures c.among-among.ensures.late in
    snapshot_first S H n c.args.t.0 x c.in-Some.writer stands.kind
    (sym c.in-Some.is ∙ c.first_writer.ensures ∙ first_later f n late.from x stands.orderly c.among-among.result.now late.are c.args.t.0 late.below ∙ first_found S H n c.args.t.0 x)

pub returns-in-None : goal.returns-in-None
returns-in-None g c =
    let f = c.args.facts.now in
    let S = setup_of f in
    let H = events_of f in
    let n = c.args.self.now.register.node.0 in
    let x = c.args.cell in
    let us = c.among-among.result.now in
    let stands = c.requires.stands.register in
    let late = late_as c.recent-recent.ensures.asked c.recent-recent.ensures.t c.writers.ensures c.among-among.ensures.late in
    c.wait_for.ensures ∙ snapshot_write S H n c.args.t.0 x _ stands.kind
    (sym c.in-None.is ∙ c.first_writer.ensures ∙ first_later f n late.from x stands.orderly us late.are c.args.t.0 late.below ∙ first_found S H n c.args.t.0 x)
    (c.blocker.ensures ∙ met_later f n late.from x stands.orderly us late.are c.args.t.0 late.below stands.batches.numbered c.requires.access.here.typed.begun ∙ met_found S H n c.args.t.0 x)
