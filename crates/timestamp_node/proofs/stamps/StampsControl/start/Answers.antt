use Rattle.std.proofs.Common.{◌≡◌, ◌∙◌, None, Some, sym, ap}
use Rattle.teb_rules.specs.Tree.{leaf}
use Rattle.phase_api.specs.FactsView.{setup_of, events_of}
use Rattle.access_conflicts.specs.Waits.{wait_for_txn}
use Rattle.timestamp_node.proofs.Said.{begin_leaf, begin_inner}
use Rattle.timestamp_node.proofs.stamps.StampsControl.start.Goals as goal

pub returns-in-Some : goal.returns-in-Some
returns-in-Some c =
    let S = setup_of c.args.facts.now in
    let H = events_of c.args.facts.now in
    let n = c.args.self.now.node.0 in
    let inner : n ≡ leaf S.tree c.args.s → ⊥ = λ e. let z : Some c.in-Some.child ≡ None = sym c.in-Some.is ∙ c.side.ensures.none.1 e in cc in
    c.wait_for.ensures ∙ ap wait_for_txn (c.full.ensures S H n c.requires.stands.batches)
    ∙ begin_inner S H n c.requires.stands.kind c.args.s c.from.result c.args.self.now.batches.size inner (c.from.ensures ∙ c.in-Some.ensures.side 0) c.requires.stands.size

pub returns-in-None : goal.returns-in-None
returns-in-None c = begin_leaf (setup_of c.args.facts.now) (events_of c.args.facts.now) c.args.self.now.node.0 c.requires.stands.kind c.args.s (c.side.ensures.none.0 c.in-None.is)
