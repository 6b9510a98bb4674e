use Rattle.std.proofs.Common.{◌≡◌, ◌<◌, subst, sym, rules, true}
use Rattle.teb_rules.specs.declared.names.Spot.{Spot}
use Rattle.teb_rules.specs.history.Phases.{begun}
use Rattle.phase_api.specs.FactsView.{setup_of, events_of}
use Rattle.engine_core.proofs.Running.{begun_unfinished, unfinished_typed}
use Rattle.engine_core.proofs.asking.Asking.of.Goals as goal

pub unreachable-requires : goal.unreachable-requires
unreachable-requires g c =
    let b : begun (events_of c.args.view.now.facts) c.args.txn.0 ≡ true = begun_unfinished (events_of c.args.view.now.facts) c.args.txn.0 c.requires.unfinished in
    search rules

pub path-requires : goal.path-requires
path-requires g c =
    subst (λ (s : Spot). s.kind.0 < c.args.view.now.facts.tree.now.types) (sym c.in-Some.ensures.spot)
    (unfinished_typed (setup_of c.args.view.now.facts) (events_of c.args.view.now.facts) c.args.txn.0 c.args.view.now.whole.whole.lawful c.requires.unfinished)
