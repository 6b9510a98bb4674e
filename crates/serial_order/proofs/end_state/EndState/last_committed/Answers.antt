use Rattle.std.proofs.Common.{◌∙◌, rules}
use Rattle.teb_rules.specs.history.Phases.{committed}
use Rattle.phase_api.specs.FactsView.{setup_of, events_of}
use Rattle.serial_order.proofs.LastCommitted.{of_nobody}
use Rattle.serial_order.proofs.end_state.EndState.last_committed.Goals as goal

pub returns-clause-place : goal.returns-clause-place
returns-clause-place g c =
    let f = c.args.self.now.facts.now in
    let p = committed (events_of f) in
    c.own_or_last.ensures.place p (λ none u b version answer. search rules)
    ∙ of_nobody (setup_of f) (events_of f) c.args.cell (g.C.Chains.lists c.args.self.now.chains.now) c.args.self.now.lawful c.args.self.now.held c.nobody.result.0 c.nobody.ensures p
