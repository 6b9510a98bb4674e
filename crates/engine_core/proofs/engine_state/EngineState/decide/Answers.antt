use Rattle.std.proofs.Common.{◌≡◌, List, ap, subst}
use Rattle.teb_rules.specs.declared.names.Cell.{Cell}
use Rattle.teb_rules.specs.history.Written.{Written}
use Rattle.teb_rules.specs.Setup.{Store}
use Rattle.teb_rules.specs.Answer.{answer}
use Rattle.version_chain.specs.Lists.{Version}
use Rattle.engine_core.specs.declared.engine_state.EngineState.{EngineState}
use Rattle.engine_core.specs.Decisions.{carried, IsBounded}
use Rattle.store_setup.specs.Stores.{store_of}
use Rattle.engine_core.specs.Views.{events_in}
use Rattle.engine_core.proofs.engine_state.EngineState.decide.Goals as goal

pub returns-clause-answer : goal.returns-clause-answer
returns-clause-answer g c =
    subst (λ (h : Written). carried (store_of c.args.self.now.setup) h.events c.decide.result ≡ answer (store_of c.args.self.now.setup) h.events c.args.session c.args.request) c.view.ensures.history
    (subst (λ (X : Store). carried X (events_in c.view.result) c.decide.result ≡ answer X (events_in c.view.result) c.args.session c.args.request) c.view.ensures.store c.decide.ensures.answer)

pub returns-clause-bounded : goal.returns-clause-bounded
returns-clause-bounded g c =
    let S = (store_of c.args.self.now.setup).setup in
    subst (λ (L : Cell → List Version). IsBounded L S c.args.self.now.history.events c.decide.result) (ap (λ (k : EngineState g.row.C.Denot _). g.C.Chains.lists k.chains) c.view.ensures.state)
    (subst (λ (h : Written). IsBounded (g.C.Chains.lists c.view.result.state.now.chains) S h.events c.decide.result) c.view.ensures.history
    (subst (λ (X : Store). IsBounded (g.C.Chains.lists c.view.result.state.now.chains) X.setup (events_in c.view.result) c.decide.result) c.view.ensures.store c.decide.ensures.bounded))
