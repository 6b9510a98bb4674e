use Rattle.std.proofs.Common.{sym, ap, subst, ◌∙◌}
use Rattle.teb_rules.specs.Answer.{Answered, answer}
use Rattle.engine_core.specs.declared.decision.Decision.TheVariants as decision
use Rattle.engine_core.specs.declared.engine_state.EngineState.{EngineState}
use Rattle.engine_core.specs.Responses.{IsResponse}
use Rattle.store_setup.specs.Stores.{store_of}
use Rattle.engine_core.proofs.Reached.{answered_engine, lent_engine, ready_engine, settled_of}
use Rattle.engine_core.proofs.Carrying.{leads_on}
use Rattle.engine_core.specs.declared.engine.Engine.TheInside.{Inside}
use Rattle.engine_core.specs.EngineModel.{EngineModel, IsEngine}
use Rattle.engine_core.specs.States.{IsReady}
use Rattle.engine_core.specs.Decisions.{carried}
use Rattle.teb_rules.specs.laws.Lawful.{Lawful}
use Rattle.engine_core.proofs.engine.Engine.ask.Goals.{in-Reply, in-Scan}
use Rattle.engine_core.proofs.engine.Engine.ask.Goals as goal

pub respond-requires : goal.respond-requires
respond-requires g c =
    let was = lent_engine c.self.invariant c.deref_mut-state.ensures.value in
    record { ready = ready_engine c.deref_mut-state.result.now c.self.inside.ready was (ap (λ (m : EngineModel). m.ready) c.self.view_is ∙ c.requires) }

pub scan-requires-clause-ready : goal.scan-requires-clause-ready
scan-requires-clause-ready g c =
    let old = c.deref_mut-state.result.now in
    let was = lent_engine c.self.invariant c.deref_mut-state.ensures.value in
    let put_off = subst (IsResponse old c.respond.new.state (answer (store_of old.setup) old.history.events c.args.session c.args.request)) c.in-Scan.is c.respond.ensures.answer in
    subst (λ (k : EngineState g.row.C.Denot _). IsReady k) (sym put_off.0) (ready_engine old c.self.inside.ready was (ap (λ (m : EngineModel). m.ready) c.self.view_is ∙ c.requires))

pub scan-requires-clause-leads : goal.scan-requires-clause-leads
scan-requires-clause-leads g c =
    let old = c.deref_mut-state.result.now in
    let was = lent_engine c.self.invariant c.deref_mut-state.ensures.value in
    let put_off = subst (IsResponse old c.respond.new.state (answer (store_of old.setup) old.history.events c.args.session c.args.request)) c.in-Scan.is c.respond.ensures.answer in
    subst (λ (k : EngineState g.row.C.Denot _). Lawful (store_of k.setup).setup (carried (store_of k.setup) k.history.events (decision.Scan c.in-Scan.t c.in-Scan.first c.in-Scan.count)).1)
    (sym put_off.0)
    (leads_on (store_of old.setup) old.history.events c.args.session c.args.request old.whole.sound old.whole.lawful (settled_of (store_of old.setup) old.history.events old.whole.sound was.reached)
    (decision.Scan c.in-Scan.t c.in-Scan.first c.in-Scan.count) put_off.1)

pub invariant_of-self : goal.invariant_of-self
invariant_of-self g c =
    let old = c.deref_mut-state.result.now in
    let was = lent_engine c.self.invariant c.deref_mut-state.ensures.value in
    elim c.match-respond.branch [
      | in-Reply w ↦
          let reply = subst (IsResponse old c.respond.new.state (answer (store_of old.setup) old.history.events c.args.session c.args.request)) w.in-Reply.is c.respond.ensures.answer in
          subst (λ (i : Inside g.row.C.Denot _). IsEngine i.state.value i.ready) (sym w.self-inside-is)
          (answered_engine old c.respond.new.state c.self.inside.ready c.args.session c.args.request
          was c.respond.ensures.setup reply.1)
      | in-Scan w ↦
          let put_off = subst (IsResponse old c.respond.new.state (answer (store_of old.setup) old.history.events c.args.session c.args.request)) w.in-Scan.is c.respond.ensures.answer in
          subst (λ (i : Inside g.row.C.Denot _). IsEngine i.state.value i.ready) (sym w.self-inside-is)
          (answered_engine old w.scan.new.state c.self.inside.ready c.args.session c.args.request
          was (w.scan.ensures.setup ∙ c.respond.ensures.setup)
          (w.scan.ensures.events
          ∙ ap (λ (k : EngineState g.row.C.Denot _). (carried (store_of k.setup) k.history.events (decision.Scan w.in-Scan.t w.in-Scan.first w.in-Scan.count)).1) put_off.0
          ∙ ap (λ (a : Answered). a.1) put_off.1))
    ]
