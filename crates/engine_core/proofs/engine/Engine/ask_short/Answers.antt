use Rattle.std.proofs.Common.{subst, ap, ◌∙◌}
use Rattle.engine_core.specs.declared.decision.Decision.TheVariants as decision
use Rattle.engine_core.specs.Decisions.{carried}
use Rattle.engine_core.specs.EngineModel.{EngineModel}
use Rattle.engine_core.specs.Responses.{IsResponse}
use Rattle.store_setup.specs.Stores.{store_of}
use Rattle.teb_rules.specs.Answer.{answer}
use Rattle.engine_core.proofs.NoScans.{no_scan}
use Rattle.engine_core.proofs.Reached.{answered_engine, lent_engine, ready_engine}
use Rattle.engine_core.proofs.engine.Engine.ask_short.Goals as goal

pub respond-requires : goal.respond-requires
respond-requires g c =
    let was = lent_engine c.self.invariant c.deref_mut-state.ensures.value in
    record { ready = ready_engine c.deref_mut-state.result.now c.self.inside.ready was (ap (λ (m : EngineModel). m.ready) c.self.view_is ∙ c.requires.ready) }

pub unreachable-requires : goal.unreachable-requires
unreachable-requires g c =
    let X = store_of c.deref_mut-state.result.now.setup in
    let H = c.deref_mut-state.result.now.history.events in
    let scan = subst (IsResponse c.deref_mut-state.result.now c.respond.new.state (answer X H c.args.session c.args.request.now)) c.in-Scan.is c.respond.ensures.answer in
    no_scan X H c.args.session c.args.request.now (carried X H (decision.Scan c.in-Scan.field-0 c.in-Scan.field-1 c.in-Scan.field-2)) c.requires.short tt scan.1

pub invariant_of-self : goal.invariant_of-self
invariant_of-self g c =
    let old = c.deref_mut-state.result.now in
    let reply = subst (IsResponse old c.respond.new.state (answer (store_of old.setup) old.history.events c.args.session c.args.request.now)) c.in-Reply.is c.respond.ensures.answer in
    answered_engine old c.respond.new.state c.self.inside.ready c.args.session c.args.request.now
    (lent_engine c.self.invariant c.deref_mut-state.ensures.value) c.respond.ensures.setup reply.1
