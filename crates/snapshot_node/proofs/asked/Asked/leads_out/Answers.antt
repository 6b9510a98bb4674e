use Rattle.std.proofs.Common.{List, sym, ap, ◌∙◌}
use Rattle.std.specs.List.{list_any}
use Rattle.teb_rules.specs.declared.history.Event.{Event}
use Rattle.teb_rules.proofs.lemmas.laws.Sound.{tree_facts}
use Rattle.phase_api.specs.FactsView.{setup_of, events_of}
use Rattle.snapshot_node.proofs.AnyOf.{any_first, any_later}
use Rattle.snapshot_node.proofs.LeadsOut.{gets_overwritten, by_reads, not_got}
use Rattle.snapshot_node.proofs.asked.Asked.leads_out.Goals as goal

pub loop-event-init : goal.loop-event-init
loop-event-init c =
    let S = setup_of c.args.self.now.facts.now in
    let H = events_of c.args.self.now.facts.now in
    let n = c.args.self.now.register.now.node.0 in
    ap (λ (es : List Event). list_any (gets_overwritten S H n c.args.a.0) es) (c.into_iter-event-iterator.ensures.into_iter_gives ∙ c.own_events-event-items.ensures)
    ∙ by_reads S (tree_facts S c.requires.sound) H n c.args.a.0 c.requires.lawful c.args.self.now.stands.kind

pub returns-then-is_overwritten : goal.returns-then-is_overwritten
returns-then-is_overwritten c =
    let p = gets_overwritten (setup_of c.args.self.now.facts.now) (events_of c.args.self.now.facts.now) c.args.self.now.register.now.node.0 c.args.a.0 in
    any_first p c.in-Some.event c.next.new.self c.loop-event.event-iterator _ c.in-Some.ensures.steps c.loop-event.invariant
    (ap p c.in-Got.is ∙ sym c.is_overwritten.ensures ∙ c.if-is_overwritten.true)

pub loop-event-preserved-else-is_overwritten : goal.loop-event-preserved-else-is_overwritten
loop-event-preserved-else-is_overwritten c =
    let p = gets_overwritten (setup_of c.args.self.now.facts.now) (events_of c.args.self.now.facts.now) c.args.self.now.register.now.node.0 c.args.a.0 in
    any_later p c.in-Some.event c.next.new.self c.loop-event.event-iterator _ c.in-Some.ensures.steps c.loop-event.invariant
    (ap p c.in-Got.is ∙ sym c.is_overwritten.ensures ∙ c.if-is_overwritten.false)

pub loop-event-preserved : goal.loop-event-preserved
loop-event-preserved c =
    let S = setup_of c.args.self.now.facts.now in
    let H = events_of c.args.self.now.facts.now in
    let n = c.args.self.now.register.now.node.0 in
    any_later (gets_overwritten S H n c.args.a.0) c.in-Some.event c.next.new.self c.loop-event.event-iterator _ c.in-Some.ensures.steps c.loop-event.invariant
    (not_got S H n c.args.a.0 c.in-Some.event c.in_default.not-Got)

pub returns : goal.returns
returns c = sym (ap (list_any (gets_overwritten (setup_of c.args.self.now.facts.now) (events_of c.args.self.now.facts.now) c.args.self.now.register.now.node.0 c.args.a.0)) c.in-None.ensures.steps.0)
    ∙ c.loop-event.invariant
