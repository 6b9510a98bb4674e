use Rattle.std.proofs.Common.{◌∙◌, ◌∷◌, sym, subst, refl, List}
use Rattle.teb_rules.specs.names.Cells.{cell_cmp}
use Rattle.teb_rules.specs.declared.history.Event.{Event}
use Rattle.sorted_multimap.specs.Multimap.{values_in}
use Rattle.timestamp_node.proofs.Forgetting.{IsForgetting, forget_none, forget_got, forget_other, forget_all}
use Rattle.timestamp_node.proofs.reads.forget_reads.Goals as goal

pub loop-event-init : goal.loop-event-init
loop-event-init c = record {
  values = λ x. subst (λ (es : List Event). IsForgetting c.args.t x es (values_in cell_cmp c.args.reads.now x) (values_in cell_cmp c.args.reads.now x))
      (sym (c.into_iter-event-iterator.ensures.into_iter_gives ∙ c.own_events-event-items.ensures))
      (forget_none c.args.t x c.args.history.now.events (values_in cell_cmp c.args.reads.now x) (c.requires x));
  spare = refl;
}

pub loop-event-preserved-in-Got : goal.loop-event-preserved-in-Got
loop-event-preserved-in-Got c = record {
  values = λ x.
      let all = values_in cell_cmp c.args.reads.now x in
      let was = values_in cell_cmp c.loop-event.reads x in
      let before = subst (λ (es : List Event). IsForgetting c.args.t x es all was) c.in-Some.ensures.steps (c.loop-event.invariant.values x) in
      let got = subst (λ (e : Event). IsForgetting c.args.t x (e ∷ c.next.new.self) all was) c.in-Got.is before in
      forget_got c.args.t x c.next.new.self all was (values_in cell_cmp c.forget_last.new.reads x) c.in-Got.txn c.in-Got.cell c.in-Got.from c.in-Got.value got (c.forget_last.ensures.values x);
  spare = c.forget_last.ensures.spare ∙ c.loop-event.invariant.spare;
}

pub loop-event-preserved : goal.loop-event-preserved
loop-event-preserved c = record {
  values = λ x.
      let all = values_in cell_cmp c.args.reads.now x in
      let was = values_in cell_cmp c.loop-event.reads x in
      forget_other c.args.t x c.in-Some.event c.next.new.self all was c.in_default.not-Got
      (subst (λ (es : List Event). IsForgetting c.args.t x es all was) c.in-Some.ensures.steps (c.loop-event.invariant.values x));
  spare = c.loop-event.invariant.spare;
}

pub returns-clause-values : goal.returns-clause-values
returns-clause-values c = λ x.
    let all = values_in cell_cmp c.args.reads.now x in
    let left = values_in cell_cmp c.loop-event.reads x in
    forget_all c.args.t x all left (subst (λ (es : List Event). IsForgetting c.args.t x es all left) c.in-None.ensures.steps.0 (c.loop-event.invariant.values x))
