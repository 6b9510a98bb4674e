use Rattle.std.proofs.Common.{ℕ, subst, arith}
use Rattle.std.proofs.lemmas.List.{get_or_default}
use Rattle.std.proofs.lemmas.List.Elements.{AllWithin-more}
use Rattle.script_text.specs.Ranges.{EventInRange}
use Rattle.script_text.specs.Texts.{event_text}
use Rattle.printed_run.proofs.Written.{written_more}
use Rattle.printed_run.proofs.printing.put_events.Goals as goal

pub loop-event-preserved : goal.loop-event-preserved
loop-event-preserved c =
    let here : ℕ = c.loop-event.event-index in
    record {
      rest = written_more (event_text c.args.names.now) c.args.events.now here _ _ _ _ c.loop-event-test.true c.in_ok-put_event.ensures.ok c.loop-event.invariant.rest;
      in_range = λ k d low. AllWithin-more EventInRange c.args.events.now 0 here (λ j e z below. c.loop-event.invariant.in_range j e below)
          (λ e. subst EventInRange (get_or_default c.args.events.now here _ e c.loop-event-test.true) c.put_event.ensures.in_range) k d (omega arith) low;
    }
