use Rattle.std.proofs.Common.{◌≡◌, List, sym, subst, rules}
use Rattle.teb_rules.specs.declared.history.Event.{Event}
use Rattle.teb_rules.specs.history.OwnEvents.{own_events}
use Rattle.record_journal.specs.Format.{Record}
use Rattle.commit_laws.specs.Records.{puts_of}
use Rattle.commit_journal.specs.Kept.{AreCells}
use Rattle.commit_journal.proofs.Puts.{AreSoFar, none_so_far, all_found, one_event, no_cells}
use Rattle.commit_journal.proofs.commit.puts_of.Goals as goal

pub loop-event-init : goal.loop-event-init
loop-event-init c =
    let all = puts_of c.args.history.now.events c.args.t.0 in
    let items : c.into_iter-event-iterator.result ≡ own_events c.args.history.now.events c.args.t.0 = search rules in
    record {
      cells = subst (AreCells c.new-cells.result) (sym c.new-puts.ensures.items) (no_cells c.new-cells.result (search rules));
      puts = subst (λ (es : List Event). AreSoFar all es c.new-puts.result.items) (sym items)
          (subst (λ (cs : Record). AreSoFar all (own_events c.args.history.now.events c.args.t.0) cs) (sym c.new-puts.ensures.items) (none_so_far (own_events c.args.history.now.events c.args.t.0)));
    }

pub loop-event-preserved : goal.loop-event-preserved
loop-event-preserved c = record {
  cells = c.in_ok-add_event.ensures.cells;
  puts = one_event _ c.loop-event.puts.items c.add_event.new.puts.items c.loop-event.event-iterator c.next.new.self c.in-Some.event c.loop-event.invariant.puts c.in-Some.ensures.steps
      c.in_ok-add_event.ensures.puts;
}

pub returns : goal.returns
returns c = sym (all_found _ c.loop-event.puts.items
    (subst (λ (es : List Event). AreSoFar (puts_of c.args.history.now.events c.args.t.0) es c.loop-event.puts.items) c.in-None.ensures.steps.0 c.loop-event.invariant.puts))
