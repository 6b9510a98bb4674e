use Rattle.std.proofs.Common.{◌≡◌, ◌++◌, ◌<◌, ℕ, drop, get_or}
use Rattle.std.specs.List.{flat_map}
use Rattle.teb_rules.specs.declared.history.Event.{Event}
use Rattle.script_text.specs.Ranges.{EventInRange}
use Rattle.script_text.specs.Texts.{event_text}
use Rattle.printed_run.proofs.printing.put_events.Given as goal

abbrev pub invariant-loop-event : goal.invariant-loop-event
invariant-loop-event l = record {
  rest : l.out.items ++ flat_map (event_text l.names) (drop l.event-index l.events) ≡ l.fn.out.items ++ flat_map (event_text l.names) l.events;
  in_range : (k : ℕ) (d : Event) → k < l.event-index → EventInRange (get_or l.events k d);
}
