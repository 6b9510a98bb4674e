use Rattle.std.proofs.Common.{◌≡◌, ◌++◌, drop}
use Rattle.std.specs.List.{flat_map}
use Rattle.script_text.specs.Texts.{event_text}
use Rattle.shell_lines.proofs.sessions.put_events.Given as goal

abbrev pub invariant-loop-event : goal.invariant-loop-event
invariant-loop-event l = l.out.items ++ flat_map (event_text l.names) (drop l.event-index l.events) ≡ l.initial.out.items ++ flat_map (event_text l.names) l.events
