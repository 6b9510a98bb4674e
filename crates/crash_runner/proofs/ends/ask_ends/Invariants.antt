use Rattle.std.proofs.Common.{◌≡◌, ◌≤◌, map, take}
use Rattle.script_text.specs.declared.input.TheConstants.{MOST_LINES}
use Rattle.commit_journal.specs.Kept.{IsSameStore}
use Rattle.script_runner.specs.replay.Holders.{end_of}
use Rattle.crash_runner.specs.Underway.{IsUnderway, HasAsked, effects}
use Rattle.crash_runner.proofs.ends.ask_ends.Given as goal

abbrev pub invariant-loop-session : goal.invariant-loop-session
invariant-loop-session g l = record {
  store : IsSameStore l.fn.durable l.durable;
  capacity : g.D.Disk.capacity l.durable.disk ≡ g.D.Disk.capacity l.fn.durable.disk;
  underway : IsUnderway (g.D.Disk.tally l.fn.durable.disk).promise g.D.Disk.tally g.D.Disk.safe l.durable l.log.items;
  asked : HasAsked l.fn.durable.store (map end_of (take l.session-index l.holders)) l.fn.log.items l.fn.durable.events l.log.items l.durable.events;
  few : effects l.durable.events ≤ MOST_LINES;
}
