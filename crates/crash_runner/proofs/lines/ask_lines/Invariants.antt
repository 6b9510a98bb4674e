use Rattle.std.proofs.Common.{◌≡◌, ◌≤◌, ◌+◌, take}
use Rattle.commit_journal.specs.Kept.{IsSameStore}
use Rattle.script_runner.specs.replay.Logs.{requests_of}
use Rattle.crash_runner.specs.Underway.{IsUnderway, HasAsked, effects}
use Rattle.crash_runner.proofs.lines.ask_lines.Given as goal

abbrev pub invariant-loop-line : goal.invariant-loop-line
invariant-loop-line g l = record {
  store : IsSameStore l.fn.durable l.durable;
  capacity : g.D.Disk.capacity l.durable.disk ≡ g.D.Disk.capacity l.fn.durable.disk;
  underway : IsUnderway (g.D.Disk.tally l.fn.durable.disk).promise g.D.Disk.tally g.D.Disk.safe l.durable l.log.items;
  asked : HasAsked l.fn.durable.store (requests_of (take l.line-index l.lines)) l.fn.log.items l.fn.durable.events l.log.items l.durable.events;
  few : effects l.durable.events ≤ l.line-index + effects l.fn.durable.events;
}
