use Rattle.commit_laws.specs.Records.{puts_of}
use Rattle.commit_journal.specs.Kept.{AreCells}
use Rattle.commit_journal.proofs.Puts.{AreSoFar}
use Rattle.commit_journal.proofs.commit.puts_of.Given as goal

abbrev pub invariant-loop-event : goal.invariant-loop-event
invariant-loop-event l = record {
  cells : AreCells l.cells l.puts.items;
  puts : AreSoFar (puts_of l.fn.history.events l.fn.t.0) l.event-iterator l.puts.items;
}
