use Rattle.std.proofs.Common.{◌≡◌, ◌≤◌, length, take, filter}
use Rattle.commit_laws.specs.Records.{is_newest}
use Rattle.commit_journal.proofs.commit.record_of.Given as goal

abbrev pub invariant-loop-change : goal.invariant-loop-change
invariant-loop-change g l = record {
  chosen : l.changes.items ≡ filter (λ c. is_newest l.fn.engine.store.setup l.fn.engine.events l.fn.t.0 c.cell) (take l.change-index l.fn.puts);
  few : length l.changes.items ≤ l.change-index;
}
