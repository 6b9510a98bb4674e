use Rattle.std.proofs.Common.{◌≡◌, take, length}
use Rattle.audit_check.specs.Keeps.{Replays}
use Rattle.audit_check.proofs.reads.replayed.Given as goal

abbrev pub invariant-loop-txn : goal.invariant-loop-txn
invariant-loop-txn l = record {
  all : length l.replay.wrong.items ≡ length l.lines;
  replays : Replays (take l.txn-index l.txn-items) l.lines l.replay.table.values.entries l.replay.wrong.items;
}
