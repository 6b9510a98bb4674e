use Rattle.std.proofs.Common.{◌≡◌, drop, find}
use Rattle.teb_rules.specs.history.Live.{is_begun_by}
use Rattle.teb_rules.specs.history.Written.{held_txn}
use Rattle.teb_rules.proofs.history.history.History.held.Given as goal

abbrev pub invariant-loop-t : goal.invariant-loop-t
invariant-loop-t l = find (is_begun_by l.self.events l.s.0) (drop l.t-index l.t-items) ≡ held_txn l.self.events l.s
