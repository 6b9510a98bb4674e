use Rattle.std.proofs.Common.{suc, append_assoc}
use Rattle.std.proofs.lemmas.List.{append-nil}
use Rattle.script_runner.proofs.lemmas.replay.Holders.{holders_at, holders_done}
use Rattle.script_runner.proofs.replay.ends.holding_sessions.Goals as goal
use Rattle.teb_rules.specs.declared.names.TheConstants.{SESSIONS}

pub loop-s-preserved : goal.loop-s-preserved
loop-s-preserved c = rw (c.in_ok-add_holder.ensures, append_assoc, ← holders_at (suc SESSIONS) c.loop-s.s c.args.history.now.events c.loop-s-test.true) c.loop-s.invariant

pub returns : goal.returns
returns c = rw (holders_done (suc SESSIONS) c.loop-s.s c.args.history.now.events c.loop-s-test.false, append-nil) at c.loop-s.invariant
