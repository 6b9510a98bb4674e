use Rattle.std.proofs.Common.{◌≡◌, suc, ◌++◌, ◌-◌}
use Rattle.script_runner.specs.replay.Holders.{holders_from}
use Rattle.script_runner.proofs.replay.ends.holding_sessions.Given as goal
use Rattle.teb_rules.specs.declared.names.TheConstants.{SESSIONS}

abbrev pub invariant-loop-s : goal.invariant-loop-s
invariant-loop-s l = l.holders.items ++ holders_from (suc SESSIONS - l.s) l.s l.history.events ≡ holders_from SESSIONS 1 l.history.events
