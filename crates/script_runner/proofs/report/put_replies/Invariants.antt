use Rattle.std.proofs.Common.{◌≡◌, ◌++◌, drop}
use Rattle.std.specs.List.{flat_map}
use Rattle.script_text.specs.Texts.{reply_text}
use Rattle.script_runner.proofs.report.put_replies.Given as goal

abbrev pub invariant-loop-answered : goal.invariant-loop-answered
invariant-loop-answered l = l.out.items ++ flat_map (reply_text l.names) (drop l.answered-index l.log) ≡ l.fn.out.items ++ flat_map (reply_text l.names) l.log
