use Rattle.std.proofs.Common.{sym}
use Rattle.script_walk.proofs.ScriptStates.{asks_line}
use Rattle.script_walk.proofs.walker.Walker.next.Goals as goal

pub returns-then-self-lines : goal.returns-then-self-lines
returns-then-self-lines c = sym (asks_line c.args.lines.now c.args.self.now.at c.args.self.now.begun _ c.if-self-lines.true)
