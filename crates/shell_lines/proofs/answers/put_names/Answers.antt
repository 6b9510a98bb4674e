use Rattle.shell_lines.proofs.Lists.{names_more}
use Rattle.shell_lines.proofs.answers.put_names.Goals as goal

pub loop-i-preserved : goal.loop-i-preserved
loop-i-preserved c = names_more c.args.word.now c.args.names.now c.loop-i.i c.name.result.now c.loop-i.out.items c.put_line.new.out.items _ c.name.ensures.name c.in_ok-put_line.ensures
    c.loop-i.invariant
