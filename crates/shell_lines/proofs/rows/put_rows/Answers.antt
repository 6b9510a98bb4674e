use Rattle.shell_lines.proofs.Lists.{asked_named}
use Rattle.shell_lines.proofs.rows.put_rows.Goals as goal

pub put_each-requires : goal.put_each-requires
put_each-requires c = asked_named c.args.names.now c.args.range c.args.rows.now c.in_ok-asked.asked.items c.deref.result.now c.first_of.result.now c.in_ok-asked.ensures c.deref.ensures.value
    c.first_of.ensures c.requires
