use Rattle.shell_lines.proofs.Lists.{own_named}
use Rattle.shell_lines.proofs.sessions.put_done.Goals as goal

pub put_events-requires : goal.put_events-requires
put_events-requires c = own_named c.args.names.now c.args.history.now.events c.args.txn.0 c.in_ok-own.own.items c.deref.result.now c.in_ok-own.ensures c.deref.ensures.value c.requires
