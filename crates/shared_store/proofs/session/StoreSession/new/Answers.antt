use Rattle.turn_lock.specs.Seats.{view_of}
use Rattle.shared_store.proofs.Dealing.{fresh_knows, fresh_knows_log}
use Rattle.shared_store.proofs.session.StoreSession.new.Goals as goal

pub invariant_of-result : goal.invariant_of-result
invariant_of-result g c = record {
  outside = c.requires.outside.0;
  log_outside = c.requires.outside.1;
  knows = fresh_knows c.args.session.0 (view_of c.args.seat) c.requires.fresh;
  knows_log = fresh_knows_log c.args.session.0 (view_of c.args.log_seat) c.requires.fresh_log;
}
