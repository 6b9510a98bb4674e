use Rattle.turn_lock.specs.Seats.{view_of}
use Rattle.shared_store.proofs.Settling.{looks, takes_log}
use Rattle.shared_store.proofs.session.StoreSession.settle.Goals as goal

pub returns-clause-turn : goal.returns-clause-turn
returns-clause-turn g c =
    takes_log c.args.self.now.session.0 (view_of c.args.self.now.log_seat) (view_of c.enter-keeper.new.seat) c.enter-keeper.result c.write_out.new.self (view_of c.leave.new.seat) record {
      owner = c.args.self.now.knows_log.owner;
      follows = c.enter-keeper.ensures.follows;
      enters = c.enter-keeper.ensures.enters;
      tells = c.write_out.ensures.tells;
      place = c.write_out.ensures.place;
    } c.leave.ensures.view

pub returns-clause-looked : goal.returns-clause-looked
returns-clause-looked g c =
    looks c.args.self.now.session.0 (view_of c.args.self.now.log_seat) (view_of c.enter-keeper.new.seat) c.enter-keeper.result c.write_out.new.self (view_of c.leave.new.seat) record {
      owner = c.args.self.now.knows_log.owner;
      follows = c.enter-keeper.ensures.follows;
      enters = c.enter-keeper.ensures.enters;
      tells = c.write_out.ensures.tells;
      place = c.write_out.ensures.place;
    } c.leave.ensures.view
