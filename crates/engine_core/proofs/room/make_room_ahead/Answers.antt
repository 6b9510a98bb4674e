use Rattle.std.proofs.Common.{refl}
use Rattle.store_setup.specs.Stores.{store_of}
use Rattle.engine_core.proofs.Rooms.{no_room, still_whole}
use Rattle.engine_core.proofs.room.make_room_ahead.Goals as goal

pub invariant_of-state-in-Break-branch-2 : goal.invariant_of-state-in-Break-branch-2
invariant_of-state-in-Break-branch-2 g c =
    let k = c.args.state.now in
    let w = k.whole in
    let X = store_of k.setup in
    let stand = c.reserve_each.ensures.stand X.setup k.history.events w.controls in
    record {
      whole = still_whole X k.history.events c.reserve.new.self.events k.controls.items c.reserve_each.new.controls.items (g.C.Chains.lists k.chains) (g.C.Chains.lists k.chains)
          k.book.lists k.book.lists k.cursors.cursors k.cursors.cursors k.latest w c.reserve.ensures.events stand (λ x. refl) refl refl;
      has_room = no_room _ _ _ _ _;
    }

pub invariant_of-state-in-Break-branch-3 : goal.invariant_of-state-in-Break-branch-3
invariant_of-state-in-Break-branch-3 g c =
    let k = c.args.state.now in
    let w = k.whole in
    let X = store_of k.setup in
    let stand = c.reserve_each.ensures.stand X.setup k.history.events w.controls in
    record {
      whole = still_whole X k.history.events c.reserve.new.self.events k.controls.items c.reserve_each.new.controls.items (g.C.Chains.lists k.chains) (g.C.Chains.lists k.chains)
          k.book.lists c.reserve-2.new.self.lists k.cursors.cursors k.cursors.cursors k.latest w c.reserve.ensures.events stand (λ x. refl) c.reserve-2.ensures.lists refl;
      has_room = no_room _ _ _ _ _;
    }

pub invariant_of-state-in-Break-branch-4 : goal.invariant_of-state-in-Break-branch-4
invariant_of-state-in-Break-branch-4 g c =
    let k = c.args.state.now in
    let w = k.whole in
    let X = store_of k.setup in
    let stand = c.reserve_each.ensures.stand X.setup k.history.events w.controls in
    record {
      whole = still_whole X k.history.events c.reserve.new.self.events k.controls.items c.reserve_each.new.controls.items (g.C.Chains.lists k.chains) (g.C.Chains.lists c.reserve-3.new.self)
          k.book.lists c.reserve-2.new.self.lists k.cursors.cursors k.cursors.cursors k.latest w c.reserve.ensures.events stand c.reserve-3.ensures.lists c.reserve-2.ensures.lists refl;
      has_room = no_room _ _ _ _ _;
    }

pub invariant_of-state-in-Break-branch-5 : goal.invariant_of-state-in-Break-branch-5
invariant_of-state-in-Break-branch-5 g c =
    let k = c.args.state.now in
    let w = k.whole in
    let X = store_of k.setup in
    let stand = c.reserve_each.ensures.stand X.setup k.history.events w.controls in
    record {
      whole = still_whole X k.history.events c.reserve.new.self.events k.controls.items c.reserve_each.new.controls.items (g.C.Chains.lists k.chains) (g.C.Chains.lists c.reserve-3.new.self)
          k.book.lists c.reserve-2.new.self.lists k.cursors.cursors c.reserve-4.new.self.cursors k.latest w c.reserve.ensures.events stand c.reserve-3.ensures.lists c.reserve-2.ensures.lists
          c.reserve-4.ensures.cursors;
      has_room = no_room _ _ _ _ _;
    }

pub invariant_of-state-2 : goal.invariant_of-state-2
invariant_of-state-2 g c =
    let k = c.args.state.now in
    let w = k.whole in
    let X = store_of k.setup in
    let stand = c.reserve_each.ensures.stand X.setup k.history.events w.controls in
    record {
      whole = still_whole X k.history.events c.reserve.new.self.events k.controls.items c.reserve_each.new.controls.items (g.C.Chains.lists k.chains) (g.C.Chains.lists c.reserve-3.new.self)
          k.book.lists c.reserve-2.new.self.lists k.cursors.cursors c.reserve-4.new.self.cursors k.latest w c.reserve.ensures.events stand c.reserve-3.ensures.lists c.reserve-2.ensures.lists
          c.reserve-4.ensures.cursors;
      has_room = record {
        history = c.in_ok-reserve.ensures.ok;
        controls = c.in_ok-reserve_each.ensures.room;
        book = c.in_ok-reserve-2.ensures.ok;
        versions = c.in_ok-reserve-3.ensures.room;
        cursors = c.in_ok-reserve-4.ensures.ok;
      };
    }
