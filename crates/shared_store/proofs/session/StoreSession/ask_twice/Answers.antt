use Rattle.std.proofs.Common.{◌∙◌, ap}
use Rattle.turn_lock.specs.Seats.{view_of}
use Rattle.shared_store.specs.Sharing.{base_of}
use Rattle.shared_store.proofs.Gains.{free_from, free_on, sees_drained, sees_from, sees_on}
use Rattle.shared_store.proofs.session.StoreSession.ask_twice.Goals as goal

pub returns-clause-sees : goal.returns-clause-sees
returns-clause-sees g c =
    let b = base_of c.args.store.now in
    let s = c.args.self.now.session in
    let q = c.args.request in
    let first = c.ask_once-first.new.self in
    let mid = c.end_epoch.new.self in
    let u = view_of c.args.self.now.seat in
    let v = view_of first.seat in
    let w = view_of c.ask_once.new.self.seat in
    let t = c.end_epoch.ensures.same in
    sees_on b s u v w (sees_drained b s q u v c.ask_once-first.result c.ask_once-first.ensures.sees c.in-Drained.is) q c.ask_once.result
    (sees_from b mid.session s q c.ask_once.result (view_of mid.seat) v w (t.0 ∙ c.ask_once-first.ensures.same.0) (ap view_of t.2) c.ask_once.ensures.sees)

pub returns-clause-put_off : goal.returns-clause-put_off
returns-clause-put_off g c late =
    let b = base_of c.args.store.now in
    let s = c.args.self.now.session in
    let first = c.ask_once-first.new.self in
    let mid = c.end_epoch.new.self in
    let u = view_of c.args.self.now.seat in
    let v = view_of first.seat in
    let w = view_of c.ask_once.new.self.seat in
    let t = c.end_epoch.ensures.same in
    let put_off = c.ask_once.ensures.put_off late in (
      put_off.0,
      free_on b s u v w (sees_drained b s c.args.request u v c.ask_once-first.result c.ask_once-first.ensures.sees c.in-Drained.is)
          (free_from b mid.session s (view_of mid.seat) v w (t.0 ∙ c.ask_once-first.ensures.same.0) (ap view_of t.2) put_off.1),
    )
