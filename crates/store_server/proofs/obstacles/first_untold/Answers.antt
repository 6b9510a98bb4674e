use Rattle.std.proofs.Common.{◌≤◌, List, arith, subst, sym}
use Rattle.teb_rules.specs.declared.history.Event.{Event}
use Rattle.teb_rules.specs.Epochs.{IsUntold}
use Rattle.tree_switch.proofs.Refusing.{are_of_sessions}
use Rattle.store_server.proofs.obstacles.first_untold.Goals as goal

pub returns : goal.returns
returns c = λ s u.
    let e = c.history-history.ensures in
    let range = are_of_sessions c.args.engine.now.store.setup c.args.engine.now.events e.lawful s u in
    let low : s ≤ c.loop-i.i = omega (arith, range.1) in
    c.loop-i.invariant s range.0 low (subst (λ (H : List Event). IsUntold H s) (sym e.events) u)
