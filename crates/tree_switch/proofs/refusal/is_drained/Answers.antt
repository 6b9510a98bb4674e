use Rattle.std.proofs.Common.{◌≡◌, ◌==◌, length, rules}
use Rattle.teb_rules.specs.history.Live.{live_txns}
use Rattle.tree_switch.proofs.Draining.{drained_is}
use Rattle.tree_switch.proofs.refusal.is_drained.Goals as goal

pub returns : goal.returns
returns g c =
    let e = c.args.engine.now in
    let is : c.is_empty.result ≡ (length (live_txns e.events) == 0) = search rules in
    drained_is e.store.setup e.events (c.history.ensures.lawful) c.is_empty.result is
