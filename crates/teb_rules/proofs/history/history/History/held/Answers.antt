use Rattle.std.proofs.Common.{◌∙◌, find, ap}
use Rattle.teb_rules.specs.history.Live.{is_begun_by, live_txns}
use Rattle.teb_rules.specs.history.Written.{Written}
use Rattle.teb_rules.proofs.lemmas.history.Held.{held-live}
use Rattle.teb_rules.proofs.history.history.History.held.Goals as goal

pub loop-t-init : goal.loop-t-init
loop-t-init c =
    ap (find (is_begun_by c.args.self.now.events c.args.s.0)) (c.deref-t-items.ensures.value ∙ c.self.invariant.kept.live ∙ ap (λ (w : Written). live_txns w.events) c.self.view_is)
    ∙ held-live c.args.self.now.events c.args.s
