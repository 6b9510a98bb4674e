use Rattle.std.proofs.Common.{List, subst, sym, ◌∙◌, ap}
use Rattle.teb_rules.specs.declared.history.Event.{Event}
use Rattle.teb_rules.specs.history.Live.{live_txns}
use Rattle.shared_store.specs.Served.{HasUnfinished}
use Rattle.store_server.proofs.Unfinished.{all_finished, any_unfinished, some_unfinished}
use Rattle.store_server.proofs.obstacles.obstacle_in.Goals as goal

pub returns-then-is_any_unfinished : goal.returns-then-is_any_unfinished
returns-then-is_any_unfinished c =
    let H = c.history.result.now.events in
    subst HasUnfinished c.history.ensures.events (some_unfinished H (live_txns H) (sym c.is_any_unfinished.ensures ∙ c.if-is_any_unfinished.true))

pub returns-in-Some : goal.returns-in-Some
returns-in-Some c =
    let none = ap (λ (H : List Event). any_unfinished H (live_txns H)) (sym c.history.ensures.events) ∙ (sym c.is_any_unfinished.ensures ∙ c.if-is_any_unfinished.false) in
    (all_finished c.args.engine.now.events none, c.in-Some.ensures)

pub returns-in-None : goal.returns-in-None
returns-in-None c =
    let none = ap (λ (H : List Event). any_unfinished H (live_txns H)) (sym c.history.ensures.events) ∙ (sym c.is_any_unfinished.ensures ∙ c.if-is_any_unfinished.false) in
    record { finished = all_finished c.args.engine.now.events none; told = c.in-None.ensures }
