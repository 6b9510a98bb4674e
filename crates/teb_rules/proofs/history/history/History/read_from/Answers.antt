use Rattle.std.proofs.Common.{◌∙◌, ◌&&◌, sym, ap, rules, tests}
use Rattle.std.specs.List.{list_any}
use Rattle.std.proofs.lemmas.Iterator.Consumers.{YieldsList-from_first}
use Rattle.std.proofs.lemmas.Iterator.Search.{any_from_yields_List}
use Rattle.teb_rules.specs.history.OwnEvents.{own_events, gets_from}
use Rattle.teb_rules.proofs.lemmas.history.OwnWalks.{read_from_own}
use Rattle.teb_rules.proofs.history.history.History.read_from.Goals as goal

pub returns-then-ne : goal.returns-then-ne
returns-then-ne c =
    any_from_yields_List (gets_from c.args.u.0) _ _ _ c.any.ensures.ran (YieldsList-from_first (λ e. e) (λ left. left) _ c.own_events.ensures) (λ x b q k. search (rules, tests))
    ∙ ap (λ b. b && list_any (gets_from c.args.u.0) (own_events c.args.self.now.events c.args.t.0)) (sym c.if-ne.true ∙ c.ne.ensures)
    ∙ sym (read_from_own c.args.self.now.events c.args.t.0 c.args.u.0)
