use Rattle.std.proofs.Common.{◌∙◌, sym, is_some, rules, tests}
use Rattle.std.proofs.lemmas.Iterator.Consumers.{YieldsList-from_first}
use Rattle.std.proofs.lemmas.Iterator.Search.{any_from_yields_List}
use Rattle.teb_rules.specs.history.OwnEvents.{put_in}
use Rattle.teb_rules.proofs.lemmas.history.OwnWalks.{wrote_own}
use Rattle.teb_rules.proofs.history.history.History.wrote.Goals as goal

pub returns : goal.returns
returns c =
    any_from_yields_List (λ e. is_some (put_in c.args.cell e)) _ _ _ c.any.ensures.ran (YieldsList-from_first (λ e. e) (λ left. left) _ c.own_events.ensures) (λ x b q k. search (rules, tests))
    ∙ sym (wrote_own c.args.self.now.events c.args.t.0 c.args.cell)
