use Rattle.std.proofs.Common.{All, map, refl, sym, ◌∙◌, ap, subst}
use Rattle.std.proofs.lemmas.List.Elements.{All-pop, All-push, All-weaker}
use Rattle.session_server.proofs.Numbers.{has_all}
use Rattle.session_server.specs.Passes.{IsPassOf, IsNew, number_of}
use Rattle.session_server.proofs.PutBack.{is_pass, same_numbers}
use Rattle.hall_trials.proofs.stopping.history_after.Goals as goal

pub close-engine-requires-clause-passes : goal.close-engine-requires-clause-passes
close-engine-requires-clause-passes g c =
    let h = c.args.hall in
    let rest = All-pop (IsNew h) _ _ _ c.pop.ensures.items c.requires.new in
    let all = All-push (IsPassOf h) _ _ (All-weaker (IsNew h) (IsPassOf h) (is_pass h) _ rest.0) c.stop_and_go_on.ensures.0 in
    subst (All (IsPassOf h)) (sym c.push_reserved.ensures.items) all

pub close-engine-requires-clause-all : goal.close-engine-requires-clause-all
close-engine-requires-clause-all g c =
    let same = same_numbers _ _ _ _ _ _ c.pop.ensures.items c.expect-pass.ensures c.stop_and_go_on.ensures.1 refl in
    has_all _ (ap (map number_of) c.push_reserved.ensures.items ∙ (same ∙ c.requires.sessions))
