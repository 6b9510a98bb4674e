use Rattle.std.proofs.Common.{All, map, refl, sym, ◌∙◌, ap, subst}
use Rattle.std.proofs.lemmas.List.Elements.{All-pop, All-push, All-weaker}
use Rattle.session_server.proofs.Numbers.{has_all}
use Rattle.session_server.specs.Passes.{IsPassOf, IsNew, number_of}
use Rattle.session_server.proofs.PutBack.{is_pass, same_numbers}
use Rattle.engine_trials.proofs.hall_trial.closed_after.Goals as goal

pub close-requires-clause-passes : goal.close-requires-clause-passes
close-requires-clause-passes g c =
    let h = c.args.hall in
    let rest = All-pop (IsNew h) _ _ _ c.pop.ensures.items c.requires.new in
    let others = All-pop (IsNew h) _ _ _ c.pop-2.ensures.items rest.0 in
    let first = All-push (IsPassOf h) _ _ (All-weaker (IsNew h) (IsPassOf h) (is_pass h) _ others.0) c.write_and_read.ensures.writer.0 in
    let both = All-push (IsPassOf h) _ _ (subst (All (IsPassOf h)) (sym c.push_reserved.ensures.items) first) c.write_and_read.ensures.reader.0 in
    subst (All (IsPassOf h)) (sym c.push_reserved-2.ensures.items) both

pub close-requires-clause-all : goal.close-requires-clause-all
close-requires-clause-all g c =
    let first = same_numbers _ _ _ _ _ _ c.pop-2.ensures.items c.in-Some-pop.is (c.write_and_read.ensures.writer.1 ∙ c.read_before.ensures.1) refl in
    let both = same_numbers _ _ _ _ _ _ c.pop.ensures.items c.in-Some.is c.write_and_read.ensures.reader.1 (ap (map number_of) c.push_reserved.ensures.items ∙ first) in
    has_all _ (ap (map number_of) c.push_reserved-2.ensures.items ∙ (both ∙ c.requires.sessions))
