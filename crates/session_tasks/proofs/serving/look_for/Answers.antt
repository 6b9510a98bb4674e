use Rattle.std.proofs.Common.{◌≡◌, ℕ, ◌+◌, ◌-◌, List, ◌∷◌, ◌∙◌, ap, refl, arith}
use Rattle.std.proofs.lemmas.List.Elements.{All-cons}
use Rattle.teb_rules.specs.declared.names.Outcome.{Outcome}
use Rattle.finish_board.specs.declared.answer.Poll.{Poll}
use Rattle.finish_board.specs.declared.answer.Poll.TheVariants.{Finished, Unfinished}
use Rattle.session_tasks.specs.Looks.{LookedInVain}
use Rattle.session_tasks.proofs.serving.look_for.Goals as goal

unfinished : (r : Poll) → ((o : Outcome) → r ≡ Finished o → ⊥) → r ≡ Unfinished
unfinished Unfinished h = refl
unfinished (Finished o) h = absurd (h o refl)

one_more : (t n : ℕ) (before now after : List (ℕ × ℕ)) → LookedInVain t n before now → after ≡ (t - 1, 0) ∷ now → LookedInVain t (n + 1) before after
one_more t n before now after v e = record {
  looks = (t - 1, 0) ∷ v.looks;
  count = omega (arith, v.count);
  each = All-cons (λ (look : ℕ × ℕ). look ≡ (t - 1, 0)) (t - 1, 0) v.looks refl v.each;
  added = e ∙ ap (λ (ls : List (ℕ × ℕ)). (t - 1, 0) ∷ ls) v.added;
}

pub loop-preserved : goal.loop-preserved
loop-preserved g c =
    let i = c.loop.invariant in
    let p = c.poll.ensures.pass in
    (p.0, p.1 ∙ i.1, p.2 ∙ i.2, p.3 ∙ i.3, one_more _ _ _ _ _ i.4 (c.poll.ensures.unfinished (unfinished c.poll.result c.in_default.not-Finished)))
