use Rattle.std.proofs.Common.{◌≡◌, ◌∙◌, ℕ, suc, ◌+◌, add-one, length, get_or, refl, sym, arith}
use Rattle.teb_rules.specs.Tree.{below}
use Rattle.static_steps.specs.Squares.{is_ahead, ahead_in}
use Rattle.static_steps.proofs.LongestChains.{longest_takes, longest_keeps, nat_max}
use Rattle.static_steps.proofs.chains.longest_to.Goals as goal
use Rattle.static_steps.proofs.chains.longest_to.Goals.{then-is_ahead, else-is_ahead}

pub loop-a-init : goal.loop-a-init
unfolding below
loop-a-init c = refl

pub loop-a-preserved : goal.loop-a-preserved
loop-a-preserved c =
    let p = is_ahead c.args.rows.now c.args.b in
    elim c.if-is_ahead.branch [
      | then-is_ahead w ↦ (
          let f : ℕ → ℕ = λ a. suc (get_or c.args.chains.now a 0) in
          let more = longest_takes p f c.loop-a.a (sym c.is_ahead.ensures ∙ w.if-is_ahead.true) in
          let greater = nat_max c.loop-a.longest (get_or c.args.chains.now w.from.result 0 + 1) in
          let read : get_or c.args.chains.now w.from.result 0 + 1 ≡ f c.loop-a.a = rw (w.from.ensures, add-one) refl in
          w.longest-is ∙ w.max-longest.ensures ∙ greater ∙ rw (c.loop-a.invariant, read) (sym more))
      | else-is_ahead w ↦ w.longest-is ∙ c.loop-a.invariant ∙ sym (longest_keeps p (λ a. suc (get_or c.args.chains.now a 0)) c.loop-a.a (sym c.is_ahead.ensures ∙ w.if-is_ahead.false))
    ]

pub returns : goal.returns
unfolding ahead_in
returns c = let end : c.loop-a.a ≡ length c.args.rows.now = omega arith in rw end at c.loop-a.invariant
