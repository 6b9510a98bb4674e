use Rattle.std.proofs.Common.{◌≡◌, ◌∙◌, ap, length, arith}
use Rattle.std.proofs.lemmas.List.{get_or-replicate, length-replicate}
use Rattle.static_steps.specs.Squares.{longest_in}
use Rattle.static_steps.proofs.LongestChains.{longest_in-le, longest_more}
use Rattle.static_steps.proofs.Written.{written_back}
use Rattle.static_steps.proofs.chains.longest_chains.Goals as goal

pub loop-links-init : goal.loop-links-init
unfolding longest_in
loop-links-init c =
    let chains = c.in_ok-chains.ensures.items_if_clones_equal (λ y e. e) in
    let longer = c.in_ok-longer.ensures.items_if_clones_equal (λ y e. e) in
    rw (chains, longer) (length-replicate (length c.args.rows.now) 0, length-replicate (length c.args.rows.now) 0, λ b lt. get_or-replicate (length c.args.rows.now) b 0 0 lt)

pub lengthen-requires-clause-short : goal.lengthen-requires-clause-short
lengthen-requires-clause-short c = λ b lt. let short = longest_in-le c.args.rows.now c.loop-links._links b in rw (c.deref.ensures.value, c.loop-links.invariant.2 b lt) (omega arith)

pub loop-links-preserved : goal.loop-links-preserved
loop-links-preserved c =
    let long : length c.lengthen.new.longer ≡ length c.loop-links.longer.items = c.lengthen.auto.longer ∙ ap length c.deref_mut.ensures.value in
    let back = written_back c.loop-links.longer.len c.lengthen.new.longer c.loop-links.longer.items long (omega (arith, c.loop-links.longer.ok.0)) in
    rw (c.swap.ensures.x_after, c.swap.ensures.y_after, back) (
      long ∙ c.loop-links.invariant.1,
      c.loop-links.invariant.0,
      λ b lt. c.lengthen.ensures b lt ∙ longest_more c.args.rows.now c.deref.result.now c.loop-links._links b (λ a within. rw c.deref.ensures.value (c.loop-links.invariant.2 a within)),
    )
