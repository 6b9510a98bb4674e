use Rattle.std.proofs.Common.{◌≡◌, ◌<◌, ◌-◌, ◌+◌, suc, ap, sym, subst, ◌∙◌, arith, length, true, false, IsSome}
use Rattle.teb_rules.specs.declared.names.Txn.{Txn}
use Rattle.chain_pool.specs.Threads.{steps}
use Rattle.chain_pool.specs.Places.{previous_at, slot_at, pair_at}
use Rattle.chain_pool.proofs.Sizes.{used_within}
use Rattle.chain_pool.proofs.walks.last_accepted.Goals as goal

pub pair_at-value-requires : goal.pair_at-value-requires
pair_at-value-requires g c =
    subst (λ p. IsSome (slot_at c.args.places.now p).version) (sym (c.loop-above.invariant.place (omega (arith, c.loop-above-test.true, c.saturating_sub-above-end.ensures))))
    (c.requires.walk.used (suc c.loop-above.above) (omega (arith, c.loop-above-test.true, c.saturating_sub-above-end.ensures)))

pub at-requires : goal.at-requires
at-requires g c =
    let lt : c.loop-above.above < c.args.chain.head.len = omega (arith, c.loop-above-test.true, c.saturating_sub-above-end.ensures) in
    used_within c.args.places.now _ (subst (λ p. IsSome (slot_at c.args.places.now p).version)
    (sym (c.loop-above.invariant.place (omega (arith, lt)))) (c.requires.walk.used (suc c.loop-above.above) (omega (arith, lt))))

pub accepts-requires : goal.accepts-requires
accepts-requires g c =
    let ps = c.args.places.now in
    let j = c.args.chain.head.len - 1 - c.loop-above.above in
    let lt : j < c.args.chain.head.len = omega (arith, c.loop-above-test.true, c.saturating_sub-above-end.ensures) in
    let n : c.args.chain.head.len - j ≡ suc c.loop-above.above = omega (arith, c.loop-above-test.true, c.saturating_sub-above-end.ensures) in
    let same = c.pair_at-value.ensures ∙ ap (pair_at ps) (c.loop-above.invariant.place (omega (arith, c.loop-above-test.true, c.saturating_sub-above-end.ensures))) in
    subst (λ (u : Txn). g.F.Fn.pre c.args.f.now (u, tt)) (ap (λ k. (pair_at ps (steps (previous_at ps) k c.args.chain.head.first)).0) n ∙ sym (ap (λ v. v.0) same)) (c.requires.callable j lt)

pub returns-then-accepts-clause-found : goal.returns-then-accepts-clause-found
returns-then-accepts-clause-found g c =
    let ps = c.args.places.now in
    let j = c.args.chain.head.len - 1 - c.loop-above.above in
    let lt : j < c.args.chain.head.len = omega (arith, c.loop-above-test.true, c.saturating_sub-above-end.ensures) in
    let n : c.args.chain.head.len - j ≡ suc c.loop-above.above = omega (arith, c.loop-above-test.true, c.saturating_sub-above-end.ensures) in
    let same = c.pair_at-value.ensures ∙ ap (pair_at ps) (c.loop-above.invariant.place (omega (arith, c.loop-above-test.true, c.saturating_sub-above-end.ensures))) in (
      omega (arith, c.loop-above-test.true, c.saturating_sub-above-end.ensures),
      lt,
      subst (λ (u : Txn). g.F.Fn.post c.args.f.now (u, tt) true) (ap (λ v. v.0) same ∙ sym (ap (λ k. (pair_at ps (steps (previous_at ps) k c.args.chain.head.first)).0) n)) c.if-accepts.ensures,
      λ k above low.
          let m : c.args.chain.head.len - 1 - k + 1 ≡ c.args.chain.head.len - k = omega (arith, low) in
          subst (λ i. g.F.Fn.post c.args.f.now ((pair_at ps (steps (previous_at ps) i c.args.chain.head.first)).0, tt) false) m
          (c.loop-above.invariant.refused (c.args.chain.head.len - 1 - k) (omega (arith, above, low, c.loop-above-test.true))),
    )

pub returns-then-accepts-clause-version : goal.returns-then-accepts-clause-version
returns-then-accepts-clause-version g c =
    let ps = c.args.places.now in
    let n : c.args.chain.head.len - (c.args.chain.head.len - 1 - c.loop-above.above) ≡ suc c.loop-above.above = omega (arith, c.loop-above-test.true, c.saturating_sub-above-end.ensures) in
    let same = c.pair_at-value.ensures ∙ ap (pair_at ps) (c.loop-above.invariant.place (omega (arith, c.loop-above-test.true, c.saturating_sub-above-end.ensures))) in
    ap (λ k. pair_at ps (steps (previous_at ps) k c.args.chain.head.first)) n ∙ sym same

pub returns-clause-found : goal.returns-clause-found
returns-clause-found g c k above low =
    let ps = c.args.places.now in
    let m : c.args.chain.head.len - 1 - k + 1 ≡ c.args.chain.head.len - k = omega (arith, low) in
    subst (λ i. g.F.Fn.post c.args.f.now ((pair_at ps (steps (previous_at ps) i c.args.chain.head.first)).0, tt) false) m
    (c.loop-above.invariant.refused (c.args.chain.head.len - 1 - k) (omega (arith, above, low, c.loop-above-test.false, c.saturating_sub-above-end.ensures)))
