use Rattle.std.proofs.Common.{sym, arith}
use lib.Count.{count_trailing_zeros}
use Rattle.std.proofs.lemmas.List.{length-take-le}
use Rattle.script_text.proofs.FrontSteps.{near_feed, near_within, stripped_front}
use Rattle.script_text.proofs.script.fronts.near_front.Goals as goal

pub slice_bounds-without_return-end : goal.slice_bounds-without_return-end
slice_bounds-without_return-end c =
    let near = near_within c.args.text.now _ (omega arith) c.feeds_of-feeds.ensures c.if-feeds-eq0.false in
    sym (length-take-le _ c.args.text.now (omega (arith, near)))

pub with_mask-requires-else-feeds-eq0-clause-short : goal.with_mask-requires-else-feeds-eq0-clause-short
with_mask-requires-else-feeds-eq0-clause-short c =
    let near = near_within c.args.text.now _ (omega arith) c.feeds_of-feeds.ensures c.if-feeds-eq0.false in
    omega (arith, near, (stripped_front c.args.text.now _ (count_trailing_zeros 64 c.feeds_of-feeds.result) (omega (arith, near)) c.without_return.ensures).1)

pub with_mask-requires-else-feeds-eq0-clause-front : goal.with_mask-requires-else-feeds-eq0-clause-front
with_mask-requires-else-feeds-eq0-clause-front c =
    let near = near_within c.args.text.now _ (omega arith) c.feeds_of-feeds.ensures c.if-feeds-eq0.false in
    (stripped_front c.args.text.now _ (count_trailing_zeros 64 c.feeds_of-feeds.result) (omega (arith, near)) c.without_return.ensures).0

pub returns-else-feeds-eq0-clause-end : goal.returns-else-feeds-eq0-clause-end
returns-else-feeds-eq0-clause-end c = near_feed c.args.text.now _ (omega arith) c.feeds_of-feeds.ensures c.if-feeds-eq0.false

pub returns-else-feeds-eq0-clause-within : goal.returns-else-feeds-eq0-clause-within
returns-else-feeds-eq0-clause-within c = omega (arith, near_within c.args.text.now _ (omega arith) c.feeds_of-feeds.ensures c.if-feeds-eq0.false)
