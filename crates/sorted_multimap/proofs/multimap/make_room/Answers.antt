use Rattle.std.proofs.Common.{subst, arith}
use Rattle.sorted_multimap.specs.Buckets.{IsKept}
use Rattle.sorted_multimap.proofs.SpreadEntries.{made_none, made_more, kept_at}
use Rattle.sorted_multimap.proofs.multimap.make_room.Goals as goal

pub loop-i-init : goal.loop-i-init
loop-i-init g c = made_none g.K.Ord.cmp _ _

pub loop-i-preserved : goal.loop-i-preserved
loop-i-preserved g c =
    let R = g.K.Ord.cmp in
    made_more R _ _ c.loop-i.i c.args.room c.reserve.new.self c.index_mut.result.now c.loop-i.invariant (omega (arith, c.loop-i.invariant.kept.len, c.len-i-end.ensures))
    (subst (λ b. IsKept R b c.reserve.new.self) c.index_mut.ensures.value c.reserve.ensures.kept) c.in_ok-reserve.ensures.room

pub returns-in_err-reserve-clause-kept : goal.returns-in_err-reserve-clause-kept
returns-in_err-reserve-clause-kept g c =
    let R = g.K.Ord.cmp in
    kept_at R _ _ c.loop-i.i c.reserve.new.self c.index_mut.result.now c.loop-i.invariant.kept (omega (arith, c.loop-i.invariant.kept.len, c.len-i-end.ensures))
    (subst (λ b. IsKept R b c.reserve.new.self) c.index_mut.ensures.value c.reserve.ensures.kept)
