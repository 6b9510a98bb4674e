use Rattle.std.proofs.Common.{◌+◌, arith, length-append, refl, sym, subst, List}
use Rattle.sorted_multimap.proofs.SpreadEntries.{AreNew, empty_more, empty_spread, empty_entries}
use Rattle.sorted_multimap.proofs.multimap.empty_buckets.Goals as goal

pub loop-init : goal.loop-init
loop-init g c = subst (λ (bs : List _). AreNew g.K.Ord.cmp bs 0) (sym c.in_ok-buckets.ensures.items) (record { empty = tt; count = refl })

pub loop-preserved : goal.loop-preserved
loop-preserved g c = subst (λ (bs : List _). AreNew g.K.Ord.cmp bs (c.loop.counter + 1)) (sym c.in_ok-push.ensures.items) (record {
  empty = empty_more g.K.Ord.cmp g.K.Key.spread_of _ _ c.loop.invariant.empty c.new.ensures.sorted c.new.ensures.keys c.new.ensures.values;
  count = simp length-append (omega (arith, c.loop.invariant.count));
})

pub returns-clause-spread : goal.returns-clause-spread
returns-clause-spread g c = empty_spread g.K.Ord.cmp g.K.Key.spread_of _ c.loop.invariant.empty (omega (arith, c.loop.invariant.count, c.loop-test.false))

pub returns-clause-entries : goal.returns-clause-entries
returns-clause-entries g c = empty_entries g.K.Ord.cmp g.K.Key.spread_of _ c.loop.invariant.empty
