use Rattle.std.proofs.Common.{ap, arith}
use Rattle.sorted_multimap.specs.Multimap.{values_in}
use Rattle.sorted_multimap.proofs.SpreadEntries.{located, located_sorted, located_room, put_spread, put_values}
use Rattle.sorted_multimap.proofs.multimap.Multimap.clear.Goals as goal

pub clear-requires : goal.clear-requires
clear-requires g c =
    let l = located g.K.Ord.cmp g.K.Key.spread_of _ _ c.args.key _ _ c.deref.ensures.value c.place_of-at.ensures.at c.place_of-at.ensures.within c.index_mut.ensures.value in
    located_sorted g.K.Ord.cmp g.K.Key.spread_of _ _ c.self.invariant _ _ _ l

pub invariant_of-self : goal.invariant_of-self
invariant_of-self g c =
    let R = g.K.Ord.cmp in
    let l = located R g.K.Key.spread_of _ _ c.args.key _ _ c.deref.ensures.value c.place_of-at.ensures.at c.place_of-at.ensures.within c.index_mut.ensures.value in
    let room = c.clear.ensures.room c.self.inside.spare c.self.inside.spare (omega arith) (located_room R g.K.Key.spread_of _ _ c.self.invariant _ _ _ l) in
    put_spread R g.K.Key.spread_of g.met.K.Key.agrees _ _ _ _ _ _ c.self.invariant (omega arith) c.clear.ensures.sorted room _ l _ c.clear.ensures.values

pub returns-clause-values : goal.returns-clause-values
returns-clause-values g c q =
    let R = g.K.Ord.cmp in
    let l = located R g.K.Key.spread_of _ _ c.args.key _ _ c.deref.ensures.value c.place_of-at.ensures.at c.place_of-at.ensures.within c.index_mut.ensures.value in
    let room = c.clear.ensures.room c.self.inside.spare c.self.inside.spare (omega arith) (located_room R g.K.Key.spread_of _ _ c.self.invariant _ _ _ l) in
    put_values R g.K.Key.spread_of g.met.K.Key.agrees _ _ _ _ _ _ c.self.invariant (omega arith) c.clear.ensures.sorted room _ l _ c.clear.ensures.values (values_in R c.args.self.now)
    (λ p. ap (λ s. values_in R s p) c.self.view_is) q
