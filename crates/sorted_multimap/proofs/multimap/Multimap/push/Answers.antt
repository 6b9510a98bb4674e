use Rattle.std.proofs.Common.{◌-◌, ◌∷◌, ◌++◌, [], ◌∙◌, sym, ap, arith, cond, List}
use Rattle.std.specs.Ordering.{is_eq}
use Rattle.sorted_multimap.specs.Multimap.{values_in}
use Rattle.sorted_multimap.proofs.SpreadEntries.{located, located_values, located_sorted, located_room, put_spread, put_values}
use Rattle.sorted_multimap.proofs.multimap.Multimap.push.Goals as goal

pub push-requires-clause-sorted : goal.push-requires-clause-sorted
push-requires-clause-sorted g c =
    let l = located g.K.Ord.cmp g.K.Key.spread_of _ _ c.args.key _ _ c.deref.ensures.value c.place_of-at.ensures.at c.place_of-at.ensures.within c.index_mut.ensures.value in
    located_sorted g.K.Ord.cmp g.K.Key.spread_of _ _ c.self.invariant _ _ _ l

pub invariant_of-self : goal.invariant_of-self
invariant_of-self g c =
    let R = g.K.Ord.cmp in
    let l = located R g.K.Key.spread_of _ _ c.args.key _ _ c.deref.ensures.value c.place_of-at.ensures.at c.place_of-at.ensures.within c.index_mut.ensures.value in
    let room = c.push.ensures.room c.self.inside.spare (c.self.inside.spare - 1) (omega (arith, c.requires, ap (λ s. s.spare) c.self.view_is))
    (located_room R g.K.Key.spread_of _ _ c.self.invariant _ _ _ l) in
    put_spread R g.K.Key.spread_of g.met.K.Key.agrees _ _ _ _ _ _ c.self.invariant (omega arith) c.push.ensures.sorted room _ l _ c.push.ensures.values

pub returns-clause-values : goal.returns-clause-values
returns-clause-values g c q =
    let R = g.K.Ord.cmp in
    let l = located R g.K.Key.spread_of _ _ c.args.key _ _ c.deref.ensures.value c.place_of-at.ensures.at c.place_of-at.ensures.within c.index_mut.ensures.value in
    let here = located_values R g.K.Key.spread_of _ _ c.self.invariant _ _ _ l in
    let room = c.push.ensures.room c.self.inside.spare (c.self.inside.spare - 1) (omega (arith, c.requires, ap (λ s. s.spare) c.self.view_is))
    (located_room R g.K.Key.spread_of _ _ c.self.invariant _ _ _ l) in
    put_values R g.K.Key.spread_of g.met.K.Key.agrees _ _ _ _ _ _ c.self.invariant (omega arith) c.push.ensures.sorted room _ l _ c.push.ensures.values (values_in R c.args.self.now)
    (λ p. ap (λ s. values_in R s p) c.self.view_is) q
    ∙ ap (λ (vs : List _). cond (is_eq (R c.args.key q)) (vs ++ c.args.value ∷ []) (values_in R c.args.self.now q)) (sym here ∙ ap (λ s. values_in R s c.args.key) c.self.view_is)
