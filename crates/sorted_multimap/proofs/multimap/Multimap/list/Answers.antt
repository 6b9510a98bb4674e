use Rattle.std.proofs.Common.{◌∙◌, sym, ap}
use Rattle.sorted_multimap.specs.Multimap.{values_in}
use Rattle.sorted_multimap.proofs.SpreadEntries.{located, located_values}
use Rattle.sorted_multimap.proofs.multimap.Multimap.list.Goals as goal

pub returns : goal.returns
returns g c =
    let R = g.K.Ord.cmp in
    let l = located R g.K.Key.spread_of _ _ c.args.key _ _ c.deref.ensures.value c.place_of.ensures.at c.place_of.ensures.within c.index.ensures in
    c.list.ensures ∙ sym (located_values R g.K.Key.spread_of _ _ c.self.invariant _ _ _ l) ∙ ap (λ s. values_in R s c.args.key) c.self.view_is
