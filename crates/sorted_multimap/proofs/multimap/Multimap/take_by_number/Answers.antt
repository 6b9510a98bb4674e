use Rattle.std.proofs.Common.{◌∙◌, sym, ap, subst, arith, cond, eqb, filter, not, List}
use Rattle.std.specs.Ordering.{is_eq}
use Rattle.teb_rules.specs.history.Ascending.{IsAscendingBy}
use Rattle.sorted_multimap.specs.Multimap.{values_in}
use Rattle.sorted_multimap.proofs.SpreadEntries.{located, located_values, located_room, put_spread, put_values}
use Rattle.sorted_multimap.proofs.multimap.Multimap.take_by_number.Goals as goal

pub take_by_number-requires-clause-ascending : goal.take_by_number-requires-clause-ascending
take_by_number-requires-clause-ascending g c =
    let R = g.K.Ord.cmp in
    let by = g.V.Numbered.numbered_by in
    let l = located R g.K.Key.spread_of _ _ c.args.key _ _ c.deref.ensures.value c.place_of-at.ensures.at c.place_of-at.ensures.within c.index_mut.ensures.value in
    let here = located_values R g.K.Key.spread_of _ _ c.self.invariant _ _ _ l in
    let shown = ap (λ s. values_in R s c.args.key) c.self.view_is in
    subst (IsAscendingBy by) (sym shown ∙ here) c.requires

pub invariant_of-self : goal.invariant_of-self
invariant_of-self g c =
    let R = g.K.Ord.cmp in
    let by = g.V.Numbered.numbered_by in
    let l = located R g.K.Key.spread_of _ _ c.args.key _ _ c.deref.ensures.value c.place_of-at.ensures.at c.place_of-at.ensures.within c.index_mut.ensures.value in
    let here = located_values R g.K.Key.spread_of _ _ c.self.invariant _ _ _ l in
    let shown = ap (λ s. values_in R s c.args.key) c.self.view_is in
    let room = c.take_by_number.ensures.room c.self.inside.spare c.self.inside.spare (omega arith) (located_room R g.K.Key.spread_of _ _ c.self.invariant _ _ _ l) in
    put_spread R g.K.Key.spread_of g.met.K.Key.agrees _ _ _ _ _ _ c.self.invariant (omega arith) c.take_by_number.ensures.sorted room _ l _ c.take_by_number.ensures.values

pub returns-clause-values : goal.returns-clause-values
returns-clause-values g c q =
    let R = g.K.Ord.cmp in
    let by = g.V.Numbered.numbered_by in
    let l = located R g.K.Key.spread_of _ _ c.args.key _ _ c.deref.ensures.value c.place_of-at.ensures.at c.place_of-at.ensures.within c.index_mut.ensures.value in
    let here = located_values R g.K.Key.spread_of _ _ c.self.invariant _ _ _ l in
    let shown = ap (λ s. values_in R s c.args.key) c.self.view_is in
    let room = c.take_by_number.ensures.room c.self.inside.spare c.self.inside.spare (omega arith) (located_room R g.K.Key.spread_of _ _ c.self.invariant _ _ _ l) in
    put_values R g.K.Key.spread_of g.met.K.Key.agrees _ _ _ _ _ _ c.self.invariant (omega arith) c.take_by_number.ensures.sorted room _ l _ c.take_by_number.ensures.values
    (values_in R c.args.self.now) (λ p. ap (λ s. values_in R s p) c.self.view_is) q
    ∙ ap (λ (vs : List _). cond (is_eq (R c.args.key q)) (filter (λ v. not (eqb (by v) c.args.number)) vs) (values_in R c.args.self.now q)) (sym here ∙ shown)
