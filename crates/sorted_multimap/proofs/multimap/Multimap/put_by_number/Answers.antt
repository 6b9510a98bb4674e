use Rattle.std.proofs.Common.{◌∙◌, sym, ap, subst, arith, List}
use Rattle.std.specs.Result.{is_err}
use Rattle.teb_rules.specs.history.Ascending.{IsAscendingBy, place_of, put_by}
use Rattle.sorted_multimap.specs.Multimap.{values_in}
use Rattle.sorted_multimap.proofs.SpreadEntries.{located, located_shown, taken_spread, taken_values}
use Rattle.sorted_multimap.proofs.multimap.Multimap.put_by_number.Goals as goal

pub put_by_number-added-requires-clause-ascending : goal.put_by_number-added-requires-clause-ascending
put_by_number-added-requires-clause-ascending g c =
    let R = g.K.Ord.cmp in
    let l = located R g.K.Key.spread_of _ _ c.args.key _ _ c.deref.ensures.value c.place_of-at.ensures.at c.place_of-at.ensures.within c.index_mut.ensures.value in
    subst (IsAscendingBy g.V.Numbered.numbered_by) (sym (located_shown R g.K.Key.spread_of _ _ c.self.invariant _ _ _ l (values_in R c.args.self.now) (λ q. ap (λ s. values_in R s q) c.self.view_is)))
    c.requires.ascending

pub invariant_of-self : goal.invariant_of-self
invariant_of-self g c =
    let R = g.K.Ord.cmp in
    let by = g.V.Numbered.numbered_by in
    let l = located R g.K.Key.spread_of _ _ c.args.key _ _ c.deref.ensures.value c.place_of-at.ensures.at c.place_of-at.ensures.within c.index_mut.ensures.value in
    taken_spread R g.K.Key.spread_of g.met.K.Key.agrees _ _ _ _ _ _ _ c.self.invariant (omega (arith, c.requires.room, ap (λ s. s.spare) c.self.view_is)) c.from.ensures _ l
    (put_by by c.args.value) c.put_by_number-added.ensures.edited

pub returns-clause-added : goal.returns-clause-added
returns-clause-added g c =
    let R = g.K.Ord.cmp in
    let by = g.V.Numbered.numbered_by in
    let l = located R g.K.Key.spread_of _ _ c.args.key _ _ c.deref.ensures.value c.place_of-at.ensures.at c.place_of-at.ensures.within c.index_mut.ensures.value in
    c.put_by_number-added.ensures.added ∙ ap (λ (vs : List _). is_err (place_of by vs (by c.args.value)))
    (located_shown R g.K.Key.spread_of _ _ c.self.invariant _ _ _ l (values_in R c.args.self.now) (λ q. ap (λ s. values_in R s q) c.self.view_is))

pub returns-clause-values : goal.returns-clause-values
returns-clause-values g c q =
    let R = g.K.Ord.cmp in
    let by = g.V.Numbered.numbered_by in
    let l = located R g.K.Key.spread_of _ _ c.args.key _ _ c.deref.ensures.value c.place_of-at.ensures.at c.place_of-at.ensures.within c.index_mut.ensures.value in
    taken_values R g.K.Key.spread_of g.met.K.Key.agrees _ _ _ _ _ _ _ c.self.invariant (omega (arith, c.requires.room, ap (λ s. s.spare) c.self.view_is)) c.from.ensures _ l
    (put_by by c.args.value) c.put_by_number-added.ensures.edited (values_in R c.args.self.now) (λ p. ap (λ s. values_in R s p) c.self.view_is) q
