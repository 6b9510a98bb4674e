use Rattle.std.proofs.Common.{◌≡◌, ◌-◌, ◌==◌, ◌||◌, ◌∙◌, sym, ap, subst, arith, cond, not, length, Bool, List}
use mir.Val.{bool_byte}
use Rattle.std.specs.Ordering.{is_eq}
use Rattle.std.specs.Result.{is_err}
use Rattle.teb_rules.specs.history.Ascending.{IsAscendingBy, place_of, put_by}
use Rattle.sorted_multimap.specs.Multimap.{values_in}
use Rattle.sorted_multimap.specs.Buckets.{entries_of}
use Rattle.sorted_multimap.proofs.BucketEdits.{joined_edit}
use Rattle.sorted_multimap.proofs.SpreadEntries.{located, located_sorted, located_shown, located_same, taken_spread, taken_values}
use Rattle.sorted_multimap.proofs.multimap.Multimap.join_by_number.Goals as goal

pub join_by_number-joined-requires-clause-ascending : goal.join_by_number-joined-requires-clause-ascending
join_by_number-joined-requires-clause-ascending g c =
    let R = g.K.Ord.cmp in
    let l = located R g.K.Key.spread_of _ _ c.args.key _ _ c.deref.ensures.value c.place_of-at.ensures.at c.place_of-at.ensures.within c.index_mut.ensures.value in
    subst (IsAscendingBy g.V.Numbered.numbered_by) (sym (located_shown R g.K.Key.spread_of _ _ c.self.invariant _ _ _ l (values_in R c.args.self.now) (λ q. ap (λ s. values_in R s q) c.self.view_is)))
    c.requires.ascending

pub invariant_of-self : goal.invariant_of-self
invariant_of-self g c =
    let R = g.K.Ord.cmp in
    let by = g.V.Numbered.numbered_by in
    let l = located R g.K.Key.spread_of _ _ c.args.key _ _ c.deref.ensures.value c.place_of-at.ensures.at c.place_of-at.ensures.within c.index_mut.ensures.value in
    taken_spread R g.K.Key.spread_of g.met.K.Key.agrees _ _ _ _ _ _ _ c.self.invariant (omega (arith, c.requires.room, ap (λ s. s.spare) c.self.view_is)) c.from.ensures _ l
    (λ vs. cond c.join_by_number-joined.result (cond (c.args.replace || is_err (place_of by vs (by c.args.value))) (put_by by c.args.value vs) vs) vs)
    (joined_edit R g.met.K.Ord.total _ (located_sorted R g.K.Key.spread_of _ _ c.self.invariant _ _ _ l) c.join_by_number-joined.result _ _ _ c.join_by_number-joined.ensures.edited
    c.join_by_number-joined.ensures.kept)

pub returns-clause-held : goal.returns-clause-held
returns-clause-held g c =
    let R = g.K.Ord.cmp in
    let l = located R g.K.Key.spread_of _ _ c.args.key _ _ c.deref.ensures.value c.place_of-at.ensures.at c.place_of-at.ensures.within c.index_mut.ensures.value in
    c.join_by_number-joined.ensures.held
    ∙ ap (λ (vs : List _). not (length vs == 0)) (located_shown R g.K.Key.spread_of _ _ c.self.invariant _ _ _ l (values_in R c.args.self.now) (λ q. ap (λ s. values_in R s q) c.self.view_is))

pub returns-clause-values : goal.returns-clause-values
returns-clause-values g c h q =
    let R = g.K.Ord.cmp in
    let by = g.V.Numbered.numbered_by in
    let l = located R g.K.Key.spread_of _ _ c.args.key _ _ c.deref.ensures.value c.place_of-at.ensures.at c.place_of-at.ensures.within c.index_mut.ensures.value in
    taken_values R g.K.Key.spread_of g.met.K.Key.agrees _ _ _ _ _ _ _ c.self.invariant (omega (arith, c.requires.room, ap (λ s. s.spare) c.self.view_is)) c.from.ensures _ l
    (λ vs. cond c.join_by_number-joined.result (cond (c.args.replace || is_err (place_of by vs (by c.args.value))) (put_by by c.args.value vs) vs) vs)
    (joined_edit R g.met.K.Ord.total _ (located_sorted R g.K.Key.spread_of _ _ c.self.invariant _ _ _ l) c.join_by_number-joined.result _ _ _ c.join_by_number-joined.ensures.edited
    c.join_by_number-joined.ensures.kept) (values_in R c.args.self.now) (λ p. ap (λ s. values_in R s p) c.self.view_is) q
    ∙ ap (λ (b : Bool). let vs = values_in R c.args.self.now c.args.key in
    cond (is_eq (R c.args.key q)) (cond b (cond (c.args.replace || is_err (place_of by vs (by c.args.value))) (put_by by c.args.value vs) vs) vs) (values_in R c.args.self.now q)) h

pub returns-clause-kept : goal.returns-clause-kept
returns-clause-kept g c h =
    let R = g.K.Ord.cmp in
    let l = located R g.K.Key.spread_of _ _ c.args.key _ _ c.deref.ensures.value c.place_of-at.ensures.at c.place_of-at.ensures.within c.index_mut.ensures.value in
    let same = located_same R g.K.Key.spread_of _ _ _ _ _ l (c.join_by_number-joined.ensures.kept h) in
    let none : c.from.result ≡ 0 = c.from.ensures ∙ ap bool_byte h in
    let spare : c.self.inside.spare - c.from.result ≡ c.self.inside.spare = omega arith in
    (λ j. record { entries = entries_of (same j); spare = spare j }) ∙ c.self.view_is
