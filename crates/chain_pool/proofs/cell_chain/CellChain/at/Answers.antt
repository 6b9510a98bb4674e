use Rattle.std.proofs.Common.{◌≡◌, ◌∙◌, ◌<◌, ap, sym, arith, List, Some}
use Rattle.chain_pool.specs.declared.places.Place.{Place}
use Rattle.chain_pool.specs.declared.places.Head.{Head}
use Rattle.chain_pool.specs.Places.{pair_at}
use Rattle.chain_pool.specs.Linked.{nth_place}
use Rattle.chain_pool.proofs.Chains.{slice_get-versions}
use Rattle.chain_pool.proofs.OfCells.{head_is, len_is, walk_of, used_at}
use Rattle.chain_pool.proofs.cell_chain.CellChain.at.Goals as goal

pub place_of-place-requires-clause-walk : goal.place_of-place-requires-clause-walk
place_of-place-requires-clause-walk c =
    let it = c.args.self in
    walk_of it.pool.now it.cell it.chain it.sound it.of_cell c.deref.result.now c.deref.ensures.value

pub place_of-place-requires-clause-within : goal.place_of-place-requires-clause-within
place_of-place-requires-clause-within c =
    let it = c.args.self in
    omega (arith, len_is it.pool.now it.cell it.chain it.sound it.of_cell, c.requires)

pub pair_at-requires : goal.pair_at-requires
pair_at-requires c =
    let it = c.args.self in
    let lt : c.args.i < it.chain.head.len = omega (arith, len_is it.pool.now it.cell it.chain it.sound it.of_cell, c.requires) in
    let place = c.place_of-place.ensures ∙ ap (λ (qs : List Place). nth_place qs it.chain.head c.args.i) c.deref.ensures.value in
    used_at it.pool.now it.cell it.chain it.sound it.of_cell c.deref-2.result.now c.deref-2.ensures.value c.args.i lt c.place_of-place.result place

pub returns : goal.returns
returns c =
    let it = c.args.self in
    let p = it.pool.now in
    let ps = p.places.items in
    let head = head_is p it.cell it.chain it.sound it.of_cell in
    let place = c.place_of-place.ensures ∙ (ap (λ (qs : List Place). nth_place qs it.chain.head c.args.i) c.deref.ensures.value ∙ ap (λ (h : Head). nth_place ps h c.args.i) head) in
    slice_get-versions ps _ _ p.unused it.sound.linked it.cell c.args.i c.requires
    ∙ ap Some (ap (pair_at ps) (sym place) ∙ sym (c.pair_at.ensures ∙ ap (λ (qs : List Place). pair_at qs c.place_of-place.result) c.deref-2.ensures.value))
