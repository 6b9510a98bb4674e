use Rattle.std.proofs.Common.{◌≡◌, ◌<◌, ◌-◌, ◌∙◌, length, get_or, sym, ap, subst, rules, arith}
use Rattle.std.proofs.lemmas.List.Sorted.{answers_always}
use Rattle.std.proofs.lemmas.Option.{get_or_from_slice_get, slice_get_within}
use Rattle.teb_rules.proofs.lemmas.history.AscendingLists.{searched, gap_end, found_at}
use Rattle.sorted_multimap.proofs.number.find_number.Goals as goal

pub returns-then-greatest-number : goal.returns-then-greatest-number
returns-then-greatest-number g c =
    let by = g.V.Numbered.numbered_by in
    let vs = c.args.values.now in
    let n = c.args.number in
    gap_end by vs c.requires n
    (λ d some. subst (λ v. by v < n) (sym (get_or_from_slice_get vs (length vs - 1) c.in-Some.last.now d (sym c.in-Some.ensures.value)))
    (omega (arith, c.number-greatest.ensures, c.if-greatest-number.true)))

pub returns-then-greatest-number-2 : goal.returns-then-greatest-number-2
returns-then-greatest-number-2 g c =
    let by = g.V.Numbered.numbered_by in
    let vs = c.args.values.now in
    let last = c.in-Some.last.now in
    let there : get_or vs (length vs - 1) last ≡ last = get_or_from_slice_get vs (length vs - 1) last last (sym c.in-Some.ensures.value) in
    found_at by vs c.requires c.args.number (length vs - 1) last (slice_get_within vs (length vs - 1) last (sym c.in-Some.ensures.value))
    (ap by there ∙ sym c.number-greatest.ensures ∙ c.if-greatest-number-2.true)

pub returns : goal.returns
returns g c =
    let by = g.V.Numbered.numbered_by in
    let facts = c.binary_search_by_key.ensures in
    searched by c.args.values.now c.requires c.args.number c.binary_search_by_key.result facts.bound (facts.position by (answers_always _ _ _ (λ f a r g called. search rules)))
