use Rattle.std.proofs.Common.{◌-◌, length, sym, subst, rules, ◌<◌}
use Rattle.std.proofs.lemmas.List.Sorted.{answers_always}
use Rattle.std.proofs.lemmas.Option.{get_or_from_slice_get}
use Rattle.teb_rules.specs.history.Standings.{standing_number}
use Rattle.teb_rules.proofs.lemmas.history.AscendingLists.{searched, gap_end}
use Rattle.teb_rules.proofs.history.ascending.search_standing.Goals as goal

pub returns-in-Some : goal.returns-in-Some
returns-in-Some c =
    let facts = c.binary_search_by_key.ensures in
    searched standing_number c.args.standings.now c.requires c.args.t.0 c.binary_search_by_key.result facts.bound
    (facts.position standing_number (answers_always _ _ _ (λ f a r g called. search rules)))

pub returns-in_default : goal.returns-in_default
returns-in_default c =
    let kept = c.args.standings.now in
    let t = c.args.t.0 in
    let last = c.in-Some.last.now in
    gap_end standing_number kept c.requires t
    (λ d some. subst (λ r. standing_number r < t) (sym (get_or_from_slice_get kept (length kept - 1) last d (sym c.in-Some.ensures.value))) c.if-t-last.false)
