use Rattle.std.proofs.Common.{◌-◌, ◌<◌, length, sym, subst, rules}
use Rattle.std.proofs.lemmas.List.Sorted.{answers_always}
use Rattle.std.proofs.lemmas.Option.{get_or_from_slice_get}
use Rattle.teb_rules.specs.history.Live.{number_of}
use Rattle.teb_rules.proofs.lemmas.history.AscendingLists.{searched, gap_end}
use Rattle.teb_rules.proofs.history.ascending.find_txn.Goals as goal

pub returns-in-Some-clause-place : goal.returns-in-Some-clause-place
returns-in-Some-clause-place c ascending =
    let facts = c.binary_search_by_key.ensures in
    searched number_of c.args.txns.now ascending c.args.t.0 c.binary_search_by_key.result facts.bound (facts.position number_of (answers_always _ _ _ (λ f a r g called. search rules)))

pub returns-in_default-clause-place : goal.returns-in_default-clause-place
returns-in_default-clause-place c ascending =
    let txns = c.args.txns.now in
    let t = c.args.t.0 in
    let last = c.in-Some.last.now in
    gap_end number_of txns ascending t (λ d some. subst (λ u. number_of u < t) (sym (get_or_from_slice_get txns (length txns - 1) last d (sym c.in-Some.ensures.value))) c.if-t-last.false)
