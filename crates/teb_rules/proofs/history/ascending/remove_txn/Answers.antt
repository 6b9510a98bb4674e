use Rattle.std.proofs.Common.{◌∙◌, sym, ap, List, subst}
use Rattle.teb_rules.specs.declared.names.Txn.{Txn}
use Rattle.teb_rules.specs.history.Ascending.{IsAscendingBy, place_of}
use Rattle.teb_rules.specs.history.Live.{number_of}
use Rattle.teb_rules.proofs.lemmas.history.AscendingLists.{remove-filter, gap-filter}
use Rattle.teb_rules.proofs.history.ascending.remove_txn.Goals as goal

pub returns-in-Ok-clause-items : goal.returns-in-Ok-clause-items
returns-in-Ok-clause-items c ascending =
    let place = λ (ts : List Txn). place_of number_of ts c.args.t.0 in
    let there = c.find_txn.ensures.place (subst (IsAscendingBy number_of) (sym c.deref.ensures.value) ascending) in
    c.take_out.ensures.items ∙ remove-filter number_of c.args.txns.now.items ascending c.args.t.0 _ (ap place (sym c.deref.ensures.value) ∙ sym there ∙ c.in-Ok.is)

pub returns-in_default-clause-items : goal.returns-in_default-clause-items
returns-in_default-clause-items c ascending =
    let place = λ (ts : List Txn). place_of number_of ts c.args.t.0 in
    let gap = c.find_txn.ensures.place (subst (IsAscendingBy number_of) (sym c.deref.ensures.value) ascending) in
    gap-filter number_of c.args.txns.now.items ascending c.args.t.0 _ (ap place (sym c.deref.ensures.value) ∙ sym gap ∙ c.in_default.is)
