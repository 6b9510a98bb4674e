use Rattle.std.proofs.Common.{◌∙◌, sym, ap, subst, List}
use Rattle.teb_rules.specs.declared.names.Txn.{Txn}
use Rattle.teb_rules.specs.history.Ascending.{IsAscendingBy, place_of}
use Rattle.teb_rules.specs.history.Live.{number_of}
use Rattle.teb_rules.proofs.lemmas.history.AscendingLists.{put-same, put-insert}
use Rattle.teb_rules.proofs.history.ascending.put_txn.Goals as goal

pub returns-in-Err-clause-items : goal.returns-in-Err-clause-items
returns-in-Err-clause-items c =
    let place = λ (xs : List Txn). place_of number_of xs c.args.t.0 in
    let gap = c.find_txn.ensures.place (subst (IsAscendingBy number_of) (sym c.deref.ensures.value) c.requires.ascending) in
    c.put_in.ensures.items ∙ sym (put-insert number_of c.args.t c.args.txns.now.items _ (ap place (sym c.deref.ensures.value) ∙ sym gap ∙ c.in-Err.is))

pub returns-in_default-clause-items : goal.returns-in_default-clause-items
returns-in_default-clause-items c =
    let place = λ (xs : List Txn). place_of number_of xs c.args.t.0 in
    let there = c.find_txn.ensures.place (subst (IsAscendingBy number_of) (sym c.deref.ensures.value) c.requires.ascending) in
    put-same number_of c.args.t (λ x e. ap (λ (n : _). record { 0 = n }) e) c.args.txns.now.items _ (ap place (sym c.deref.ensures.value) ∙ sym there ∙ c.in_default.is)
