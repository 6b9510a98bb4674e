use Rattle.std.proofs.Common.{◌≡◌, ap, sym, ◌∙◌, reverse, inl, inr}
use Rattle.std.proofs.lemmas.Result.{IfOk-weaker}
use Rattle.teb_rules.specs.Setup.{NodeRow}
use Rattle.teb_rules.specs.Ranks.{serial_order}
use Rattle.teb_rules.proofs.lemmas.laws.Sound.{tree_facts}
use Rattle.teb_rules.proofs.lemmas.laws.Commits.{order_of_commits}
use Rattle.phase_api.specs.FactsView.{setup_of, events_of}
use Rattle.serial_order.specs.Commits.{commits_in, txn_numbers}
use Rattle.serial_order.proofs.Commits.{commits_walk}
use Rattle.serial_order.proofs.serial.order_of.Goals as goal

pub returns-in-Locks : goal.returns-in-Locks
returns-in-Locks c =
    let S = setup_of c.args.facts.now in
    let H = events_of c.args.facts.now in
    let control = sym (ap (λ (r : NodeRow). r.control) c.row.ensures) in
    IfOk-weaker c.order_of_commits.result (λ v. txn_numbers v.items ≡ commits_in (reverse H)) (λ v. txn_numbers v.items ≡ serial_order S H)
    (λ v e. e ∙ commits_walk H ∙ sym (order_of_commits S (tree_facts S c.requires.sound) H c.requires.lawful (elim c.in-Locks.is [ inl q ↦ inl (control ∙ q) | inr q ↦ inr (control ∙ q) ])))
    c.order_of_commits.ensures
