use Rattle.std.proofs.Common.{◌≡◌, ◌∙◌, ap, rules, of_calls}
use Rattle.std.proofs.lemmas.Fn.{always_returns_same}
use Rattle.std.proofs.lemmas.Result.{IfOk-weaker}
use Rattle.std.proofs.lemmas.List.Sorted.{ranks_by}
use Rattle.std.specs.Cmp.Lexicographic.{slice_cmp, nat_list_cmp_total}
use Rattle.std.specs.Ordering.{nat_cmp, is_lt}
use Rattle.teb_rules.proofs.lemmas.laws.Sound.{tree_facts}
use Rattle.teb_rules.specs.Ranks.{serial_order}
use Rattle.phase_api.specs.FactsView.{setup_of, events_of}
use Rattle.serial_order.specs.Commits.{txn_numbers}
use Rattle.serial_order.specs.Keys.{entry_numbers, key_of}
use Rattle.serial_order.specs.declared.serial.Entry.{Entry}
use Rattle.serial_order.proofs.Commits.{entries_ordered}
use Rattle.serial_order.proofs.serial.order_by_keys.Goals as goal

pub returns : goal.returns
returns c =
    let ns = c.entries.new.numbers.items in
    IfOk-weaker c.txns_of.result (λ v. txn_numbers v.items ≡ entry_numbers c.deref-2.result.now) (λ v. txn_numbers v.items ≡ serial_order (setup_of c.args.facts.now) (events_of c.args.facts.now))
    (λ v e. e ∙ ap entry_numbers c.deref-2.ensures.value ∙ entries_ordered (setup_of c.args.facts.now) (tree_facts (setup_of c.args.facts.now) c.requires.sound)
    (events_of c.args.facts.now) c.requires.lawful ns c.in_ok-entries.entries.items c.sort_by.new.self.items
    c.in_ok-entries.ensures.numbers c.in_ok-entries.ensures.keys c.in_ok-sort_by.ensures.permutation
    (c.in_ok-sort_by.ensures.sorted (λ (d e : Entry). is_lt (slice_cmp nat_cmp (key_of ns d) (key_of ns e))) (ranks_by nat_list_cmp_total (key_of ns))
    (always_returns_same _ _ _ (λ a r f k. search (rules, of_calls)))))
    c.txns_of.ensures
