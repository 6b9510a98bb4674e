use Rattle.std.proofs.Common.{◌≡◌, ◌<◌, ◌+◌, ◌++◌, List, drop, reverse, subst, subst₂, ap, length, refl, sym, ◌∙◌, vec_len, arith, rules}
use Rattle.teb_rules.specs.declared.history.Event.TheVariants.{Done}
use Rattle.phase_api.specs.FactsView.{setup_of, events_of}
use Rattle.serial_order.specs.Commits.{commits_in}
use Rattle.serial_order.specs.Keys.{entry_numbers, cut_key, HaveKeys}
use Rattle.serial_order.specs.declared.serial.Entry.{Entry}
use Rattle.serial_order.proofs.Commits.{numbers_skip, numbers_more, keys_more}
use Rattle.serial_order.proofs.Walks.{done_here, typed_there}
use Rattle.serial_order.proofs.booked.Booked.entries.Goals as goal

pub push_key-requires-clause-typed : goal.push_key-requires-clause-typed
push_key-requires-clause-typed c = typed_there c.args.self.now.facts.now c.loop-i.i c.in-Done.txn c.args.self.now.lawful
    (let z : c.loop-i.i < length (events_of c.args.self.now.facts.now) = omega arith in z) c.in-Done.ensures

pub push_key-requires-clause-done : goal.push_key-requires-clause-done
push_key-requires-clause-done c = (done_here (setup_of c.args.self.now.facts.now) (events_of c.args.self.now.facts.now) c.loop-i.i (Done c.in-Done.txn) c.args.self.now.lawful
    (let z : c.loop-i.i < length (events_of c.args.self.now.facts.now) = omega arith in z) c.in-Done.ensures c.in-Done.txn refl).0

pub loop-i-preserved-in_default : goal.loop-i-preserved-in_default
loop-i-preserved-in_default c = record {
  numbers = numbers_skip (entry_numbers c.loop-i.entries.items) (commits_in (reverse (events_of c.args.self.now.facts.now))) (reverse (events_of c.args.self.now.facts.now)) c.loop-i.i c.at.result
      c.at.ensures c.in_default.not-Done c.loop-i.invariant.numbers;
  keys = c.loop-i.invariant.keys;
}

pub loop-i-preserved : goal.loop-i-preserved
loop-i-preserved c =
    let S = setup_of c.args.self.now.facts.now in
    let H = events_of c.args.self.now.facts.now in
    let ns = c.loop-i.numbers.items in
    let key = cut_key S H c.in-Done.txn.0 in
    let appended = c.in_ok-push_key.ensures in
    let so_many : vec_len c.loop-i.numbers ≡ length ns = search rules in
    let so_many_then : vec_len c.push_key.new.numbers ≡ length c.push_key.new.numbers.items = search rules in
    let e : Entry = record { txn = c.in-Done.txn; start = c.len-start.result; end = c.len-end.result } in
    record {
      numbers = subst (λ (es : List Entry). entry_numbers es ++ commits_in (drop (c.loop-i.i + 1) (reverse H)) ≡ commits_in (reverse H)) (sym c.in_ok-push.ensures.items)
          (numbers_more c.loop-i.entries.items e (commits_in (reverse H)) (reverse H) c.loop-i.i c.in-Done.txn c.in-Done.ensures refl c.loop-i.invariant.numbers);
      keys = subst₂ (HaveKeys S H) (sym appended) (sym c.in_ok-push.ensures.items)
          (keys_more S H ns key c.loop-i.entries.items e c.loop-i.invariant.keys (c.len-start.ensures ∙ so_many) (c.len-end.ensures ∙ so_many_then ∙ ap length appended) refl);
    }
