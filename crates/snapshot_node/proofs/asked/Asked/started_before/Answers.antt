use Rattle.std.proofs.Common.{◌≡◌, ◌+◌, ◌-◌, ◌/◌, ◌<◌, true, List, length, get_or, sym, subst, arith}
use Rattle.teb_rules.specs.declared.names.Txn.{Txn}
use Rattle.teb_rules.specs.Batches.{start}
use Rattle.phase_api.specs.FactsView.{setup_of, events_of}
use Rattle.batch_book.specs.Book.{has_joined}
use Rattle.batch_book.proofs.Telling.{joined_from}
use Rattle.snapshot_node.specs.Standing.{writers_in}
use Rattle.snapshot_node.proofs.Listed.{at_among, writers_here}
use Rattle.snapshot_node.proofs.Overwritten.{all_before, all_behind}
use Rattle.snapshot_node.proofs.asked.Asked.started_before.Goals as goal

pub start-requires : goal.start-requires
start-requires c =
    let f = c.args.self.now.facts.now in
    let S = setup_of f in
    let H = events_of f in
    let n = c.args.self.now.register.now.node.0 in
    let all = writers_in S H n c.args.cell in
    let d : Txn = record { 0 = 0 } in
    let m = c.loop-first.first + (c.loop-first.end - c.loop-first.first) / 2 in
    let low : m < length all = (let y = c.loop-first.invariant.within in let z = c.loop-first-test.true in omega arith) in
    let h = writers_here f n c.args.cell c.args.self.now.stands.orderly (get_or all m d).0 (at_among all m d low) in
    subst (λ (us : List Txn). has_joined c.args.self.now.register.now.batches (get_or us m d).0 ≡ true) (sym c.writers-writers.ensures)
    (joined_from _ S H n (get_or all m d).0 c.args.self.now.stands.batches h.typed.begun h.on)

pub loop-first-preserved-then-start-at : goal.loop-first-preserved-then-start-at
loop-first-preserved-then-start-at c =
    let S = setup_of c.args.self.now.facts.now in
    let H = events_of c.args.self.now.facts.now in
    let n = c.args.self.now.register.now.node.0 in
    let all = writers_in S H n c.args.cell in
    let d : Txn = record { 0 = 0 } in
    let m = c.loop-first.first + (c.loop-first.end - c.loop-first.first) / 2 in
    let low : m < length all = (let y = c.loop-first.invariant.within in let z = c.loop-first-test.true in omega arith) in
    let there = subst (λ (us : List Txn). c.start.result ≡ start S H n (get_or us m d).0) c.writers-writers.ensures (c.start.ensures S H n c.args.self.now.stands.batches) in
    record {
      ordered = (let z = c.loop-first-test.true in omega arith);
      within = c.loop-first.invariant.within;
      before = all_before S H n c.requires c.args.self.now.stands.kind c.args.self.now.stands.orderly c.args.cell m low d c.args.at (let y = c.if-start-at.true in omega arith);
      behind = c.loop-first.invariant.behind;
    }

pub loop-first-preserved : goal.loop-first-preserved
loop-first-preserved c =
    let S = setup_of c.args.self.now.facts.now in
    let H = events_of c.args.self.now.facts.now in
    let n = c.args.self.now.register.now.node.0 in
    let all = writers_in S H n c.args.cell in
    let d : Txn = record { 0 = 0 } in
    let m = c.loop-first.first + (c.loop-first.end - c.loop-first.first) / 2 in
    let low : m < length all = (let y = c.loop-first.invariant.within in let z = c.loop-first-test.true in omega arith) in
    let there = subst (λ (us : List Txn). c.start.result ≡ start S H n (get_or us m d).0) c.writers-writers.ensures (c.start.ensures S H n c.args.self.now.stands.batches) in
    record {
      ordered = (let z = c.loop-first-test.true in omega arith);
      within = (let z = low in omega arith);
      before = c.loop-first.invariant.before;
      behind = all_behind S H n c.requires c.args.self.now.stands.kind c.args.self.now.stands.orderly c.args.cell m low d c.args.at (let y = c.if-start-at.false in omega arith);
    }
