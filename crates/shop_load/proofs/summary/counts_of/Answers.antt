use Rattle.std.proofs.Common.{◌≡◌, ℕ, ◌+◌, Bool, length, filter, cond, sym, ◌∙◌, ap, ap₂, arith}
use Rattle.teb_rules.specs.history.Phases.{aborted, committed, numbers, txns}
use Rattle.shop_load.proofs.Summing.{none_counted, counted_more, counted_few, at_most_one, bit_is}
use Rattle.shop_load.proofs.summary.counts_of.Goals as goal

pub loop-i-init : goal.loop-i-init
loop-i-init c = record { committed = sym (none_counted (committed c.args.history.now.events)); aborted = sym (none_counted (aborted c.args.history.now.events)) }

pub overflow_add-counts : goal.overflow_add-counts
overflow_add-counts c =
    let few = counted_few (committed c.args.history.now.events) c.loop-i.i in
    let one = at_most_one c.is_committed.result in
    let is = c.from.ensures ∙ bit_is c.is_committed.result in
    let so_far = c.loop-i.invariant.committed in omega arith

pub overflow_add-counts-in-loop-i : goal.overflow_add-counts-in-loop-i
overflow_add-counts-in-loop-i c =
    let few = counted_few (aborted c.args.history.now.events) c.loop-i.i in
    let one = at_most_one c.is_aborted.result in
    let is = c.from-in-loop-i.ensures ∙ bit_is c.is_aborted.result in
    let so_far = c.loop-i.invariant.aborted in omega arith

pub loop-i-preserved : goal.loop-i-preserved
loop-i-preserved c =
    let H = c.args.history.now.events in
    let i = c.loop-i.i in
    record {
      committed = ap₂ (λ (a b : ℕ). a + b) c.loop-i.invariant.committed (c.from.ensures ∙ bit_is c.is_committed.result ∙ ap (λ (b : Bool). cond b 1 0) c.is_committed.ensures)
          ∙ sym (counted_more (committed H) i);
      aborted = ap₂ (λ (a b : ℕ). a + b) c.loop-i.invariant.aborted (c.from-in-loop-i.ensures ∙ bit_is c.is_aborted.result ∙ ap (λ (b : Bool). cond b 1 0) c.is_aborted.ensures)
          ∙ sym (counted_more (aborted H) i);
    }

pub returns-clause-committed : goal.returns-clause-committed
unfolding txns
returns-clause-committed c =
    let e : c.loop-i.i ≡ c.begun-i-end.result = omega arith in
    c.loop-i.invariant.committed ∙ ap (λ (n : ℕ). length (filter (committed c.args.history.now.events) (numbers n))) (e ∙ c.begun-i-end.ensures)

pub returns-clause-aborted : goal.returns-clause-aborted
unfolding txns
returns-clause-aborted c =
    let e : c.loop-i.i ≡ c.begun-i-end.result = omega arith in
    c.loop-i.invariant.aborted ∙ ap (λ (n : ℕ). length (filter (aborted c.args.history.now.events) (numbers n))) (e ∙ c.begun-i-end.ensures)
