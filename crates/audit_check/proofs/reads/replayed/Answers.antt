use Rattle.std.proofs.Common.{◌≡◌, ◌∙◌, Bool, false, List, replicate, length, get_or, ap, refl}
use Rattle.std.proofs.lemmas.List.{length-replicate}
use Rattle.audit_check.specs.Marks.{is_marked}
use Rattle.audit_check.proofs.ReadSteps.{replays_none, replays_more, holds_at, table_at, none_marked}
use Rattle.audit_check.proofs.reads.replayed.Goals as goal

pub loop-txn-init : goal.loop-txn-init
loop-txn-init c =
    let n = length c.args.lines.now in
    let unmarked : c.in_ok-vec.field-0.items ≡ replicate n false = c.in_ok-vec.ensures.items_if_clones_equal (λ y e. e) in
    record {
      all = ap (λ (bs : List Bool). length bs) unmarked ∙ length-replicate n false;
      replays = replays_none c.args.lines.now c.in_ok-starting_table.field-0.values.entries c.in_ok-vec.field-0.items c.in_ok-starting_table.ensures
          (λ i. ap (λ (bs : List Bool). is_marked bs i) unmarked ∙ none_marked n i);
    }

pub loop-txn-preserved : goal.loop-txn-preserved
loop-txn-preserved c =
    let lines = c.args.lines.now in
    let order = c.order-txn-items.result.now in
    let j = c.loop-txn.txn-index in
    let t = get_or order j 0 in
    let entries = c.loop-txn.replay.table.values.entries in
    let wrong = c.loop-txn.replay.wrong.items in
    let T = table_at lines order c.order-txn-items.ensures c.requires.once j t c.loop-txn-test.true refl in
    let held = holds_at lines order c.order-txn-items.ensures c.requires.once j t c.loop-txn-test.true refl entries wrong c.loop-txn.invariant.replays in
    record {
      all = c.in_ok-run.ensures.length;
      replays = replays_more lines order c.order-txn-items.ensures c.requires.once j t c.loop-txn-test.true refl entries c.run.new.replay.table.values.entries wrong c.run.new.replay.wrong.items
          c.loop-txn.invariant.replays (c.in_ok-run.ensures.runs T held);
    }
