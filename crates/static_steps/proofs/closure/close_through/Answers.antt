use Rattle.std.proofs.Common.{◌∙◌, sym, arith}
use Rattle.std.proofs.lemmas.List.{set-get_or}
use Rattle.static_steps.proofs.Closures.{row_closed, row_kept, past_all}
use Rattle.static_steps.proofs.closure.close_through.Goals as goal
use Rattle.static_steps.proofs.closure.close_through.Goals.{then-has, else-has}

pub loop-row-preserved : goal.loop-row-preserved
loop-row-preserved c =
    let old = c.args.rows.now in
    let rows = c.loop-row.rows in
    elim c.if-has.branch [
      | then-has w ↦ rw w.rows-is (row_closed old rows c.loop-row.row-index c.args.through c.from.result w.union.result (omega arith) c.from.ensures c.loop-row.invariant.0 c.loop-row.invariant.1
          (sym c.has.ensures ∙ w.if-has.true) w.union.ensures)
      | else-has w ↦ rw (w.rows-is, set-get_or c.loop-row.rows c.loop-row.row-index 0)
          (row_kept old rows c.loop-row.row-index c.args.through c.loop-row.invariant.0 c.loop-row.invariant.1 (sym c.has.ensures ∙ w.if-has.false))
    ]

pub returns : goal.returns
returns c = past_all c.args.rows.now c.loop-row.rows c.loop-row.row-index c.args.through c.loop-row-test.false c.loop-row.auto.rows c.loop-row.invariant.0
