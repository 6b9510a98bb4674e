use Rattle.std.proofs.Common.{◌≡◌, ap, ◌∙◌}
use Rattle.std.proofs.lemmas.Result.{IfOk-weaker}
use Rattle.teb_rules.specs.names.Rows.{IsAscending}
use Rattle.phase_api.specs.FactsView.{events_of}
use Rattle.serial_order.specs.EndState.{left, store}
use Rattle.serial_order.specs.Tables.{merged_rows}
use Rattle.teb_rules.specs.Epochs.{AreFinalRows}
use Rattle.serial_order.proofs.Left.{tables_alike}
use Rattle.serial_order.proofs.Merged.{merged_ascend, merged_left}
use Rattle.serial_order.proofs.end_state.EndState.rows_left.Goals as goal

pub returns : goal.returns
returns g c = λ n.
    let l = c.args.self.now in
    let cells = c.in_ok-cells.cells.items in
    IfOk-weaker c.rows_of.result (λ v. v.items ≡ merged_rows (left l) l.rows.now c.deref.result.now) (λ v. AreFinalRows (store l n) (events_of l.facts.now) v.items)
    (λ v e.
    let rows : v.items ≡ merged_rows (left l) l.rows.now cells = e ∙ ap (merged_rows (left l) l.rows.now) c.deref.ensures.value in
    let starting : IsAscending l.rows.now = c.rows_of.ensures.ascending in
    record {
      ascending = rw rows (merged_ascend (left l) l.rows.now cells starting c.in_ok-cells.ensures.ascending);
      each = λ x. rw rows (merged_left (left l) l.rows.now cells x starting c.in_ok-cells.ensures.ascending (c.in_ok-cells.ensures.all x) ∙ tables_alike (store l 0) n (events_of l.facts.now) x);
    })
    c.rows_of.ensures.rows
