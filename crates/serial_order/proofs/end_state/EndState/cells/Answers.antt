use Rattle.std.proofs.lemmas.Result.{IfOk-weaker}
use Rattle.phase_api.specs.FactsView.{events_of}
use Rattle.serial_order.specs.EndState.{left, store}
use Rattle.serial_order.specs.Tables.{AreCells}
use Rattle.serial_order.proofs.Left.{cells_enough}
use Rattle.std.proofs.lemmas.Bool.{or_right}
use Rattle.serial_order.proofs.end_state.EndState.cells.Goals as goal

pub returns : goal.returns
returns g c =
    let l = c.args.self.now in
    IfOk-weaker _ _ (λ v. AreCells (left l) l.rows.now v.items)
    (λ v seen. cells_enough (store l 0) (events_of l.facts.now) v.items seen.ascending
    (λ x put. seen.all x (c.in_ok-add_puts.ensures.all x (or_right _ _ put))))
    c.ascending.ensures
