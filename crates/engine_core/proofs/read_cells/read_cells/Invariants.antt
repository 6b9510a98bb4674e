use Rattle.engine_core.proofs.Gathering.{IsReading}
use Rattle.engine_core.proofs.read_cells.read_cells.Given as goal

abbrev pub invariant-loop-i : goal.invariant-loop-i
invariant-loop-i g l = IsReading l.fn.state l.state l.fn.t.0 l.fn.first l.fn.count l.values l.i
