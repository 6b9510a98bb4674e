-- No byte ahead is lost, and no fault is reported that did not occur.
use Rattle.std.proofs.Common.{[], ◌≡◌, ◌-◌, length}
use Rattle.std.specs.Io.KnownBytes.{Consumes}
use Rattle.line_reader.specs.Lines.{ahead}
use Rattle.line_reader.proofs.LineReader.read_line.Given as goal

abbrev pub invariant-reading : goal.invariant-reading
invariant-reading g l = record {
  no_fault : g.S.Source.faults l.source ≡ g.S.Source.faults l.initial.source;
  kept : Consumes (ahead l.initial.self (g.S.Source.left l.initial.source)) (ahead l.self (g.S.Source.left l.source)) [];
}

abbrev pub decreases-reading : goal.decreases-reading
decreases-reading g l = 65537 - length l.self
