use Rattle.std.proofs.Common.{ap, arith, length, subst}
use Rattle.line_reader.specs.Lines.{IsLine}
use Rattle.line_reader.proofs.TooLong.{long_ahead, long_line}
use Rattle.line_reader.proofs.LineReader.read_line.Goals as goal

pub returns-then-rest-gt-MOST_LINE_BYTES-clause-too_long :
    goal.returns-then-rest-gt-MOST_LINE_BYTES-clause-too_long
returns-then-rest-gt-MOST_LINE_BYTES-clause-too_long g c = λ _.
    let more = c.if-rest-gt-MOST_LINE_BYTES.true in
    let long = long_line c.reading.self (subst IsLine c.rest.ensures c.in_default.ensures) (omega (arith, more, ap length c.rest-in-reading.ensures)) in
    long_ahead _ _ c.reading.self long c.reading.invariant.kept
