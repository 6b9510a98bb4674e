use Rattle.std.proofs.Common.{◌≡◌, false, true}
use Rattle.line_reader.proofs.TooLong.{far_feed, few_ahead, long_ahead, near_ahead}
use Rattle.line_reader.proofs.LineReader.next_line.Goals as goal
use Rattle.line_reader.proofs.LineReader.next_line.Goals.{in-Some-2+in_ok-take_line-in-Some-2, in-None+in_ok-line-in-None}

pub returns-in-Some-clause-too_long : goal.returns-in-Some-clause-too_long
returns-in-Some-clause-too_long g c = λ _.
    let more = c.if-len-gt-MOST_LINE_BYTES.true in
    let feed = rw c.in-Some.is at c.in_ok-len.ensures.found in
    long_ahead _ _ c.read_line.new.self (far_feed c.read_line.new.self c.in-Some.len feed more) c.in_ok-len.ensures.kept

pub returns-clause-long : goal.returns-clause-long
returns-clause-long g c = elim c.match-branch-2.branch [
  | in-Some-2+in_ok-take_line-in-Some-2 w ↦
      let near = w.if-len-gt-MOST_LINE_BYTES.false in
      let feed = rw w.in-Some.is at c.in_ok-len.ensures.found in
      near_ahead (false ≡ true) _ _ c.read_line.new.self w.in-Some.len feed near c.in_ok-len.ensures.kept
  | in-None+in_ok-line-in-None w ↦
      let rest = rw w.in-None.is at c.in_ok-len.ensures.found in
      few_ahead (false ≡ true) _ _ c.read_line.new.self rest.2 rest.1 c.in_ok-len.ensures.kept
]
