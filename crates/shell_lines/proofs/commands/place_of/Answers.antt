use Rattle.std.proofs.Common.{arith, sym}
use Rattle.std.specs.Str.{bytes_eq}
use Rattle.shell_lines.proofs.Places.{no_position}
use Rattle.shell_lines.proofs.commands.place_of.Goals as goal

pub returns : goal.returns
returns c = sym (no_position (bytes_eq c.args.word.now) c.args.names.now (λ k low. c.loop-i.invariant k (omega (arith, low, c.loop-i-test.false, c.len-i-end.ensures.count))))
