use Rattle.std.proofs.Common.{◌≡◌, ◌++◌, ◌==◌, drop, filter, length, not}
use Rattle.script_text.specs.Words.{nows}
use Rattle.shell_lines.proofs.parse.filled.Given as goal

abbrev pub invariant-loop-part : goal.invariant-loop-part
invariant-loop-part l = nows l.words.items ++ filter (λ w. not (length w == 0)) (nows (drop l.part-index l.parts)) ≡ filter (λ w. not (length w == 0)) (nows l.parts)
