use Rattle.std.proofs.Common.{ℕ, List, ◌++◌, Some, refl, ap, ◌∙◌}
use Rattle.shell_lines.specs.Answers.{unable_text}
use Rattle.shell_runner.proofs.step.put_read.Goals as goal

pub returns-in_ok-put_unable-in-Some : goal.returns-in_ok-put_unable-in-Some
returns-in_ok-put_unable-in-Some c = (Some c.in-Some.why, c.in_ok-put_unable-in-Some.ensures ∙ ap (λ (l : List ℕ). l ++ unable_text c.args.number c.in-Some.why) c.requires, refl)
