use Rattle.std.proofs.Common.{◌≡◌, ◌++◌, ◌∷◌, [], drop}
use Rattle.std.specs.List.{flat_map}
use Rattle.script_text.specs.Texts.{line_text}
use Rattle.shell_lines.proofs.answers.put_names.Given as goal

abbrev pub invariant-loop-i : goal.invariant-loop-i
invariant-loop-i l = l.out.items ++ flat_map (λ n. line_text (l.word ∷ n ∷ [])) (drop l.i l.names) ≡ l.initial.out.items ++ flat_map (λ n. line_text (l.word ∷ n ∷ [])) l.names
