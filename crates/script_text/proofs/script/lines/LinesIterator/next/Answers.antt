use Rattle.std.proofs.Common.{◌≡◌, ◌==◌, ◌∷◌, sym, ◌∙◌, ap, arith, length}
use Rattle.script_text.specs.Lines.{lines_of}
use Rattle.script_text.proofs.LineSteps.{lines_none, lines_next}
use Rattle.script_text.proofs.script.lines.LinesIterator.next.Goals as goal

pub returns-then-len-text-clause-steps : goal.returns-then-len-text-clause-steps
returns-then-len-text-clause-steps c =
    rw (c.after_line-self.ensures)
    (lines_none _ _ c.line_len-len.ensures.end (omega arith) (sym (ap (λ l. length l == 0) c.without_return-line.ensures) ∙ sym c.is_empty.ensures ∙ c.if-is_empty.true))

some_line : (c : goal.Joined-else-is_empty) → lines_of c.args.self.now.0.now ≡ c.without_return-line.result.now ∷ lines_of c.after_line-self.result.now
some_line c =
    rw (c.after_line-self.ensures, c.without_return-line.ensures)
    (lines_next _ _ c.line_len-len.ensures.end c.line_len-len.ensures.within c.is_empty.result (sym (ap (λ l. length l == 0) c.without_return-line.ensures) ∙ sym c.is_empty.ensures)
    c.else-is_empty.either)

pub returns-else-is_empty-clause-steps : goal.returns-else-is_empty-clause-steps
returns-else-is_empty-clause-steps c = some_line c

pub returns-else-is_empty-clause-goes : goal.returns-else-is_empty-clause-goes
returns-else-is_empty-clause-goes c = record { on = λ _. (tt, tt, omega (arith, ap length (some_line c))); keeps = tt; rests = λ _. tt }
