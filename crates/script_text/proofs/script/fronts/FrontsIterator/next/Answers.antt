use Rattle.std.proofs.Common.{◌≡◌, ◌∷◌, map, take, length, sym, ◌∙◌, ap, arith}
use Rattle.std.specs.Str.Lines.{strip_carriage_return}
use Rattle.script_text.specs.Lines.{lines_of}
use Rattle.script_text.specs.Words.{words_of}
use Rattle.script_text.proofs.LineSteps.{lines_first}
use Rattle.script_text.proofs.script.fronts.FrontsIterator.next.Goals as goal

first_line : (c : goal.After-self-1) → lines_of c.args.self.now.0.now ≡ strip_carriage_return (take c.in-Some.len c.args.self.now.0.now) ∷ lines_of c.after_line-self.result.now
first_line c = rw (c.after_line-self.ensures) (lines_first _ _ c.in-Some.ensures.end c.in-Some.ensures.within)

pub returns-in-Some-clause-steps : goal.returns-in-Some-clause-steps
returns-in-Some-clause-steps c =
    (ap (map words_of) (first_line c) ∙ ap (λ w. w ∷ map words_of (lines_of c.after_line-self.result.now)) (sym c.in-Some.ensures.words), c.in-Some.ensures.mask)

pub returns-in-Some-clause-goes : goal.returns-in-Some-clause-goes
returns-in-Some-clause-goes c = record { on = λ _. (tt, tt, omega (arith, ap length (first_line c))); keeps = tt; rests = λ _. tt }
