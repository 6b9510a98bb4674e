use Rattle.std.proofs.Common.{◌≡◌, ◌==◌, ◌∷◌, sym, ◌∙◌, ap, arith, length, take}
use Rattle.script_text.specs.Words.{words_of}
use Rattle.script_text.proofs.WordSteps.{word_next, word_none}
use Rattle.script_text.proofs.script.words.WordsIterator.next.Goals as goal

pub returns-then-is_empty-clause-steps : goal.returns-then-is_empty-clause-steps
returns-then-is_empty-clause-steps c =
    rw (c.split_at.ensures.back, c.without_blanks-text.ensures)
    (word_none _ _ (rw (c.without_blanks-text.ensures) at c.word_len.ensures.end) (rw (c.without_blanks-text.ensures) at c.word_len.ensures.within)
    (sym (ap (λ l. length l == 0) (c.split_at.ensures.front ∙ ap (take c.word_len.result) c.without_blanks-text.ensures)) ∙ sym c.is_empty.ensures ∙ c.if-is_empty.true))

some_word : (c : goal.Else-is_empty) → words_of c.args.self.now.0.now ≡ c.split_at.result.0.now ∷ words_of c.split_at.result.1.now
some_word c =
    rw (c.split_at.ensures.front, c.split_at.ensures.back, c.without_blanks-text.ensures)
    (word_next _ _ (rw (c.without_blanks-text.ensures) at c.word_len.ensures.end)
    (sym (ap (λ l. length l == 0) (c.split_at.ensures.front ∙ ap (take c.word_len.result) c.without_blanks-text.ensures)) ∙ sym c.is_empty.ensures ∙ c.if-is_empty.false))

pub returns-else-is_empty-clause-steps : goal.returns-else-is_empty-clause-steps
returns-else-is_empty-clause-steps c = some_word c

pub returns-else-is_empty-clause-goes : goal.returns-else-is_empty-clause-goes
returns-else-is_empty-clause-goes c = record { on = λ _. (tt, tt, omega (arith, ap length (some_word c))); keeps = tt; rests = λ _. tt }
