use Rattle.std.proofs.Common.{Ok, ◌+◌, map, sym, ◌∙◌, ap, arith}
use Rattle.script_text.specs.Grammar.{at_line}
use Rattle.script_text.specs.Words.{words_of}
use Rattle.script_text.proofs.ParsedSessions.{answered_sessions}
use Rattle.script_text.proofs.ScriptSteps.{behind, book_script, fewer, script_by, script_more, script_bad, script_end}
use Rattle.script_text.proofs.script.parse_script.Goals as goal

pub returns-in-Err-clause-lines : goal.returns-in-Err-clause-lines
returns-in-Err-clause-lines c =
    book_script c.args.names.now c.new-book.result _ c.args.script.now c.new-book.ensures ∙ sym c.loop-front.invariant.rest
    ∙ ap (λ l. behind c.loop-front.lines.items (script_by c.new-book.result c.args.format (c.loop-front.number + 1) l)) c.in-Some.ensures.steps.0
    ∙ script_bad _ _ _ _ _ _ _ (ap (at_line (c.loop-front.number + 1)) (sym c.in-Err.ensures))

pub loop-front-preserved : goal.loop-front-preserved
loop-front-preserved c = record {
  count = omega (arith, c.loop-front.invariant.count, fewer _ _ _ c.in-Some.ensures.steps.0);
  rest =
      script_more _ _ _ _ _ _ _ _ (ap (at_line (c.loop-front.number + 1)) (sym c.in-Ok.ensures)) c.in_ok-add_line-in-Ok.ensures
      ∙ ap (λ l. behind c.loop-front.lines.items (script_by c.new-book.result c.args.format (c.loop-front.number + 1) l)) (sym c.in-Some.ensures.steps.0)
      ∙ c.loop-front.invariant.rest;
}

pub returns-clause-lines : goal.returns-clause-lines
returns-clause-lines c =
    book_script c.args.names.now c.new-book.result _ c.args.script.now c.new-book.ensures ∙ sym c.loop-front.invariant.rest ∙ script_end _ _ _ _ _ (ap (map words_of) c.in-None.ensures.steps.0)

pub returns-clause-sessions : goal.returns-clause-sessions
returns-clause-sessions c = answered_sessions c.args.names.now c.args.format c.args.script.now (Ok c.loop-front.lines) (returns-clause-lines c)
