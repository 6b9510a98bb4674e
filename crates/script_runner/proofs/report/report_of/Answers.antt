use Rattle.std.proofs.Common.{◌≡◌, ℕ, List, refl, sym, ◌∙◌, ap, subst}
use Rattle.std.specs.List.{flat_map}
use Rattle.teb_rules.specs.declared.names.naming.NameBook.{NameBook}
use Rattle.script_text.specs.Texts.{reply_text}
use Rattle.answer_log.specs.Telling.{HasLines}
use Rattle.printed_run.specs.Printed.{IsReportAfter}
use Rattle.printed_run.proofs.Histories.{rows_named}
use Rattle.script_runner.proofs.Runs.{history_over, replies_named}
use Rattle.script_runner.proofs.report.report_of.Goals as goal

pub put_ending-requires : goal.put_ending-requires
put_ending-requires g c = rows_named c.requires.0 _ _ _ (history_over c.requires.0 _ _ _ _ c.requires.2)

pub returns : goal.returns
returns g c = λ m answers over told.
    let engine = c.args.engine.now in
    let names = c.setup.ensures.names in
    let lines = c.in_ok-text.ensures answers (subst (λ (b : NameBook). HasLines c.args.replies b answers) (sym names) told)
    (replies_named m _ _ _ _ over c.setup.result.now.names answers names refl) in
    let front : c.in_ok-text.text.items ≡ flat_map (reply_text engine.names) answers = lines ∙ ap (λ (b : NameBook). flat_map (reply_text b) answers) names in
    subst (λ (text : List ℕ). IsReportAfter text engine.store engine.names engine.events c.put_ending.new.out.items) front c.in_ok-put_ending.ensures.ok
