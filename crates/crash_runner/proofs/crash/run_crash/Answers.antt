use Rattle.std.proofs.Common.{◌∙◌, List, sym, ap, subst, subst₂}
use Rattle.record_journal.specs.Format.{Whole}
use Rattle.script_text.specs.declared.Line.{Line}
use Rattle.script_text.specs.declared.Answered.{Answered}
use Rattle.store_setup.specs.SetupView.{SetupView}
use Rattle.store_setup.specs.Sound.{IsWhole, IsNamed}
use Rattle.store_setup.specs.Stores.{store_of_view, names_of}
use Rattle.crash_runner.specs.Crashes.{crash_text}
use Rattle.crash_runner.specs.Underway.{IsRunOn}
use Rattle.crash_runner.proofs.Memory.{tally_of, safe_of}
use Rattle.crash_runner.proofs.Results.{replies_named, rows_named, is_crash}
use Rattle.crash_runner.proofs.crash.run_crash.Goals as goal

pub text_of-requires-clause-replies : goal.text_of-requires-clause-replies
text_of-requires-clause-replies c =
    let setup = c.into_parts-setup in
    let is = setup.ensures.setup in
    let m = c.args.input.setup in
    let made = c.in_ok-run.run' in
    let whole = subst IsWhole is setup.ensures.whole in
    let nodes = subst IsNamed is setup.ensures.named in
    let named = c.in_ok-start.ensures.names ∙ ap names_of is in
    let run = subst₂ (λ (n : SetupView) (lines : List Line). IsRunOn c.args.stop (store_of_view n) lines made.given.items made.stopped (tally_of made.disk) (safe_of made.disk)) is
    (c.deref.ensures.value ∙ setup.ensures.lines.0) c.in_ok-run.ensures in
    replies_named c.args.stop c.args.input whole nodes c.in_ok-start.start.names named made.given.items made.stopped (tally_of made.disk) (safe_of made.disk) run c.deref-2.result.now
    c.deref-2.ensures.value

pub text_of-requires-clause-rows : goal.text_of-requires-clause-rows
text_of-requires-clause-rows c =
    let setup = c.into_parts-setup in
    let is = setup.ensures.setup in
    let m = c.args.input.setup in
    let made = c.in_ok-run.run' in
    let whole = subst IsWhole is setup.ensures.whole in
    let nodes = subst IsNamed is setup.ensures.named in
    let named = c.in_ok-start.ensures.names ∙ ap names_of is in
    let run = subst₂ (λ (n : SetupView) (lines : List Line). IsRunOn c.args.stop (store_of_view n) lines made.given.items made.stopped (tally_of made.disk) (safe_of made.disk)) is
    (c.deref.ensures.value ∙ setup.ensures.lines.0) c.in_ok-run.ensures in
    rows_named c.args.stop c.args.input whole nodes c.in_ok-start.start.names named made.given.items made.stopped (tally_of made.disk) (safe_of made.disk) run
    c.in_ok-found.found.commits c.in_ok-found.found.rows.items c.in_ok-start.start.rows (c.in_ok-start.ensures.rows ∙ ap (λ (n : SetupView). n.rows) is) c.in_ok-found.ensures.ascending
    (λ rs e. c.in_ok-found.ensures.found rs (run.kept ∙ ap Whole (sym e)))

pub returns-clause-shown : goal.returns-clause-shown
returns-clause-shown c =
    let setup = c.into_parts-setup in
    let is = setup.ensures.setup in
    let m = c.args.input.setup in
    let made = c.in_ok-run.run' in
    let whole = subst IsWhole is setup.ensures.whole in
    let nodes = subst IsNamed is setup.ensures.named in
    let named = c.in_ok-start.ensures.names ∙ ap names_of is in
    let run = subst₂ (λ (n : SetupView) (lines : List Line). IsRunOn c.args.stop (store_of_view n) lines made.given.items made.stopped (tally_of made.disk) (safe_of made.disk)) is
    (c.deref.ensures.value ∙ setup.ensures.lines.0) c.in_ok-run.ensures in
    is_crash c.args.stop c.args.input whole nodes c.in_ok-start.start.names named made.given.items made.stopped (tally_of made.disk) (safe_of made.disk) run
    c.in_ok-found.found.commits c.in_ok-found.found.rows.items c.in_ok-start.start.rows (c.in_ok-start.ensures.rows ∙ ap (λ (n : SetupView). n.rows) is) c.in_ok-found.ensures.ascending
    (λ rs e. c.in_ok-found.ensures.found rs (run.kept ∙ ap Whole (sym e)))
    c.new.result c.in_ok-text.text.items c.new.ensures
    (c.in_ok-text.ensures ∙ ap (λ (given : List Answered). crash_text c.in_ok-start.start.names given made.stopped c.in_ok-found.found.commits c.in_ok-found.found.rows.items) c.deref-2.ensures.value)
