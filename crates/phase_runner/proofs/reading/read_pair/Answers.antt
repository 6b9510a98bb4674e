use Rattle.std.proofs.Common.{sym, arith}
use Rattle.std.specs.Option.{option_copied}
use Rattle.std.proofs.lemmas.Result.{err_from_is_err_and}
use Rattle.script_text.proofs.LineSteps.{lines_length}
use Rattle.store_setup.specs.SetupView.{setup_view}
use Rattle.phase_runner.proofs.PairSteps.{is_refused, is_bad, is_task}
use Rattle.phase_runner.proofs.reading.read_pair.Goals as goal

pub returns-in_err-check_following : goal.returns-in_err-check_following
returns-in_err-check_following c =
    let p = err_from_is_err_and c.from_residual-in_err-check_following.result c.from_residual-in_err-check_following.ensures.1 in
    rw (p.1, p.2)
    (is_refused c.args.pair.number (option_copied c.args.before) (c.args.pair.tree.now, c.args.pair.script.now) (setup_view c.in_ok-setup.setup) c.in_ok-setup.ensures.setup
    c.in_err-check_following.field-0.0 (sym c.in_err-check_following.ensures))

pub parse_script-requires : goal.parse_script-requires
parse_script-requires c = omega (arith, lines_length c.args.pair.script.now, c.requires)

pub returns-in_err-lines : goal.returns-in_err-lines
returns-in_err-lines c =
    let p = err_from_is_err_and c.from_residual-in_err-lines.result c.from_residual-in_err-lines.ensures.1 in
    rw (p.1, p.2)
    (is_bad c.args.pair.number (option_copied c.args.before) (c.args.pair.tree.now, c.args.pair.script.now) (setup_view c.in_ok-setup.setup) c.in_ok-setup.ensures.setup c.in_ok-check_following.field-0
    (sym c.in_ok-check_following.ensures) c.in_err-lines.field-0.0 c.in_err-lines.ensures.lines)

pub returns : goal.returns
returns c =
    is_task c.args.pair.number (option_copied c.args.before) (c.args.pair.tree.now, c.args.pair.script.now) (setup_view c.in_ok-setup.setup) c.in_ok-setup.ensures.setup c.in_ok-check_following.field-0
    (sym c.in_ok-check_following.ensures) c.new.result c.in_ok-lines.lines.items c.in_ok-lines.ensures.lines c.new.ensures
