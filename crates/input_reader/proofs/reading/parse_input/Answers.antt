use Rattle.std.proofs.Common.{◌≡◌, ◌≤◌, ℕ, Bool, false, nat_lt, sym, arith}
use Rattle.std.proofs.lemmas.Bool.Decides.{nat_tests}
use Rattle.std.proofs.lemmas.Result.{err_from_is_err_and}
use Rattle.store_setup.specs.SetupView.{setup_view}
use Rattle.script_text.specs.declared.input.TheConstants.{MOST_LINES}
use Rattle.input_reader.proofs.Parsed.{is_input, is_bad}
use Rattle.input_reader.proofs.reading.parse_input.Goals as goal

few_lines : {n : ℕ} {b : Bool} → b ≡ nat_lt MOST_LINES n → b ≡ false → n ≤ MOST_LINES
few_lines is few = grind (arith, nat_tests)

pub returns-in_err-lines : goal.returns-in_err-lines
returns-in_err-lines c =
    let p = err_from_is_err_and c.from_residual-in_err-lines.result c.from_residual-in_err-lines.ensures.1 in
    rw (p.1, p.2)
    (is_bad c.args.bytes.now c.in-Some.tree.now c.in-Some.script.now c.requires (sym c.in-Some.ensures) (few_lines c.has_more_lines.ensures c.if-has_more_lines.false) (setup_view c.in_ok-setup.setup)
    c.in_ok-setup.ensures.setup _ c.in_err-lines.ensures.lines)

pub returns : goal.returns
returns c =
    is_input c.args.bytes.now c.in-Some.tree.now c.in-Some.script.now c.requires (sym c.in-Some.ensures) (few_lines c.has_more_lines.ensures c.if-has_more_lines.false) (setup_view c.in_ok-setup.setup)
    c.in_ok-setup.ensures.setup _ _ c.in_ok-lines.ensures.lines c.new.ensures
