use Rattle.std.proofs.Common.{sym, ap, ◌∙◌, arith}
use lib.Count.{count_trailing_zeros}
use Rattle.script_text.specs.Words.{is_other}
use Rattle.script_text.proofs.Loads.{run_through, run_stops, stop_within}
use Rattle.script_text.proofs.script.fronts.spaces_end.Goals as goal

pub returns-then-others-ne0-clause-end : goal.returns-then-others-ne0-clause-end
returns-then-others-ne0-clause-end c =
    let stop = run_stops is_other c.args.text.now c.loop-at.at 32 (omega arith) (omega arith) (omega (arith, c.others_of-others.ensures))
    ∙ ap (count_trailing_zeros 64) (sym c.others_of-others.ensures) in
    omega (arith, stop, c.loop-at.invariant.rest)

pub returns-then-others-ne0-clause-within : goal.returns-then-others-ne0-clause-within
returns-then-others-ne0-clause-within c =
    omega (
      arith,
      stop_within is_other c.args.text.now c.loop-at.at 32 (omega arith) (omega arith) (omega (arith, c.others_of-others.ensures)),
      ap (count_trailing_zeros 64) (sym c.others_of-others.ensures),
    )

pub loop-at-preserved : goal.loop-at-preserved
loop-at-preserved c =
    let through = run_through is_other c.args.text.now c.loop-at.at 32 (omega arith) (omega (arith, c.others_of-others.ensures)) in
    record { within = omega arith; rest = omega (arith, through, c.loop-at.invariant.rest) }
