use Rattle.std.proofs.Common.{◌-◌, length, sym, ap, ◌∙◌, arith}
use lib.Count.{count_trailing_zeros}
use Rattle.script_text.specs.Words.{is_inside}
use Rattle.script_text.proofs.Loads.{run_through, run_stops, looked_for_from}
use Rattle.script_text.proofs.Places.{position_within}
use Rattle.script_text.proofs.script.words.blank_len.Goals as goal

pub returns-then-inside-ne0-clause-end : goal.returns-then-inside-ne0-clause-end
returns-then-inside-ne0-clause-end c =
    let stop = run_stops is_inside c.args.text.now c.loop-at.at 16 (omega arith) (omega arith) (omega (arith, c.inside_of_half-inside.ensures))
    ∙ ap (count_trailing_zeros 64) (sym c.inside_of_half-inside.ensures) in
    omega (arith, stop, c.loop-at.invariant.rest)

pub returns-then-inside-ne0-clause-within : goal.returns-then-inside-ne0-clause-within
returns-then-inside-ne0-clause-within c = omega (arith, returns-then-inside-ne0-clause-end c, position_within is_inside c.args.text.now)

pub loop-at-preserved : goal.loop-at-preserved
loop-at-preserved c =
    let through = run_through is_inside c.args.text.now c.loop-at.at 16 (omega arith) (omega (arith, c.inside_of_half-inside.ensures)) in
    record { within = omega arith; rest = omega (arith, through, c.loop-at.invariant.rest) }

pub returns-then-inside-ne0-2-clause-end : goal.returns-then-inside-ne0-2-clause-end
returns-then-inside-ne0-2-clause-end c =
    let here = looked_for_from is_inside c.args.text.now (length c.args.text.now - 16) (omega (arith, c.loop-at.invariant.rest)) in
    let stop = run_stops is_inside c.args.text.now (length c.args.text.now - 16) 16 (omega arith) (omega arith) (omega (arith, c.inside_of_half-inside-2.ensures))
    ∙ ap (count_trailing_zeros 64) (sym c.inside_of_half-inside-2.ensures) in
    omega (arith, here, stop)

pub returns-then-inside-ne0-2-clause-within : goal.returns-then-inside-ne0-2-clause-within
returns-then-inside-ne0-2-clause-within c = omega (arith, returns-then-inside-ne0-2-clause-end c, position_within is_inside c.args.text.now)

pub returns-clause-end : goal.returns-clause-end
returns-clause-end c =
    let here = looked_for_from is_inside c.args.text.now (length c.args.text.now - 16) (omega (arith, c.loop-at.invariant.rest)) in
    let through = run_through is_inside c.args.text.now (length c.args.text.now - 16) 16 (omega arith) (omega (arith, c.inside_of_half-inside-2.ensures)) in
    omega (arith, here, through, position_within is_inside c.args.text.now)
