use Rattle.std.proofs.Common.{◌∙◌, sym, arith}
use Rattle.store_setup.proofs.lemmas.profile.LeastStep.{least_step_here, no_least_step}
use Rattle.store_setup.proofs.profile.profile.Profile.cursor_after.Goals as goal

pub returns-then-has_table : goal.returns-then-has_table
returns-then-has_table c =
    let here = rw c.step.ensures at (sym c.has_table.ensures ∙ c.if-has_table.true) in
    sym (least_step_here c.args.self.now c.args.cursor c.loop-i.i c.args.table.0 (omega arith) (omega arith) here c.loop-i.invariant)

pub returns : goal.returns
returns c = sym (no_least_step c.args.self.now c.args.cursor c.args.table.0 (λ k from within. c.loop-i.invariant k from (omega arith)))
