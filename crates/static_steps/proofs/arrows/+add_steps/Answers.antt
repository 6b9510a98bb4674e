use Rattle.std.proofs.Common.{sym, arith}
use Rattle.std.proofs.lemmas.List.{drop_all}
use Rattle.teb_rules.proofs.lemmas.names.Bools.{or_false}
use Rattle.teb_rules.specs.Steps.{leads}
use Rattle.store_setup.specs.profile.Steps.{numbers_of}
use Rattle.static_steps.proofs.AddedArrows.{step_added}
use Rattle.static_steps.proofs.Bits.{none_in}
use Rattle.static_steps.proofs.arrows.+add_steps.Goals as goal

pub returns-then-from-len-clause-later : goal.returns-then-from-len-clause-later
returns-then-from-len-clause-later t c = λ b. rw (drop_all c.args.from c.args.profile.now (omega arith)) (none_in b)

pub returns-then-from-len-clause-rows : goal.returns-then-from-len-clause-rows
unfolding leads
returns-then-from-len-clause-rows t c = λ a b. rw (drop_all c.args.from c.args.profile.now (omega arith)) (sym (or_false _))

pub returns-clause-rows : goal.returns-clause-rows
returns-clause-rows t c =
    step_added c.args.profile.now c.args.from c.args.rows.now c.add_steps-behind.new.rows c.add_arrows.new.rows (numbers_of c.step-step.result.now) c.set_of.result c.add_steps-behind.result
    c.union-later.result (omega arith) c.step-step.ensures c.set_of.ensures c.add_steps-behind.ensures.later c.union-later.ensures c.add_steps-behind.ensures.rows c.add_arrows.ensures
