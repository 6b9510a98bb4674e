use Rattle.std.proofs.Common.{◌∙◌, ◌+◌, get_or, sym, arith}
use Rattle.audit_check.proofs.ReadSteps.{next_within, run_more, run_over, runs_none}
use Rattle.audit_check.proofs.reads.run.Goals as goal

pub loop-at-init : goal.loop-at-init
loop-at-init c = record {
  all = c.requires.all;
  to = 0;
  within = omega arith;
  rest = sym (c.list_at-at-items.ensures ∙ c.requires.own c.args.txn);
  runs = λ T held. runs_none c.args.txn c.args.lines.now T c.args.replay.now.wrong.items c.args.replay.now.table.values.entries held;
}

pub bounds-lines-i : goal.bounds-lines-i
bounds-lines-i c =
    next_within c.args.txn c.args.lines.now c.list_at-at-items.result.now c.loop-at.invariant.to c.loop-at.at-index c.loop-at.invariant.within c.loop-at.invariant.rest c.loop-at-test.true

pub step-requires : goal.step-requires
step-requires c =
    let within = next_within c.args.txn c.args.lines.now c.list_at-at-items.result.now c.loop-at.invariant.to c.loop-at.at-index c.loop-at.invariant.within c.loop-at.invariant.rest
    c.loop-at-test.true in
    omega (arith, within, c.loop-at.invariant.all)

pub loop-at-preserved : goal.loop-at-preserved
loop-at-preserved c =
    let items = c.list_at-at-items.result.now in
    let more = run_more c.args.txn c.args.lines.now items c.loop-at.invariant.to c.loop-at.at-index c.loop-at.invariant.within c.loop-at.invariant.rest
    c.args.replay.now.table.values.entries c.loop-at.replay.table.values.entries c.args.replay.now.wrong.items c.loop-at.replay.wrong.items c.loop-at.invariant.runs
    c.step.new.replay.table.values.entries c.step.new.replay.wrong.items c.index-lines-i.result c.loop-at-test.true c.index-lines-i.is c.in_ok-step.ensures.steps in
    record {
      all = c.in_ok-step.ensures.length ∙ c.loop-at.invariant.all;
      to = get_or items c.loop-at.at-index 0 + 1;
      within = more.0;
      rest = more.1;
      runs = more.2;
    }

pub returns-clause-runs : goal.returns-clause-runs
returns-clause-runs c =
    run_over c.args.txn c.args.lines.now c.list_at-at-items.result.now c.loop-at.invariant.to c.loop-at.at-index c.loop-at.invariant.within c.loop-at.invariant.rest
    c.args.replay.now.table.values.entries c.loop-at.replay.table.values.entries c.args.replay.now.wrong.items c.loop-at.replay.wrong.items c.loop-at.invariant.runs c.loop-at-test.false
