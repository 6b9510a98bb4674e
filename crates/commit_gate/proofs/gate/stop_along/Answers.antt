use Rattle.std.proofs.Common.{◌∙◌, sym}
use Rattle.teb_rules.specs.declared.Verdict.TheVariants.{Wait, Break}
use Rattle.teb_rules.specs.Stops.{on_commit}
use Rattle.phase_api.specs.FactsView.{setup_of, events_of}
use Rattle.phase_api.proofs.StopAlong.{stop_next, stop_here, stop_end}
use Rattle.commit_gate.proofs.CommitWaits.{way_at}
use Rattle.commit_gate.proofs.gate.stop_along.Goals as goal

pub verdict_at-requires-clause-node : goal.verdict_at-requires-clause-node
verdict_at-requires-clause-node g c = (way_at c.args.facts.now c.args.t.0 c.args.way.now c.loop-n.n-index _ c.requires.way c.loop-n-test.true).0

pub verdict_at-requires-clause-here : goal.verdict_at-requires-clause-here
verdict_at-requires-clause-here g c = (way_at c.args.facts.now c.args.t.0 c.args.way.now c.loop-n.n-index _ c.requires.way c.loop-n-test.true).1

pub returns-in-Wait : goal.returns-in-Wait
returns-in-Wait g c = stop_here (on_commit (setup_of c.args.facts.now) (events_of c.args.facts.now) c.args.t.0) c.args.way.now c.loop-n.n-index _ (Wait c.in-Wait.who) c.loop-n-test.true
    (sym c.in-Wait.is ∙ c.verdict_at.ensures) (λ e. cc) c.loop-n.invariant

pub returns-in-Break : goal.returns-in-Break
returns-in-Break g c = stop_here (on_commit (setup_of c.args.facts.now) (events_of c.args.facts.now) c.args.t.0) c.args.way.now c.loop-n.n-index _ (Break c.in-Break.broken) c.loop-n-test.true
    (sym c.in-Break.is ∙ c.verdict_at.ensures) (λ e. cc) c.loop-n.invariant

pub loop-n-preserved : goal.loop-n-preserved
loop-n-preserved g c = stop_next (on_commit (setup_of c.args.facts.now) (events_of c.args.facts.now) c.args.t.0) c.args.way.now c.loop-n.n-index _ _ c.loop-n-test.true c.verdict_at.ensures c.in-Go.is
    c.loop-n.invariant

pub returns : goal.returns
returns g c = stop_end (on_commit (setup_of c.args.facts.now) (events_of c.args.facts.now) c.args.t.0) c.args.way.now c.loop-n.n-index c.loop-n-test.false c.loop-n.invariant
