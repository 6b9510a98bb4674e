use Rattle.std.proofs.Common.{◌≡◌, ℕ, suc, ◌+◌, ◌&&◌, ◌∙◌, sym, subst, find, take, None, arith}
use Rattle.teb_rules.specs.declared.names.Txn.{Txn}
use Rattle.teb_rules.specs.history.Phases.{unfinished}
use Rattle.teb_rules.specs.Tree.{meets}
use Rattle.phase_api.specs.FactsView.{setup_of, events_of}
use Rattle.commit_gate.proofs.Finds.{find_hit, find_miss}
use Rattle.commit_gate.proofs.sources.unfinished_source.Goals as goal

pub returns-then-is_waited_for : goal.returns-then-is_waited_for
returns-then-is_waited_for c =
    find_hit (λ (w : Txn). unfinished (events_of c.args.facts.now) w.0 && meets (setup_of c.args.facts.now) (events_of c.args.facts.now) c.args.n.0 c.args.t.0 w.0)
    c.args.sources.now c.loop-w.w-index (record { 0 = 0 }) c.loop-w-test.true c.loop-w.invariant (sym c.is_waited_for.ensures ∙ c.if-is_waited_for.true)

pub loop-w-preserved : goal.loop-w-preserved
loop-w-preserved c =
    let q = λ (w : Txn). unfinished (events_of c.args.facts.now) w.0 && meets (setup_of c.args.facts.now) (events_of c.args.facts.now) c.args.n.0 c.args.t.0 w.0 in
    let next : suc c.loop-w.w-index ≡ c.loop-w.w-index + 1 = omega arith in
    subst (λ (i : ℕ). find q (take i c.args.sources.now) ≡ None) next
    (find_miss q c.args.sources.now c.loop-w.w-index (record { 0 = 0 }) c.loop-w-test.true c.loop-w.invariant (sym c.is_waited_for.ensures ∙ c.if-is_waited_for.false))
