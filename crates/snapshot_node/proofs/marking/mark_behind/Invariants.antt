use Rattle.std.proofs.Common.{ℕ}
use Rattle.teb_rules.specs.laws.Lawful.{Lawful}
use Rattle.phase_api.specs.FactsView.{setup_of, events_of}
use Rattle.snapshot_node.specs.Marks.{HaveGrown, IsTold}
use Rattle.snapshot_node.specs.Pivots.{IsAcross}
use Rattle.snapshot_node.proofs.Grown.{EachBefore}
use Rattle.snapshot_node.proofs.marking.mark_behind.Given as goal

abbrev pub invariant-loop-u : goal.invariant-loop-u
invariant-loop-u l =
    let S = setup_of l.fn.asked.facts.now in
    let H = events_of l.fn.asked.facts.now in
    let n = l.fn.asked.register.now.node.0 in
    let t = l.fn.t.0 in
    record {
      grown : HaveGrown l.fn.marks l.marks;
      told : EachBefore (λ (u : ℕ). Lawful S H × IsAcross S H n t t l.fn.among u) (λ (u : ℕ). IsTold S H n l.marks u t) (record { 0 = 0 }) l.fn.among l.u-index;
    }
