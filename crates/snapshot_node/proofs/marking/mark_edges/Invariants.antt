use Rattle.std.proofs.Common.{◌≡◌, ℕ}
use Rattle.phase_api.specs.FactsView.{setup_of, events_of}
use Rattle.snapshot_node.specs.Asking.{IsGranted}
use Rattle.snapshot_node.specs.Marks.{HaveGrown, IsTold}
use Rattle.snapshot_node.proofs.Accessed.{accesses_of}
use Rattle.snapshot_node.proofs.CellEdges.{Ahead, Behind}
use Rattle.snapshot_node.proofs.Covers.{Covers}
use Rattle.snapshot_node.proofs.marking.mark_edges.Given as goal

abbrev pub invariant-loop-access : goal.invariant-loop-access
invariant-loop-access l =
    let S = setup_of l.fn.asked.facts.now in
    let H = events_of l.fn.asked.facts.now in
    let n = l.fn.asked.register.now.node.0 in
    let t = l.fn.t.0 in
    record {
      book : l.access-iterator.book ≡ l.fn.asked.register.now.accesses;
      grown : HaveGrown l.fn.marks l.marks;
      ahead : IsGranted l.fn.asked t → Covers (Ahead S H n t t) (λ (u : ℕ). IsTold S H n l.marks t u) (accesses_of H t) l.access-iterator.left;
      behind : IsGranted l.fn.asked t → Covers (Behind S H n t t) (λ (u : ℕ). IsTold S H n l.marks u t) (accesses_of H t) l.access-iterator.left;
    }
