use Rattle.std.proofs.Common.{◌∙◌, ℕ, not, refl, sym, ap, subst}
use Rattle.phase_api.specs.FactsView.{setup_of, events_of}
use Rattle.snapshot_node.specs.Pivots.{IsLeastEdge, Leads}
use Rattle.snapshot_node.proofs.Middles.{least_none}
use Rattle.snapshot_node.proofs.Known.{edge_with, edge_without}
use Rattle.snapshot_node.proofs.validation.Validation.edge_out.Goals as goal

pub returns-then-is_none : goal.returns-then-is_none
returns-then-is_none c =
    let v = c.args.self.now in
    let S = setup_of v.asked.facts.now in
    let H = events_of v.asked.facts.now in
    let n = v.asked.register.now.node.0 in
    edge_without S H n v.t c.args.b.0 c.edge_aside-known.result c.edge_aside-known.ensures
    (λ u x. least_none (λ (a : ℕ). Leads S H n v.t.0 a v.t.0) c.args.own.behind _ refl (c.is_none.ensures ∙ ap not c.if-is_none.true) c.requires.own.behind u x.out)

pub returns-in-Some : goal.returns-in-Some
returns-in-Some c =
    let v = c.args.self.now in
    let S = setup_of v.asked.facts.now in
    let H = events_of v.asked.facts.now in
    let n = v.asked.register.now.node.0 in
    subst (IsLeastEdge S H n v.t.0 c.args.b.0) (sym c.earlier.ensures)
    (edge_with S H n v.t c.args.b.0 c.edge_aside-known.result c.in-Some.c c.edge_aside-known.ensures c.in-Some.ensures)

pub returns-in-None : goal.returns-in-None
returns-in-None c =
    let v = c.args.self.now in
    edge_without (setup_of v.asked.facts.now) (events_of v.asked.facts.now) v.asked.register.now.node.0 v.t c.args.b.0 c.edge_aside-known.result c.edge_aside-known.ensures c.in-None.ensures
