use Rattle.std.proofs.Common.{◌∙◌, sym, ap}
use Rattle.phase_api.specs.FactsView.{setup_of, events_of}
use Rattle.teb_rules.proofs.lemmas.laws.Sound.{tree_facts}
use Rattle.snapshot_node.specs.Pivots.{break_by}
use Rattle.snapshot_node.proofs.Batchmates.{leads_here}
use Rattle.snapshot_node.proofs.Searching.{none_said, pivot_said}
use Rattle.snapshot_node.proofs.Reach.{unprepared}
use Rattle.snapshot_node.proofs.validation.Validation.least_pivot.Goals as goal

pub returns-then-is_prepared : goal.returns-then-is_prepared
returns-then-is_prepared c =
    let S = setup_of c.args.self.now.asked.facts.now in
    let H = events_of c.args.self.now.asked.facts.now in
    let n = c.args.self.now.asked.register.now.node.0 in
    let t = c.args.self.now.t.0 in
    none_said S H n t c.args.self.now.asked.stands.kind (λ x y z w p. unprepared S H n t c.args.self.now.lawful (tree_facts S c.args.self.now.tree) c.args.self.now.asked.stands.kind x y z w p
    (sym c.is_prepared.ensures ∙ c.if-is_prepared.true))

pub returns-then-not-is_near : goal.returns-then-not-is_near
returns-then-not-is_near c =
    none_said (setup_of c.args.self.now.asked.facts.now) (events_of c.args.self.now.asked.facts.now) c.args.self.now.asked.register.now.node.0 c.args.self.now.t.0 c.args.self.now.asked.stands.kind
    (λ x y z w p. c.is_near.ensures c.if-not-is_near.true x (record { second = y; third = z; fourth = w; pivot = p }))

pub returns-in_err-a : goal.returns-in_err-a
returns-in_err-a c = ap break_by c.from_residual.ensures ∙
    none_said (setup_of c.args.self.now.asked.facts.now) (events_of c.args.self.now.asked.facts.now) c.args.self.now.asked.register.now.node.0 c.args.self.now.t.0 c.args.self.now.asked.stands.kind
    (λ x y z w p. c.in_err-a.ensures x (record { second = y; third = z; fourth = w; pivot = p }))

pub least_middle-requires-clause-here : goal.least_middle-requires-clause-here
least_middle-requires-clause-here c = (leads_here c.args.self.now.asked.facts.now c.args.self.now.asked.register.now.node.0 c.args.self.now.t.0 _ _ c.args.self.now.asked.stands.orderly
    c.in_ok-a.ensures.0.pivot.into).0

pub edge_out-requires-clause-here : goal.edge_out-requires-clause-here
edge_out-requires-clause-here c = (leads_here c.args.self.now.asked.facts.now c.args.self.now.asked.register.now.node.0 c.args.self.now.t.0 _ _ c.args.self.now.asked.stands.orderly
    c.in_ok-b.ensures.0.into).1

pub returns : goal.returns
returns c = pivot_said (setup_of c.args.self.now.asked.facts.now) (events_of c.args.self.now.asked.facts.now) c.args.self.now.asked.register.now.node.0 c.args.self.now.t.0
    c.args.self.now.asked.stands.orderly c.in_ok-a.a c.in_ok-b.b c.in_ok-c.c c.in_ok-c.d c.in_ok-a.ensures c.in_ok-b.ensures c.in_ok-c.ensures c.args.self.now.asked.stands.kind
