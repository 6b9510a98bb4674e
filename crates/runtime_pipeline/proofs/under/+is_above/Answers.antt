use Rattle.std.proofs.Common.{◌≡◌, ◌∙◌, ◌+◌, ◌-◌, sym, ap, arith}
use Rattle.teb_rules.specs.Setup.{NodeRow}
use Rattle.store_setup.specs.tree.Grown.{parent_number}
use Rattle.runtime_pipeline.proofs.Ways.{climb_here, climb_stops, climb_root, climb_up}
use Rattle.runtime_pipeline.proofs.under.+is_above.Goals as goal

pub returns-then-eq : goal.returns-then-eq
returns-then-eq t c = sym (climb_here c.args.tree.now.rows c.args.node.0 c.args.parents c.args.lower.0 (sym c.eq.ensures ∙ c.if-eq.true))

pub returns-then-parents-eq0 : goal.returns-then-parents-eq0
returns-then-parents-eq0 t c = sym (climb_stops c.args.tree.now.rows c.args.node.0 c.args.parents c.args.lower.0 (sym c.eq.ensures ∙ c.if-eq.false) c.if-parents-eq0.true)

pub returns-in-Some : goal.returns-in-Some
returns-in-Some t c =
    let parent = ap (λ (r : NodeRow). r.parent) (sym c.row.ensures) in
    let next : c.args.parents ≡ c.args.parents - 1 + 1 = omega arith in
    c.is_above.ensures ∙ sym (climb_up c.args.tree.now.rows c.args.node.0 c.args.parents (c.args.parents - 1) c.args.lower.0 c.in-Some.parent.0 (sym c.eq.ensures ∙ c.if-eq.false)
    (parent ∙ ap parent_number c.in-Some.is) next)

pub returns-in-None : goal.returns-in-None
returns-in-None t c =
    let parent = ap (λ (r : NodeRow). r.parent) (sym c.row.ensures) in
    sym (climb_root c.args.tree.now.rows c.args.node.0 c.args.parents c.args.lower.0 (sym c.eq.ensures ∙ c.if-eq.false) (parent ∙ ap parent_number c.in-None.is))
