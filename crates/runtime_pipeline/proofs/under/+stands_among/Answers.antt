use Rattle.std.proofs.Common.{◌≡◌, ◌∙◌, ◌+◌, ◌-◌, ◌&&◌, Bool, List, true, false, sym, ap, arith}
use Rattle.teb_rules.specs.declared.names.Kind.{Kind}
use Rattle.teb_rules.specs.Setup.{NodeRow, among}
use Rattle.teb_rules.specs.Tree.{row, way}
use Rattle.store_setup.specs.tree.Grown.{kind_numbers}
use Rattle.runtime_pipeline.proofs.Ways.{any_none, any_found, any_last}
use Rattle.runtime_pipeline.proofs.under.+stands_among.Goals as goal

pub returns-then-rows-eq0 : goal.returns-then-rows-eq0
returns-then-rows-eq0 t c = sym (any_none _ c.args.rows c.if-rows-eq0.true)

pub returns-then-stands_among : goal.returns-then-stands_among
returns-then-stands_among t c =
    let next : c.args.rows ≡ c.args.rows - 1 + 1 = omega arith in
    c.if-stands_among.true ∙ any_found (λ m. among c.args.kind.0 (row c.args.tree.now.rows m).types && among c.args.node.0 (way c.args.tree.now.rows m)) c.args.rows (c.args.rows - 1) next
    (sym c.stands_among.ensures ∙ c.if-stands_among.true)

pub returns-then-has_kind : goal.returns-then-has_kind
unfolding way
returns-then-has_kind t c =
    let next : c.args.rows ≡ c.args.rows - 1 + 1 = omega arith in
    let has : among c.args.kind.0 (row c.args.tree.now.rows (c.args.rows - 1)).types ≡ true = ap (λ (r : NodeRow). among c.args.kind.0 r.types) (sym c.row.ensures)
    ∙ ap (λ (l : List Kind). among c.args.kind.0 (kind_numbers l)) (sym c.deref.ensures.value) ∙ sym c.has_kind.ensures ∙ c.if-has_kind.true in
    any_last (λ m. among c.args.kind.0 (row c.args.tree.now.rows m).types && among c.args.node.0 (way c.args.tree.now.rows m)) c.args.rows (c.args.rows - 1) _ next
    (sym c.stands_among.ensures ∙ c.if-stands_among.false)
    (ap (λ (b : Bool). b && among c.args.node.0 (way c.args.tree.now.rows (c.args.rows - 1))) has ∙ sym c.is_above.ensures)

pub returns-else-has_kind : goal.returns-else-has_kind
returns-else-has_kind t c =
    let next : c.args.rows ≡ c.args.rows - 1 + 1 = omega arith in
    let has : among c.args.kind.0 (row c.args.tree.now.rows (c.args.rows - 1)).types ≡ false = ap (λ (r : NodeRow). among c.args.kind.0 r.types) (sym c.row.ensures)
    ∙ ap (λ (l : List Kind). among c.args.kind.0 (kind_numbers l)) (sym c.deref.ensures.value) ∙ sym c.has_kind.ensures ∙ c.if-has_kind.false in
    any_last (λ m. among c.args.kind.0 (row c.args.tree.now.rows m).types && among c.args.node.0 (way c.args.tree.now.rows m)) c.args.rows (c.args.rows - 1) _ next
    (sym c.stands_among.ensures ∙ c.if-stands_among.false)
    (ap (λ (b : Bool). b && among c.args.node.0 (way c.args.tree.now.rows (c.args.rows - 1))) has ∙ sym c.if-has_kind.false)
