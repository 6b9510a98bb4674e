use Rattle.std.proofs.Common.{◌∙◌, ℕ, List, Vec, ◌&&◌, sym, ap}
use Rattle.std.specs.declared.alloc.Global.{Global}
use Rattle.teb_rules.specs.declared.names.Kind.{Kind}
use Rattle.store_setup.specs.tree.Grown.{kind_numbers}
use Rattle.std.specs.List.{list_any}
use Rattle.teb_rules.specs.Setup.{among}
use Rattle.teb_rules.specs.Tree.{below, row, way}
use Rattle.teb_rules.specs.Steps.{stands_under}
use Rattle.runtime_pipeline.proofs.Ways.{kinds_more, kinds_same}
use Rattle.runtime_pipeline.proofs.under.kinds_under.Goals as goal
use Rattle.runtime_pipeline.proofs.under.kinds_under.Goals.{then-stands_among+in_ok-push, else-stands_among}

pub loop-k-init : goal.loop-k-init
unfolding below
loop-k-init c = ap (λ (l : List Kind). kind_numbers l) c.new-kinds.ensures.items

pub loop-k-preserved : goal.loop-k-preserved
unfolding stands_under
loop-k-preserved c =
    let p = stands_under c.args.tree.now.rows c.args.node.0 in
    let all = ap (λ (r : ℕ). list_any (λ m. among c.loop-k.k (row c.args.tree.now.rows m).types && among c.args.node.0 (way c.args.tree.now.rows m)) (below r)) (sym c.len-rows.ensures.count) in
    elim c.if-stands_among.branch [
      | then-stands_among+in_ok-push w ↦ ap (λ (v : Vec Kind Global). kind_numbers v.items) w.kinds-is ∙ ap (λ (l : List Kind). kind_numbers l) w.in_ok-push.ensures.items
          ∙ kinds_more p c.loop-k.k c.loop-k.kinds.items c.loop-k.invariant (all ∙ sym c.stands_among.ensures ∙ w.if-stands_among.true)
      | else-stands_among w ↦ ap (λ (v : Vec Kind Global). kind_numbers v.items) w.kinds-is
          ∙ kinds_same p c.loop-k.k c.loop-k.kinds.items c.loop-k.invariant (all ∙ sym c.stands_among.ensures ∙ w.if-stands_among.false)
    ]
