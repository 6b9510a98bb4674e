use Rattle.std.proofs.Common.{◌≡◌, ℕ, map, ◌∙◌, ap, unwrap_or, Option, arith}
use Rattle.store_setup.specs.tree.Grown.{node_numbers, rows_of}
use Rattle.store_setup.specs.tree.Homes.{part_paths, parts_of, spot_of}
use Rattle.teb_rules.specs.Tree.{below, leaf, path, way}
use Rattle.store_setup.proofs.lemmas.tree.Below.{map_none, map_step}
use Rattle.store_setup.proofs.tree.homes.part_paths.Goals as goal

pub loop-part-init : goal.loop-part-init
loop-part-init c = map_none node_numbers (λ i. path (rows_of c.args.rows.now) (spot_of c.args.k.0 i)) c.in_ok-paths.paths.items c.in_ok-paths.ensures.items

pub loop-part-preserved : goal.loop-part-preserved
unfolding path
loop-part-preserved c = map_step node_numbers (λ i. path (rows_of c.args.rows.now) (spot_of c.args.k.0 i)) c.loop-part.part c.loop-part.paths.items c.push.new.self.items c.in_ok-way_to.field-0
    c.in_ok-push.ensures.items c.loop-part.invariant
    (c.in_ok-way_to.ensures ∙ ap (way (rows_of c.args.rows.now)) c.leaf_of.ensures ∙ ap (λ (i : ℕ). way (rows_of c.args.rows.now) (leaf (rows_of c.args.rows.now) (spot_of c.args.k.0 i)))
    c.from-in-loop-part.ensures)

pub returns : goal.returns
unfolding part_paths
returns c =
    let z : c.loop-part.part ≡ c.unwrap_or-parts.result = omega (arith, c.loop-part-test.false, c.loop-part.auto.part-end) in
    let e : c.loop-part.part ≡ unwrap_or (parts_of c.args.k.0 (rows_of c.args.rows.now)) 0 = z ∙ c.unwrap_or-parts.ensures ∙ ap (λ (o : Option ℕ). unwrap_or o 0) c.parts_of.ensures in
    c.loop-part.invariant ∙ ap (λ (n : ℕ). map (λ i. path (rows_of c.args.rows.now) (spot_of c.args.k.0 i)) (below n)) e
