use Rattle.std.proofs.Common.{◌≡◌, ℕ, List, None, length, map, sym, ◌∙◌, ap, subst, arith}
use Rattle.teb_rules.specs.Accepted.{tree_fault}
use Rattle.teb_rules.specs.Tree.{below}
use Rattle.store_setup.specs.declared.tree.rows.NodeRow.{NodeRow as Row}
use Rattle.store_setup.specs.tree.Grown.{Grown, rows_of}
use Rattle.store_setup.specs.tree.Homes.{part_lists, part_paths}
use Rattle.store_setup.specs.tree.Sound.{IsAccepted}
use Rattle.store_setup.proofs.lemmas.tree.Building.{Asked, accepted_rows, stored_tree, count_types}
use Rattle.store_setup.proofs.tree.tree.Tree.build.Goals as goal

faultless : (c : goal.In_ok-paths) → tree_fault (rows_of c.args.rows.items) c.args.types ≡ None
faultless c = ap (λ (rs : List Row). tree_fault (rows_of rs) c.args.types) (sym c.deref.ensures.value) ∙ c.in_ok-check.ensures

paths_are : (c : goal.In_ok-paths) → map part_lists c.in_ok-paths.paths.items ≡ map (λ k. part_paths (rows_of c.args.rows.items) k) (below c.args.types)
paths_are c = c.in_ok-paths.ensures ∙ ap (λ (rs : List Row). map (λ k. part_paths (rows_of rs) k) (below c.args.types)) c.deref-2.ensures.value

count : (c : goal.In_ok-paths) → length c.in_ok-paths.paths.items ≡ c.args.types
count c = count_types (record { rows = c.args.rows; paths = c.in_ok-paths.paths }) c.args.types (paths_are c)

asked : (c : goal.In_ok-paths) → Asked c.args.rows.items c.args.types
asked c = record { some = c.requires.some; few = c.requires.few; few_types = (let z = c.ranges.types in omega arith); kinds = c.requires.kinds; batches = c.requires.batches; parts = c.requires.parts }

pub invariant_of-result : goal.invariant_of-result
invariant_of-result c =
    let n = count c in
    stored_tree (record { rows = c.args.rows; paths = c.in_ok-paths.paths })
    (subst (λ (z : ℕ). IsAccepted (record { rows = rows_of c.args.rows.items; types = z })) (sym n) (accepted_rows c.args.rows.items c.args.types (asked c) (faultless c)))
    (paths_are c ∙ ap (λ (z : ℕ). map (λ k. part_paths (rows_of c.args.rows.items) k) (below z)) (sym n))

pub returns : goal.returns
returns c = (ap (λ (z : ℕ). let T : Grown = record { rows = rows_of c.args.rows.items; types = z } in T) (count c), faultless c)
