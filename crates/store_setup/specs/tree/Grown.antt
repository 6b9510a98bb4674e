-- What contracts see of a tree, in numbers.
use Rattle.std.specs.Prelude.{ℕ, cond, List, map, Option, Some, None}
use Rattle.teb_rules.specs.declared.names.Kind.{Kind}
use Rattle.teb_rules.specs.declared.names.Node.{Node}
use Rattle.teb_rules.specs.Setup.{NodeRow, among}
use Rattle.teb_rules.specs.Tree.{next_of}
use Rattle.store_setup.specs.declared.tree.rows.NodeRow.{NodeRow as Row}

-- the rows of a tree, and for how many types it was built
pub record Grown : Type 0 where
  pub rows : List NodeRow
  pub types : ℕ

abbrev pub node_numbers : List Node → List ℕ
node_numbers ns = map (λ n. n.0) ns

abbrev pub kind_numbers : List Kind → List ℕ
kind_numbers ks = map (λ k. k.0) ks

abbrev pub parent_number : Option Node → Option ℕ
parent_number None = None
parent_number (Some p) = Some p.0

-- a row as the rules see it
abbrev pub row_of : Row → NodeRow
row_of r = record { control = r.control; parent = parent_number r.parent; types = kind_numbers r.types.items; batch = r.batch; ordered = r.ordered; part = r.part; parts = r.of }

abbrev pub rows_of : List Row → List NodeRow
rows_of rs = map row_of rs

-- the number of a side: the child's, or the transaction's own
abbrev pub side_number : Option Node → ℕ → ℕ
side_number None own = own
side_number (Some m) own = m.0

-- the side of n on a path, for a transaction with the number own; None if n is not on it
abbrev pub side_found : ℕ → ℕ → List ℕ → Option ℕ
side_found n own ns = cond (among n ns) (Some (next_of n own ns)) None
