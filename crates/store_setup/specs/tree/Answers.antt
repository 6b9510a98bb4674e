-- The answer to a list of nodes, by its first fault.
use Rattle.std.specs.Prelude.{◌≡◌, ℕ, List, Option, Some, None, Result, Ok, Err}
use Rattle.teb_rules.specs.Setup.{NodeRow}
use Rattle.teb_rules.specs.Accepted.{Fault, tree_fault}
use Rattle.teb_rules.specs.Accepted as fault
use Rattle.store_setup.specs.declared.tree.fault.Rule.{Rule}
use Rattle.store_setup.specs.declared.tree.fault.Rule.TheVariants as rule
use Rattle.store_setup.specs.declared.tree.fault.ShapeWhy.{ShapeWhy}
use Rattle.store_setup.specs.declared.tree.fault.ShapeWhy.TheVariants as why
use Rattle.store_setup.specs.declared.tree.fault.TreeError.{TreeError}
use Rattle.store_setup.specs.declared.tree.fault.TreeError.TheVariants.{Shape, Misplaced, OutOfMemory}
use Rattle.store_setup.specs.declared.tree.tree.Tree.{Tree}

abbrev pub why_fault : ShapeWhy → Fault
why_fault why.Root = fault.Root
why_fault why.Parent = fault.Parent
why_fault why.Depth = fault.Depth
why_fault why.Empty = fault.Empty
why_fault why.Mixed = fault.Mixed
why_fault why.Twice = fault.Twice
why_fault why.Homeless = fault.Homeless

abbrev pub rule_fault : Rule → Fault
rule_fault rule.P1 = fault.P1
rule_fault rule.P2 = fault.P2
rule_fault rule.P3 = fault.P3

abbrev pub shape_name : Option ShapeWhy → Option Fault
shape_name None = None
shape_name (Some w) = Some (why_fault w)

abbrev pub rule_name : Option Rule → Option Fault
rule_name None = None
rule_name (Some r) = Some (rule_fault r)

-- the error names this node and this fault
abbrev pub Names : TreeError → Option (ℕ × Fault) → Type 0
Names (Shape n w) o = o ≡ Some (n.0, why_fault w)
Names (Misplaced n r) o = o ≡ Some (n.0, rule_fault r)
Names OutOfMemory o = ⊥

-- nothing is found if there is no fault, and else the fault
abbrev pub Finds : {A : Type 0} → Result A TreeError → Option (ℕ × Fault) → Type 0
Finds (Ok a) o = o ≡ None
Finds (Err e) o = Names e o

-- these rows, for `types` types, are a tree if and only if they have no fault; else the first fault is named. Any rows may run out of memory
abbrev pub Answers : Result Tree TreeError → List NodeRow → ℕ → Type 0
Answers (Ok t) T types = (t ≡ record { rows = T; types = types }) × (tree_fault T types ≡ None)
Answers (Err OutOfMemory) T types = Unit {0}
Answers (Err e) T types = Names e (tree_fault T types)
