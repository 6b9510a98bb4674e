-- One step on the way up to the root.
use Rattle.std.proofs.Common.{◌≡◌, ℕ, zero, suc, ◌-◌, ◌<◌, List, ◌∷◌, Option, Some, None, sym, ◌∙◌, ap, arith}
use Rattle.teb_rules.specs.declared.names.Node.{Node}
use Rattle.teb_rules.specs.Setup.{NodeRow}
use Rattle.teb_rules.specs.Tree.{row, climb}
use Rattle.store_setup.specs.tree.Grown.{parent_number}
use Rattle.store_setup.specs.tree.Ways.{Climbs}

-- if the node has a parent, the climb continues from it; otherwise it ends
climb_suc : (T : List NodeRow) (d n : ℕ) (lower : List ℕ) (o : Option ℕ) → (row T n).parent ≡ o
    → climb T (suc d) n lower ≡ elim o as (λ z. List ℕ) [ None ↦ n ∷ lower | Some p ↦ climb T d p (n ∷ lower) ]
unfolding climb
climb_suc T d n lower o e = ap (λ (z : Option ℕ). elim z as (λ z. List ℕ) [ None ↦ n ∷ lower | Some p ↦ climb T d p (n ∷ lower) ]) e

pub climbs : (T : List NodeRow) (most n : ℕ) (r : Option Node) → 0 < most → parent_number r ≡ (row T n).parent → Climbs T most n r
climbs T zero n r h e = absurd (omega arith)
climbs T (suc d) n None h e = λ lower. climb_suc T d n lower None (sym e)
climbs T (suc d) n (Some p) h e = (h, λ lower. climb_suc T d n lower (Some p.0) (sym e) ∙ ap (λ (z : ℕ). climb T z p.0 (n ∷ lower)) (let z : d ≡ suc d - 1 = omega arith in z))
