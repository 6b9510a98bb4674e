use Rattle.std.proofs.Common.{◌≡◌, ℕ, ◌-◌, List, [], ◌∷◌, ◌++◌, length, length-append, ◌∙◌, ap, ap₂, arith, slice_set}
use Rattle.std.proofs.lemmas.List.{set_at}
use Rattle.engine_core.specs.EngineModel.{EngineModel}
use Rattle.tree_switch.proofs.phases.move_on.Goals as goal

-- the last element of a list is replaced
last_set : (xs ys : List EngineModel) (x y z : EngineModel) (n : ℕ) → ys ≡ xs ++ x ∷ [] → n ≡ length ys → y ≡ z → slice_set ys (n - 1) y ≡ xs ++ z ∷ []
last_set xs ys x y z n e l s =
    let k : length xs ≡ n - 1 = omega (arith, l, ap length e, length-append xs (x ∷ [])) in
    ap₂ (λ (w : List EngineModel) (v : EngineModel). slice_set w (n - 1) v) e s ∙ set_at xs x [] z (n - 1) k

pub returns-clause-past : goal.returns-clause-past
returns-clause-past g c =
    last_set c.args.past.now.items c.push.new.self.items c.args.next c.swap.new.x c.args.present.now c.len-last.result c.in_ok-push.ensures.items
    (omega (arith, c.len-last.ensures, c.push.new.self.ok.0)) c.swap.ensures.x_after
