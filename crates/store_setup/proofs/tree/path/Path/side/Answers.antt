use Rattle.std.proofs.Common.{ℕ, ◌∙◌, ap, sym, cond, Some, None}
use Rattle.store_setup.specs.tree.Grown.{side_number}
use Rattle.store_setup.specs.declared.tree.path.Follower.{Follower}
use Rattle.store_setup.proofs.lemmas.tree.Followers.{is_there, child_of, known_side}
use Rattle.store_setup.proofs.tree.path.Path.side.Goals as goal

pub returns-in-Absent : goal.returns-in-Absent
returns-in-Absent c =
    ap (λ (f : Follower). cond (is_there f) (Some (side_number (child_of f) c.args.own)) None) (sym c.in-Absent.is)
    ∙ known_side c.args.n.0 c.args.self.now c.follower.result c.follower.ensures c.args.own

pub returns-in-Nobody : goal.returns-in-Nobody
returns-in-Nobody c =
    ap (λ (f : Follower). cond (is_there f) (Some (side_number (child_of f) c.args.own)) None) (sym c.in-Nobody.is)
    ∙ known_side c.args.n.0 c.args.self.now c.follower.result c.follower.ensures c.args.own

pub returns-in-Child : goal.returns-in-Child
returns-in-Child c =
    ap (λ (z : ℕ). Some z) c.from.ensures
    ∙ ap (λ (f : Follower). cond (is_there f) (Some (side_number (child_of f) c.args.own)) None) (sym c.in-Child.is)
    ∙ known_side c.args.n.0 c.args.self.now c.follower.result c.follower.ensures c.args.own
