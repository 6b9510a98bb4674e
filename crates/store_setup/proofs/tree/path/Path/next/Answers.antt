use Rattle.std.proofs.Common.{◌∙◌, ap, sym}
use Rattle.store_setup.specs.tree.Grown.{side_number}
use Rattle.store_setup.specs.declared.tree.path.Follower.{Follower}
use Rattle.store_setup.proofs.lemmas.tree.Followers.{child_of, known_next}
use Rattle.store_setup.proofs.tree.path.Path.next.Goals as goal

pub returns-in-Child : goal.returns-in-Child
returns-in-Child c own = ap (λ (f : Follower). side_number (child_of f) own) (sym c.in-Child.is) ∙ known_next c.args.n.0 c.args.self.now c.follower.result c.follower.ensures own

pub returns-in-Nobody : goal.returns-in-Nobody
returns-in-Nobody c own = ap (λ (f : Follower). side_number (child_of f) own) (sym c.in-Nobody.is) ∙ known_next c.args.n.0 c.args.self.now c.follower.result c.follower.ensures own

pub returns-in-Absent : goal.returns-in-Absent
returns-in-Absent c own = ap (λ (f : Follower). side_number (child_of f) own) (sym c.in-Absent.is) ∙ known_next c.args.n.0 c.args.self.now c.follower.result c.follower.ensures own
