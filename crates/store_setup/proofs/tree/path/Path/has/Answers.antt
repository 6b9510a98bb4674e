use Rattle.std.proofs.Common.{◌∙◌, ap, sym, inl, inr}
use Rattle.store_setup.proofs.lemmas.tree.Followers.{is_there, known_there}
use Rattle.store_setup.proofs.tree.path.Path.has.Goals as goal

pub returns-in-Absent : goal.returns-in-Absent
returns-in-Absent c = ap is_there (sym c.in-Absent.is) ∙ known_there c.args.n.0 c.args.self.now c.follower.result c.follower.ensures

pub returns-in-Nobody : goal.returns-in-Nobody
returns-in-Nobody c = elim c.in-Nobody.is [
  | inl e ↦ ap is_there (sym e) ∙ known_there c.args.n.0 c.args.self.now c.follower.result c.follower.ensures
  | inr e ↦ ap is_there (sym e.1) ∙ known_there c.args.n.0 c.args.self.now c.follower.result c.follower.ensures
]
