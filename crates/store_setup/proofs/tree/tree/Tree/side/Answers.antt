use Rattle.std.proofs.Common.{ap, ◌∙◌}
use Rattle.teb_rules.specs.Tree.{on_path, next_of}
use Rattle.store_setup.proofs.lemmas.tree.Paths.{none_at_leaf, side_within}
use Rattle.store_setup.proofs.tree.tree.Tree.side.Goals as goal

pub returns-clause-none : goal.returns-clause-none
unfolding on_path
returns-clause-none c = none_at_leaf _ c.stored.ensures.accepted c.args.s c.requires.kind c.args.n.0 c.requires.on c.next.result
    (λ own. c.next.ensures own ∙ ap (next_of c.args.n.0 own) c.stored.ensures.nodes)

pub returns-clause-within : goal.returns-clause-within
returns-clause-within c = side_within _ c.stored.ensures.accepted c.args.s c.requires.kind c.args.n.0 c.next.result
    (λ own. c.next.ensures own ∙ ap (next_of c.args.n.0 own) c.stored.ensures.nodes)
