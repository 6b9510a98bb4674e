use Rattle.store_setup.specs.tree.Grown.{node_numbers}
use Rattle.store_setup.proofs.lemmas.tree.Meets.{Found, found}
use Rattle.store_setup.proofs.tree.tree.Tree.meet.Goals as goal

find : (c : goal.After-last_shared) → Found c.args.self.now c.args.a c.args.b c.last_shared.result.0
find c = found _ c.path.ensures.accepted c.args.a c.args.b c.requires.first c.requires.second (node_numbers c.path.result.now) (node_numbers c.path-2.result.now) 0 c.last_shared.result.0
    c.path.ensures.nodes c.path-2.ensures.nodes c.last_shared.ensures

pub returns-clause-lowest : goal.returns-clause-lowest
returns-clause-lowest c = (find c).lowest

pub returns-clause-meet : goal.returns-clause-meet
returns-clause-meet c = (find c).meet

pub returns-clause-within : goal.returns-clause-within
returns-clause-within c = (find c).within
