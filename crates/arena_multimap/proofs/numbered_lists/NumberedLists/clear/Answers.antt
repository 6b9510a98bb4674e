use Rattle.std.proofs.Common.{◌∙◌, [], ap, set}
use Rattle.arena_multimap.proofs.AllLists.{edited_all}
use Rattle.arena_multimap.proofs.numbered_lists.NumberedLists.clear.Goals as goal

pub invariant_of-self : goal.invariant_of-self
invariant_of-self g c = record { sound = c.clear.ensures.sound; room = c.clear.ensures.room _ c.self.invariant.room }

pub returns-clause-lists : goal.returns-clause-lists
returns-clause-lists g c = edited_all c.self.inside.lists c.clear.new.self c.args.i [] c.clear.ensures.lists c.clear.ensures.values ∙ ap (λ s. set s.lists c.args.i []) c.self.view_is
