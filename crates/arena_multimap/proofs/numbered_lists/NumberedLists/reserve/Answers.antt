use Rattle.std.proofs.Common.{◌∙◌, ap}
use Rattle.arena_multimap.proofs.AllLists.{kept_all}
use Rattle.arena_multimap.proofs.numbered_lists.NumberedLists.reserve.Goals as goal

pub invariant_of-self : goal.invariant_of-self
invariant_of-self g c = record { sound = c.reserve.ensures.sound; room = c.reserve.ensures.kept _ c.self.invariant.room }

pub returns-in_err-reserve-clause-lists : goal.returns-in_err-reserve-clause-lists
returns-in_err-reserve-clause-lists g c = kept_all c.self.inside.lists c.reserve.new.self c.reserve.ensures.lists c.reserve.ensures.values ∙ ap (λ s. s.lists) c.self.view_is

pub returns-clause-lists : goal.returns-clause-lists
returns-clause-lists g c = kept_all c.self.inside.lists c.reserve.new.self c.reserve.ensures.lists c.reserve.ensures.values ∙ ap (λ s. s.lists) c.self.view_is
