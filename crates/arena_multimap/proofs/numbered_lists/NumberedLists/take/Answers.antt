use Rattle.std.proofs.Common.{◌≡◌, ◌<◌, ◌∙◌, List, remove, set, length, sym, ap, subst}
use Rattle.arena_multimap.specs.Arenas.{list_at}
use Rattle.arena_multimap.specs.NumberedLists.{all_lists, list_in}
use Rattle.arena_multimap.proofs.AllLists.{one_of_all, edited_all}
use Rattle.arena_multimap.proofs.numbered_lists.NumberedLists.take.Goals as goal

pub take-requires-clause-at : goal.take-requires-clause-at
take-requires-clause-at g c =
    let i = c.args.i in
    let here : list_in c.args.self.now.lists i ≡ list_at c.self.inside.lists i = sym (ap (λ s. list_in s.lists i) c.self.view_is) ∙ one_of_all c.self.inside.lists i in
    subst (λ (l : List _). c.args.at < length l) here c.requires

pub invariant_of-self : goal.invariant_of-self
invariant_of-self g c = record { sound = c.take.ensures.sound; room = c.take.ensures.room _ c.self.invariant.room }

pub returns-clause-lists : goal.returns-clause-lists
returns-clause-lists g c =
    let a = c.self.inside.lists in
    let i = c.args.i in
    let at = c.args.at in
    edited_all a c.take.new.self i (remove (list_at a i) at) c.take.ensures.lists c.take.ensures.values
    ∙ ap (λ (l : List _). set (all_lists a) i (remove l at)) (sym (one_of_all a i))
    ∙ ap (λ s. set s.lists i (remove (list_in s.lists i) at)) c.self.view_is
