use Rattle.std.proofs.Common.{◌≡◌, ◌+◌, ◌-◌, ◌++◌, ◌∷◌, [], ◌∙◌, ap, subst, arith}
use Rattle.arena_multimap.specs.Arenas.{HasRoom}
use Rattle.arena_multimap.proofs.Segments.{less_room}
use Rattle.arena_multimap.proofs.AllLists.{begun_all}
use Rattle.arena_multimap.proofs.numbered_lists.NumberedLists.begin.Goals as goal

pub invariant_of-self : goal.invariant_of-self
invariant_of-self g c =
    let n = c.self.inside.spare in
    let one : n ≡ n - 1 + 1 = omega (arith, c.requires, ap (λ s. s.spare) c.self.view_is) in
    let room = c.begin.ensures.room (n - 1) (n - 1 + 1) (subst (HasRoom c.self.inside.lists) one c.self.invariant.room) in
    record { sound = c.begin.ensures.sound; room = less_room room (n - 1) (n - 1) (omega arith) (omega arith) }

pub returns-clause-lists : goal.returns-clause-lists
returns-clause-lists g c = begun_all c.self.inside.lists c.begin.new.self c.begin.ensures.lists c.begin.ensures.values ∙ ap (λ s. s.lists ++ [] ∷ []) c.self.view_is
