use Rattle.std.proofs.Common.{◌≡◌, ◌+◌, ◌-◌, ◌++◌, ◌∷◌, [], ◌∙◌, List, length, set, sym, ap, subst, arith}
use Rattle.arena_multimap.specs.Arenas.{list_at, HasRoom}
use Rattle.arena_multimap.specs.NumberedLists.{all_lists, list_in}
use Rattle.arena_multimap.proofs.AllLists.{one_of_all, length-all_lists, edited_all}
use Rattle.arena_multimap.proofs.numbered_lists.NumberedLists.push.Goals as goal

pub invariant_of-self : goal.invariant_of-self
invariant_of-self g c =
    let n = c.self.inside.spare in
    let one : n ≡ n - 1 + 1 = omega (arith, c.requires.room, ap (λ s. s.spare) c.self.view_is) in
    record { sound = c.push.ensures.sound; room = c.push.ensures.room (n - 1) (subst (HasRoom c.self.inside.lists) one c.self.invariant.room) }

pub returns-clause-lists : goal.returns-clause-lists
returns-clause-lists g c =
    let a = c.self.inside.lists in
    let i = c.args.i in
    let v = c.args.value in
    let n = length-all_lists a in
    let m = ap (λ s. length s.lists) c.self.view_is in
    edited_all a c.push.new.self i (list_at a i ++ v ∷ []) (omega (arith, c.requires.within, c.push.ensures.lists, n, m)) c.push.ensures.values
    ∙ ap (λ (l : List _). set (all_lists a) i (l ++ v ∷ [])) (sym (one_of_all a i))
    ∙ ap (λ s. set s.lists i (list_in s.lists i ++ v ∷ [])) c.self.view_is
