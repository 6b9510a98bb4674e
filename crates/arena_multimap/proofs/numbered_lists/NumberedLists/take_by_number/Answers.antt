use Rattle.std.proofs.Common.{◌≡◌, ◌∙◌, eqb, not, filter, List, [], remove, set, sym, ap, subst}
use Rattle.teb_rules.specs.history.Ascending.{IsAscendingBy, place_of}
use Rattle.teb_rules.proofs.lemmas.history.AscendingLists.{place_in}
use Rattle.sorted_multimap.proofs.NumberedValues.{without_found, without_missing}
use Rattle.std.proofs.lemmas.List.{set-get_or}
use Rattle.arena_multimap.specs.Arenas.{list_at}
use Rattle.arena_multimap.specs.NumberedLists.{all_lists, list_in}
use Rattle.arena_multimap.proofs.AllLists.{one_of_all, edited_all}
use Rattle.arena_multimap.proofs.numbered_lists.NumberedLists.take_by_number.Goals as goal

pub find_number-requires : goal.find_number-requires
find_number-requires g c =
    let a = c.self.inside.lists in
    let i = c.args.i in
    let here : list_at a i ≡ list_in c.args.self.now.lists i = sym (one_of_all a i) ∙ ap (λ s. list_in s.lists i) c.self.view_is in
    subst (IsAscendingBy g.V.Numbered.numbered_by) (sym (c.list.ensures ∙ here)) c.requires

pub take-requires-clause-at : goal.take-requires-clause-at
take-requires-clause-at g c =
    let by = g.V.Numbered.numbered_by in
    let L = list_at c.self.inside.lists c.args.i in
    place_in by L c.args.number c.in-Ok.at (sym (c.find_number.ensures ∙ ap (λ (l : List _). place_of by l c.args.number) c.list.ensures) ∙ c.in-Ok.is)

pub invariant_of-self : goal.invariant_of-self
invariant_of-self g c = record { sound = c.take.ensures.sound; room = c.take.ensures.room _ c.self.invariant.room }

pub returns-in-Ok-clause-lists : goal.returns-in-Ok-clause-lists
returns-in-Ok-clause-lists g c =
    let a = c.self.inside.lists in
    let i = c.args.i in
    let by = g.V.Numbered.numbered_by in
    let L = list_at a i in
    let here : L ≡ list_in c.args.self.now.lists i = sym (one_of_all a i) ∙ ap (λ s. list_in s.lists i) c.self.view_is in
    let found = sym (c.find_number.ensures ∙ ap (λ (l : List _). place_of by l c.args.number) c.list.ensures) ∙ c.in-Ok.is in
    let ascends = subst (IsAscendingBy by) (sym here) c.requires in
    edited_all a c.take.new.self i (remove L c.in-Ok.at) c.take.ensures.lists c.take.ensures.values
    ∙ ap (λ (l : List _). set (all_lists a) i l) (without_found by c.args.number L c.in-Ok.at ascends found ∙ ap (λ (l : List _). filter (λ v. not (eqb (by v) c.args.number)) l) here)
    ∙ ap (λ s. set s.lists i (filter (λ v. not (eqb (by v) c.args.number)) (list_in c.args.self.now.lists i))) c.self.view_is

pub returns-in_default-clause-lists : goal.returns-in_default-clause-lists
returns-in_default-clause-lists g c =
    let a = c.self.inside.lists in
    let i = c.args.i in
    let by = g.V.Numbered.numbered_by in
    let L = list_at a i in
    let here : L ≡ list_in c.args.self.now.lists i = sym (one_of_all a i) ∙ ap (λ s. list_in s.lists i) c.self.view_is in
    let missing = sym (c.find_number.ensures ∙ ap (λ (l : List _). place_of by l c.args.number) c.list.ensures) ∙ c.in_default.is in
    let ascends = subst (IsAscendingBy by) (sym here) c.requires in
    sym (ap (λ s. s.lists) c.self.view_is) ∙ sym (set-get_or (all_lists a) i [])
    ∙ ap (λ (l : List _). set (all_lists a) i l) (one_of_all a i ∙ without_missing by c.args.number L c.in_default.field-0 ascends missing
    ∙ ap (λ (l : List _). filter (λ v. not (eqb (by v) c.args.number)) l) here)
    ∙ ap (λ s. set s.lists i (filter (λ v. not (eqb (by v) c.args.number)) (list_in c.args.self.now.lists i))) c.self.view_is
