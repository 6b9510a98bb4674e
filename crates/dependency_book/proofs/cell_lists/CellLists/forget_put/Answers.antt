use Rattle.std.proofs.Common.{◌≡◌, ◌∙◌, ℕ, cond, eqb, List, Option, Some, None, ap, subst}
use Rattle.teb_rules.specs.declared.names.Txn.{Txn}
use Rattle.teb_rules.specs.names.Cells.{same_cell}
use Rattle.sorted_multimap.specs.LastMatches.{IsLastPlace, without_last}
use Rattle.sorted_multimap.proofs.CellValues.{taken_none}
use Rattle.arena_multimap.specs.NumberedLists.{list_in}
use Rattle.dependency_book.specs.Places.{Shown, writers_of}
use Rattle.dependency_book.proofs.Places.{taken}
use Rattle.dependency_book.proofs.cell_lists.CellLists.forget_put.Goals as goal

pub returns-in-Some-clause-writers : goal.returns-in-Some-clause-writers
returns-in-Some-clause-writers c x =
    let b = c.self.inside in
    let n = c.place-place in
    let is_its = λ (u : Txn). eqb u.0 c.args.t.0 in
    let last = subst (λ (l : List Txn). IsLastPlace is_its l (Some c.in-Some.i)) c.list.ensures (subst (λ (o : Option ℕ). IsLastPlace is_its c.list.result.now o) c.in-Some.is c.put_place.ensures) in
    taken b.cells.cells b.writers.lists c.args.cell c.self.invariant.writers is_its c.take.new.self.lists n.result c.in-Some.i n.ensures last c.take.ensures.lists x
    ∙ ap (λ (s : Shown). cond (same_cell c.args.cell x) (without_last is_its (writers_of s x)) (writers_of s x)) c.self.view_is

pub returns-in_default-clause-writers : goal.returns-in_default-clause-writers
returns-in_default-clause-writers c x =
    let b = c.self.inside in
    let is_its = λ (u : Txn). eqb u.0 c.args.t.0 in
    let here : c.list.result.now ≡ writers_of c.args.self.now c.args.cell = c.list.ensures ∙ ap (list_in b.writers.lists) c.place-place.ensures
    ∙ ap (λ (s : Shown). writers_of s c.args.cell) c.self.view_is in
    let none = subst (λ (l : List Txn). IsLastPlace is_its l None) here (subst (λ (o : Option ℕ). IsLastPlace is_its c.list.result.now o) c.in_default.is c.put_place.ensures) in
    taken_none is_its (writers_of c.args.self.now) c.args.cell x none
