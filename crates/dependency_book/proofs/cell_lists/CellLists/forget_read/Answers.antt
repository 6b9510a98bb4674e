use Rattle.std.proofs.Common.{◌≡◌, ◌∙◌, ℕ, cond, eqb, List, Option, Some, None, ap, subst}
use Rattle.teb_rules.specs.declared.names.Txn.{Txn}
use Rattle.teb_rules.specs.names.Cells.{same_cell}
use Rattle.sorted_multimap.specs.LastMatches.{IsLastPlace, without_last}
use Rattle.sorted_multimap.proofs.CellValues.{taken_none}
use Rattle.arena_multimap.specs.NumberedLists.{list_in}
use Rattle.dependency_book.specs.Places.{Shown, readers_of}
use Rattle.dependency_book.proofs.Places.{taken}
use Rattle.dependency_book.proofs.cell_lists.CellLists.forget_read.Goals as goal

pub returns-in-Some-clause-readers : goal.returns-in-Some-clause-readers
returns-in-Some-clause-readers c x =
    let b = c.self.inside in
    let n = c.place-place in
    let is_its = λ (r : (Txn × Txn)). eqb r.0.0 c.args.t.0 in
    let last = subst (λ (l : List (Txn × Txn)). IsLastPlace is_its l (Some c.in-Some.i)) c.list.ensures
    (subst (λ (o : Option ℕ). IsLastPlace is_its c.list.result.now o) c.in-Some.is c.read_place.ensures) in
    taken b.cells.cells b.readers.lists c.args.cell c.self.invariant.readers is_its c.take.new.self.lists n.result c.in-Some.i n.ensures last c.take.ensures.lists x
    ∙ ap (λ (s : Shown). cond (same_cell c.args.cell x) (without_last is_its (readers_of s x)) (readers_of s x)) c.self.view_is

pub returns-in_default-clause-readers : goal.returns-in_default-clause-readers
returns-in_default-clause-readers c x =
    let b = c.self.inside in
    let is_its = λ (r : (Txn × Txn)). eqb r.0.0 c.args.t.0 in
    let here : c.list.result.now ≡ readers_of c.args.self.now c.args.cell = c.list.ensures ∙ ap (list_in b.readers.lists) c.place-place.ensures
    ∙ ap (λ (s : Shown). readers_of s c.args.cell) c.self.view_is in
    let none = subst (λ (l : List (Txn × Txn)). IsLastPlace is_its l None) here (subst (λ (o : Option ℕ). IsLastPlace is_its c.list.result.now o) c.in_default.is c.read_place.ensures) in
    taken_none is_its (readers_of c.args.self.now) c.args.cell x none
