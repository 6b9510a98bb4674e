use Rattle.std.proofs.Common.{◌≡◌, List, length, ℤ, subst, ◌∙◌, rules}
use Rattle.std.specs.List.Sorted.{IsSearchInRange, IsBinarySearchResult}
use Rattle.std.proofs.lemmas.List.Sorted.{answers_always}
use Rattle.teb_rules.specs.names.Cells.{cell_cmp}
use Rattle.teb_rules.specs.names.Rows.{IsAscending}
use Rattle.teb_rules.specs.declared.names.Cell.{Cell}
use Rattle.teb_rules.proofs.lemmas.names.Ascending.{found_there, found_absent}
use Rattle.teb_rules.proofs.names.rows.Rows.place.Goals as goal

pub returns : goal.returns
returns c =
    let rows = c.args.self.now in
    let cell = c.args.cell in
    let r = c.binary_search_by_key.result in
    let same : c.deref.result.now ≡ rows = c.deref.ensures.value ∙ c.self.view_is in
    let up = subst IsAscending c.self.view_is c.self.invariant in
    let range = subst (λ (l : List (Cell × ℤ)). IsSearchInRange r (length l)) same c.binary_search_by_key.ensures.bound in
    let by_cell = c.binary_search_by_key.ensures.position (λ (row : Cell × ℤ). row.0) (answers_always _ _ _ (λ f a r g called. search rules)) in
    let place = subst (λ (l : List (Cell × ℤ)). IsBinarySearchResult (λ (row : Cell × ℤ). cell_cmp row.0 cell) l r) same by_cell in
    record { there = found_there rows cell r up range place; absent = found_absent rows cell r up range place }
