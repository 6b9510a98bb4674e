use Rattle.std.proofs.Common.{◌≡◌, ◌+◌, ◌-◌, ◌∙◌, ◌++◌, ◌∷◌, ℕ, cond, eqb, [], max, sym, ap, subst, List, arith}
use Rattle.std.specs.Ordering.{is_eq}
use Rattle.teb_rules.specs.names.Cells.{cell_cmp}
use Rattle.cell_index.specs.Cells.{place_in}
use Rattle.sorted_multimap.specs.Multimap.{values_in}
use Rattle.arena_multimap.specs.Arenas.{list_at, lists}
use Rattle.arena_multimap.proofs.CellLists.{shown, place_within, put_listed, put_values}
use Rattle.arena_multimap.proofs.cell_multimap.CellMultimap.push.Goals as goal

pub push-requires-clause-within : goal.push-requires-clause-within
push-requires-clause-within g c =
    omega (arith, place_within c.self.inside.cells c.self.inside.lists c.self.inside.spare c.self.invariant c.args.cell, c.add-list.ensures.place)

pub invariant_of-self : goal.invariant_of-self
invariant_of-self g c =
    let cells = c.self.inside.cells in
    let a = c.self.inside.lists in
    let n = c.self.inside.spare in
    let a' = c.push.new.self in
    let edit = subst (λ (i : ℕ). (j : ℕ) → list_at a' j ≡ cond (eqb j i) (list_at a i ++ c.args.value ∷ []) (list_at a j)) c.add-list.ensures.place c.push.ensures.values in
    let count = subst (λ (i : ℕ). lists a' ≡ max (lists a) (i + 1)) c.add-list.ensures.place c.push.ensures.lists in
    let one : n ≡ n - 1 + 1 = omega (arith, c.requires, ap (λ s. s.spare) c.self.view_is) in
    put_listed cells a n c.self.invariant a' c.args.cell (list_at a (place_in cells.cells c.args.cell) ++ c.args.value ∷ []) edit c.add-list.new.self c.add-list.ensures.cells count
    (n - 1) one c.add-list.ensures.spare c.push.ensures.sound c.push.ensures.room

pub returns-clause-values : goal.returns-clause-values
returns-clause-values g c x =
    let cells = c.self.inside.cells in
    let a = c.self.inside.lists in
    let n = c.self.inside.spare in
    let cell = c.args.cell in
    let p = place_in cells.cells cell in
    let here : list_at a p ≡ values_in cell_cmp c.args.self.now cell = sym (shown cells a n c.self.invariant cell) ∙ ap (λ s. values_in cell_cmp s cell) c.self.view_is in
    let a' = c.push.new.self in
    let edit = subst (λ (i : ℕ). (j : ℕ) → list_at a' j ≡ cond (eqb j i) (list_at a i ++ c.args.value ∷ []) (list_at a j)) c.add-list.ensures.place c.push.ensures.values in
    let count = subst (λ (i : ℕ). lists a' ≡ max (lists a) (i + 1)) c.add-list.ensures.place c.push.ensures.lists in
    put_values cells a n c.self.invariant a' cell (list_at a p ++ c.args.value ∷ []) edit c.add-list.new.self c.add-list.ensures.cells count x
    ∙ ap (λ s. cond (is_eq (cell_cmp cell x)) (list_at a p ++ c.args.value ∷ []) (values_in cell_cmp s x)) c.self.view_is
    ∙ ap (λ (l : List _). cond (is_eq (cell_cmp cell x)) (l ++ c.args.value ∷ []) (values_in cell_cmp c.args.self.now x)) here
