use Rattle.std.proofs.Common.{◌≡◌, ◌∙◌, ℕ, cond, eqb, sym, ap, subst, List, length, remove, arith}
use Rattle.std.specs.Ordering.{is_eq}
use Rattle.teb_rules.specs.names.Cells.{cell_cmp}
use Rattle.cell_index.specs.Cells.{place_in}
use Rattle.sorted_multimap.specs.Multimap.{values_in}
use Rattle.arena_multimap.specs.Arenas.{list_at}
use Rattle.arena_multimap.proofs.CellLists.{shown, has_list, kept_listed, kept_values}
use Rattle.arena_multimap.proofs.cell_multimap.CellMultimap.take.Goals as goal

pub take-requires-clause-at : goal.take-requires-clause-at
take-requires-clause-at g c =
    let cells = c.self.inside.cells in
    let a = c.self.inside.lists in
    let cell = c.args.cell in
    let here : list_at a (place_in cells.cells cell) ≡ values_in cell_cmp c.args.self.now cell = sym (shown cells a c.self.inside.spare c.self.invariant cell)
    ∙ ap (λ s. values_in cell_cmp s cell) c.self.view_is in
    omega (arith, c.requires, ap length here, ap length (ap (list_at a) c.place-list.ensures))

pub invariant_of-self : goal.invariant_of-self
invariant_of-self g c =
    let cells = c.self.inside.cells in
    let a = c.self.inside.lists in
    let a' = c.take.new.self in
    let edit = subst (λ (i : ℕ). (j : ℕ) → list_at a' j ≡ cond (eqb j i) (remove (list_at a i) c.args.i) (list_at a j)) c.place-list.ensures c.take.ensures.values in
    kept_listed cells a c.self.inside.spare c.self.invariant a' c.args.cell (remove (list_at a (place_in cells.cells c.args.cell)) c.args.i) edit c.take.ensures.lists c.take.ensures.sound
    c.take.ensures.room

pub returns-clause-values : goal.returns-clause-values
returns-clause-values g c x =
    let cells = c.self.inside.cells in
    let a = c.self.inside.lists in
    let n = c.self.inside.spare in
    let cell = c.args.cell in
    let p = place_in cells.cells cell in
    let here : list_at a p ≡ values_in cell_cmp c.args.self.now cell = sym (shown cells a n c.self.invariant cell) ∙ ap (λ s. values_in cell_cmp s cell) c.self.view_is in
    let a' = c.take.new.self in
    let edit = subst (λ (i : ℕ). (j : ℕ) → list_at a' j ≡ cond (eqb j i) (remove (list_at a i) c.args.i) (list_at a j)) c.place-list.ensures c.take.ensures.values in
    kept_values cells a n c.self.invariant a' cell (remove (list_at a p) c.args.i) edit c.take.ensures.lists (λ far. absurd (has_list a p c.args.i far (omega (arith, c.requires, ap length here)))) x
    ∙ ap (λ s. cond (is_eq (cell_cmp cell x)) (remove (list_at a p) c.args.i) (values_in cell_cmp s x)) c.self.view_is
    ∙ ap (λ (l : List _). cond (is_eq (cell_cmp cell x)) (remove l c.args.i) (values_in cell_cmp c.args.self.now x)) here
