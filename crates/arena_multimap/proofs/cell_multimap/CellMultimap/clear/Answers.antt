use Rattle.std.proofs.Common.{◌≡◌, ◌∙◌, ℕ, cond, eqb, [], refl, ap, subst}
use Rattle.std.specs.Ordering.{is_eq}
use Rattle.teb_rules.specs.names.Cells.{cell_cmp}
use Rattle.sorted_multimap.specs.Multimap.{values_in}
use Rattle.arena_multimap.specs.Arenas.{list_at}
use Rattle.arena_multimap.proofs.CellLists.{kept_listed, kept_values}
use Rattle.arena_multimap.proofs.cell_multimap.CellMultimap.clear.Goals as goal

pub invariant_of-self : goal.invariant_of-self
invariant_of-self g c =
    let a = c.self.inside.lists in
    let a' = c.clear.new.self in
    let edit = subst (λ (i : ℕ). (j : ℕ) → list_at a' j ≡ cond (eqb j i) [] (list_at a j)) c.place-list.ensures c.clear.ensures.values in
    kept_listed c.self.inside.cells a c.self.inside.spare c.self.invariant a' c.args.cell [] edit c.clear.ensures.lists c.clear.ensures.sound c.clear.ensures.room

pub returns-clause-values : goal.returns-clause-values
returns-clause-values g c x =
    let a = c.self.inside.lists in
    let a' = c.clear.new.self in
    let edit = subst (λ (i : ℕ). (j : ℕ) → list_at a' j ≡ cond (eqb j i) [] (list_at a j)) c.place-list.ensures c.clear.ensures.values in
    kept_values c.self.inside.cells a c.self.inside.spare c.self.invariant a' c.args.cell [] edit c.clear.ensures.lists (λ far. refl) x
    ∙ ap (λ s. cond (is_eq (cell_cmp c.args.cell x)) [] (values_in cell_cmp s x)) c.self.view_is
