use Rattle.std.proofs.Common.{sym, ◌∙◌, ap}
use Rattle.teb_rules.specs.names.Cells.{cell_cmp}
use Rattle.arena_multimap.specs.Arenas.{list_at}
use Rattle.sorted_multimap.specs.Multimap.{values_in}
use Rattle.arena_multimap.proofs.CellLists.{shown}
use Rattle.arena_multimap.proofs.cell_multimap.CellMultimap.list.Goals as goal

pub returns : goal.returns
returns g c =
    c.list.ensures ∙ ap (list_at c.self.inside.lists) c.place.ensures
    ∙ sym (shown c.self.inside.cells c.self.inside.lists c.self.inside.spare c.self.invariant c.args.cell)
    ∙ ap (λ s. values_in cell_cmp s c.args.cell) c.self.view_is
