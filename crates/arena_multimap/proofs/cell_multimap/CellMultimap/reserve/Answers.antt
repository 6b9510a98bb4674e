use Rattle.arena_multimap.proofs.CellLists.{widened}
use Rattle.arena_multimap.proofs.cell_multimap.CellMultimap.reserve.Goals as goal

pub invariant_of-self-in_err-reserve-2 : goal.invariant_of-self-in_err-reserve-2
invariant_of-self-in_err-reserve-2 g c =
    let h = c.self.invariant in
    widened c.self.inside.cells c.self.inside.lists c.self.inside.spare h c.reserve.new.self c.reserve-2.new.self c.reserve.ensures.cells c.reserve.ensures.kept
    c.reserve-2.ensures.sound c.reserve-2.ensures.lists (c.reserve-2.ensures.kept c.self.inside.spare h.room)
