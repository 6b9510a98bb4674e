use Rattle.std.proofs.Common.{refl, arith}
use Rattle.dependency_book.proofs.Noted.{noted_got}
use Rattle.dependency_book.proofs.registers.Registers.read.Goals as goal

pub returns-clause-room : goal.returns-clause-room
returns-clause-room c n h = record {
  cells = c.read.ensures.room n h.cells;
  sources = omega (arith, h.sources, c.add_source.ensures.spare);
  unfinished = omega (arith, h.unfinished);
}

pub returns-clause-book : goal.returns-clause-book
returns-clause-book c P v was may =
    noted_got _ _ P was c.args.t c.args.cell c.args.from v may c.read.ensures.readers c.read.ensures.writers c.add_source.ensures.lists c.add_source.ensures.values refl
