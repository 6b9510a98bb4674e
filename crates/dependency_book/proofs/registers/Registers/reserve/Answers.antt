use Rattle.std.proofs.Common.{rules, arith}
use Rattle.dependency_book.proofs.registers.Registers.reserve.Goals as goal

pub returns-in_err-reserve-clause-kept : goal.returns-in_err-reserve-clause-kept
returns-in_err-reserve-clause-kept c m h = record { cells = c.reserve.ensures.kept m h.cells; sources = h.sources; unfinished = h.unfinished }

pub returns-in_err-reserve-2-clause-kept : goal.returns-in_err-reserve-2-clause-kept
returns-in_err-reserve-2-clause-kept c m h = record { cells = c.reserve.ensures.kept m h.cells; sources = omega (arith, h.sources, c.reserve-2.ensures.kept); unfinished = h.unfinished }

pub returns-clause-kept : goal.returns-clause-kept
returns-clause-kept c m h = record { cells = c.reserve.ensures.kept m h.cells; sources = omega (arith, h.sources, c.reserve-2.ensures.kept); unfinished = let was = h.unfinished in search rules }
