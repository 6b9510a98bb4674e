use Rattle.dependency_book.proofs.Noted.{noted_nothing}
use Rattle.dependency_book.proofs.registers.Registers.new.Goals as goal

pub returns-clause-book : goal.returns-clause-book
returns-clause-book c = noted_nothing _ c.new.ensures.readers c.new.ensures.writers c.new-2.ensures.lists c.new-3.ensures.items
