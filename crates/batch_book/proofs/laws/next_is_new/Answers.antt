use Rattle.batch_book.proofs.Telling.{next_new}
use Rattle.batch_book.proofs.laws.next_is_new.Goals as goal

pub returns : goal.returns
returns c = λ b S P n t h q. next_new b S P n t h q
