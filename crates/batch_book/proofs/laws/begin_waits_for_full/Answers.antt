use Rattle.batch_book.proofs.Telling.{begin_waits}
use Rattle.batch_book.proofs.laws.begin_waits_for_full.Goals as goal

pub returns : goal.returns
returns c = λ S H s n. begin_waits S H s n
