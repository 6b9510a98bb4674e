use Rattle.batch_book.proofs.Telling.{batches_passed}
use Rattle.batch_book.proofs.laws.other_events_pass.Goals as goal

pub returns : goal.returns
returns c = λ b S P n e h m p. batches_passed b S P n e h m p
