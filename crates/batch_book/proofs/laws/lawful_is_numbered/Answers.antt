use Rattle.batch_book.proofs.Telling.{lawful_numbered}
use Rattle.batch_book.proofs.laws.lawful_is_numbered.Goals as goal

pub returns : goal.returns
returns c = λ S H l. lawful_numbered S H l
