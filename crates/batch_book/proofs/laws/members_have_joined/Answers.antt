use Rattle.batch_book.proofs.Telling.{joined_from}
use Rattle.batch_book.proofs.laws.members_have_joined.Goals as goal

pub returns : goal.returns
returns c = λ b S H n t h g o. joined_from b S H n t h g o
