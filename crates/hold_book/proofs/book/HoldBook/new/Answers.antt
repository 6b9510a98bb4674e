use Rattle.std.proofs.Common.{arith}
use Rattle.std.proofs.lemmas.Grind.{common_steps}
use Rattle.teb_rules.specs.history.Phases.{txns, begun_count, numbers}
use Rattle.hold_book.proofs.book.HoldBook.new.Goals as goal

pub returns-clause-empty : goal.returns-clause-empty
unfolding txns begun_count numbers
returns-clause-empty c S n = record { shows = λ x. grind (arith, common_steps) }
