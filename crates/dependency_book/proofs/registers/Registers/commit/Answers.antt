use Rattle.std.proofs.Common.{refl}
use Rattle.dependency_book.proofs.Noted.{noted_done, unfinished_ascend}
use Rattle.dependency_book.proofs.registers.Registers.commit.Goals as goal

pub returns-clause-book : goal.returns-clause-book
returns-clause-book c P was may =
    noted_done _ _ P was c.args.t may (λ y. refl) (λ y. refl) refl (c.remove_txn.ensures.items (unfinished_ascend _ P was))
