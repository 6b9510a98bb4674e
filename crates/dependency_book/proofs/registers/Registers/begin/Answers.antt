use Rattle.std.proofs.Common.{List, refl, sym, ◌∙◌, ap, subst, arith}
use Rattle.teb_rules.specs.declared.names.Txn.{Txn}
use Rattle.teb_rules.specs.history.Ascending.{IsAscendingBy}
use Rattle.teb_rules.specs.history.Live.{number_of}
use Rattle.dependency_book.specs.Books.{list_of}
use Rattle.dependency_book.proofs.SourceLists.{one_more}
use Rattle.dependency_book.proofs.Noted.{noted_began}
use Rattle.dependency_book.proofs.registers.Registers.begin.Goals as goal

pub returns-clause-ascending : goal.returns-clause-ascending
returns-clause-ascending c t =
    subst (IsAscendingBy number_of) (sym (ap (λ (ls : List (List Txn)). list_of ls t.0) c.begin.ensures.lists ∙ one_more c.args.self.now.sources.lists t.0)) (c.requires.ascending t)

pub returns-clause-book : goal.returns-clause-book
returns-clause-book c P s k i was may =
    noted_began _ _ P was c.args.t s k i may (λ x. refl) (λ x. refl) c.begin.ensures.lists (rw (c.push.ensures.succeeds (omega (arith, c.requires.room.unfinished))) at c.push.ensures.items)
