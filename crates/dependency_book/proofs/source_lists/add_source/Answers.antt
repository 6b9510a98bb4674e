use Rattle.std.proofs.Common.{◌-◌, sym, subst, arith}
use Rattle.teb_rules.specs.history.Ascending.{IsAscendingBy, put_by}
use Rattle.teb_rules.specs.history.Live.{number_of}
use Rattle.teb_rules.proofs.lemmas.history.AscendingLists.{ascending-put}
use Rattle.arena_multimap.specs.NumberedLists.{list_in}
use Rattle.dependency_book.specs.Books.{SourcesAscend}
use Rattle.dependency_book.proofs.SourceLists.{list_before, set_ascends}
use Rattle.dependency_book.proofs.source_lists.add_source.Goals as goal

pub put_by_number-requires-clause-ascending : goal.put_by_number-requires-clause-ascending
put_by_number-requires-clause-ascending c = subst (IsAscendingBy number_of) (sym (list_before c.args.sources.now.lists c.args.t.0 (omega arith))) (c.requires.ascending c.args.t)

pub returns-clause-ascending : goal.returns-clause-ascending
returns-clause-ascending c =
    let ls = c.args.sources.now.lists in
    let i = c.args.t.0 - 1 in
    let was = subst (IsAscendingBy number_of) (sym (list_before ls c.args.t.0 (omega arith))) (c.requires.ascending c.args.t) in
    subst SourcesAscend (sym c.put_by_number.ensures.lists)
    (set_ascends ls i (put_by number_of c.args.from (list_in ls i)) c.requires.ascending (ascending-put number_of c.args.from (list_in ls i) was))
