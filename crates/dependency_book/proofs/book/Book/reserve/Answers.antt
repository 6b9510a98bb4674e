use Rattle.std.proofs.Common.{sym, ap, subst}
use Rattle.dependency_book.specs.Books.{Lists, SourcesAscend}
use Rattle.dependency_book.proofs.book.Book.reserve.Goals as goal

pub invariant_of-self : goal.invariant_of-self
invariant_of-self c = record {
  ascending = subst SourcesAscend (sym (ap (λ (l : Lists). l.sources) c.reserve.ensures.lists)) c.self.invariant.ascending;
  rooms = c.reserve.ensures.kept _ c.self.invariant.rooms;
}

pub invariant_of-self-2 : goal.invariant_of-self-2
invariant_of-self-2 c = record {
  ascending = subst SourcesAscend (sym (ap (λ (l : Lists). l.sources) c.reserve.ensures.lists)) c.self.invariant.ascending;
  rooms = c.in_ok-reserve.ensures.room;
}
