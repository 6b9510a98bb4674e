use Rattle.std.proofs.Common.{◌∙◌, ◌-◌, get_or, length, sym, ap, subst}
use Rattle.access_book.specs.declared.accesses.Touch.{Touch}
use Rattle.access_book.specs.declared.accesses.Touch.TheVariants as touch
use Rattle.access_book.specs.Books.{IsAccess}
use Rattle.access_book.specs.Places.{touched_at}
use Rattle.access_book.proofs.Touches.{newest_first}
use Rattle.access_book.proofs.accesses.AccessesIterator.next.Goals as goal

pub returns-in-len1-up-clause-steps : goal.returns-in-len1-up-clause-steps
returns-in-len1-up-clause-steps c =
    let it = c.self.inside in
    let newest : Touch = get_or it.left.now (length it.left.now - 1) (touch.Read 0) in
    let z = touched_at it.book.now.cells newest in
    let book = ap (λ s. s.book) c.self.view_is in (
      book,
      (
        z,
        sym (ap (λ s. s.left) c.self.view_is) ∙ newest_first it.book.now.cells it.left.now (touch.Read 0) c.in-len1-up.len_at_least,
        subst (λ b. IsAccess b c.access.result z) book c.access.ensures,
      ),
    )
