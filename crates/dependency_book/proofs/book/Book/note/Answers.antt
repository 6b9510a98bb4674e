use Rattle.std.proofs.Common.{◌≡◌, ℕ, ◌+◌, ◌-◌, ap, subst, arith}
use Rattle.dependency_book.specs.Books.{Shown, HasRooms}
use Rattle.dependency_book.proofs.book.Book.note.Goals as goal

pub invariant_of-self : goal.invariant_of-self
invariant_of-self c =
    let some : c.self.inside.spare ≡ (c.self.inside.spare - 1) + 1 = omega (arith, ap (λ (b : Shown). b.spare) c.self.view_is, c.requires) in
    record { ascending = c.note.ensures.ascending; rooms = c.note.ensures.room _ (subst (λ (n : ℕ). HasRooms c.self.inside.registers n) some c.self.invariant.rooms) }
