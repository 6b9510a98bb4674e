use Rattle.std.proofs.Common.{◌≡◌, ◌∷◌, subst, sym, ◌∙◌, ap, inl, inr}
use Rattle.teb_rules.specs.declared.history.Event.{Event}
use Rattle.teb_rules.specs.history.Accesses.{wrote}
use Rattle.dependency_book.specs.Orderly.{MayFollow}
use Rattle.dependency_book.specs.Books.{BookOf, lists_of}
use Rattle.dependency_book.specs.Dependencies.{IsAgain}
use Rattle.dependency_book.proofs.MultimapEdits.{less_rooms}
use Rattle.dependency_book.proofs.Noted.{noted_ready, noted_told}
use Rattle.dependency_book.proofs.registers.Registers.note.Goals as goal

pub returns-in-Began-clause-book : goal.returns-in-Began-clause-book
returns-in-Began-clause-book c P now told was =
    let Noted = λ (e : Event). MayFollow P e → BookOf (lists_of c.begin.new.self) (e ∷ P) in
    subst Noted (sym c.in-Began.is) (c.begin.ensures.book P c.in-Began.session c.in-Began.kind c.in-Began.instance was)

pub returns-in-Got-clause-book : goal.returns-in-Got-clause-book
returns-in-Got-clause-book c P now told was =
    let Noted = λ (e : Event). MayFollow P e → BookOf (lists_of c.read.new.self) (e ∷ P) in
    subst Noted (sym c.in-Got.is) (c.read.ensures.book P c.in-Got.value was)

pub returns-in-Put-clause-book : goal.returns-in-Put-clause-book
returns-in-Put-clause-book c P now told was =
    let Noted = λ (e : Event). IsAgain P e c.args.again → MayFollow P e → BookOf (lists_of c.put.new.self) (e ∷ P) in
    subst Noted (sym c.in-Put.is) (λ (first : c.args.again ≡ wrote P c.in-Put.txn.0 c.in-Put.cell). c.put.ensures.book P c.in-Put.value first was) told

pub returns-in-Done-clause-room : goal.returns-in-Done-clause-room
returns-in-Done-clause-room c n h = c.commit.ensures.room n (less_rooms c.args.self.now n h)

pub returns-in-Gone-clause-room : goal.returns-in-Gone-clause-room
returns-in-Gone-clause-room c n h = c.abort.ensures.room n (less_rooms c.args.self.now n h)

pub returns-in-Gone-clause-book : goal.returns-in-Gone-clause-book
returns-in-Gone-clause-book c P now told was =
    let Noted = λ (e : Event). MayFollow P e → BookOf (lists_of c.abort.new.self) (e ∷ P) in
    subst Noted (sym c.in-Gone.is) (c.abort.ensures.book P c.in-Gone.cause (now ∙ ap (λ (e : Event). e ∷ P) c.in-Gone.is) was)

pub returns-in-Ready-clause-book : goal.returns-in-Ready-clause-book
returns-in-Ready-clause-book c P now told was =
    let b = lists_of c.args.self.now in
    let Noted : Event → Type 0 = λ e. MayFollow P e → BookOf b (e ∷ P) in
    elim c.in-Ready.is [
      | inl at ↦ subst Noted (sym at.1) (noted_ready b b P was at.0)
      | inr at ↦ subst Noted (sym at.1) (noted_told b b P was at.0)
    ]
