use Rattle.std.proofs.Common.{◌≡◌, Bool, true, false, cond, not, ◌&&◌, refl, sym, ◌∙◌, List, arith}
use Rattle.teb_rules.specs.names.Cells.{same_cell}
use Rattle.teb_rules.specs.history.Accesses.{wrote}
use Rattle.dependency_book.proofs.Noted.{noted_put}
use Rattle.dependency_book.proofs.registers.Registers.put.Goals as goal

-- nothing is added if the cell was put already
kept : {V : Type 0} (p c : Bool) (xs ys : List V) → true ≡ p → xs ≡ cond (c && not p) ys xs
kept true true xs ys e = refl
kept true false xs ys e = refl
kept false c xs ys e = absurd (let z : true ≡ false = e in cc)

-- otherwise it is added
added : {V : Type 0} (p c : Bool) (xs ys : List V) → false ≡ p → cond c ys xs ≡ cond (c && not p) ys xs
added false true xs ys e = refl
added false false xs ys e = refl
added true c xs ys e = absurd (let z : false ≡ true = e in cc)

pub returns-then-again-clause-book : goal.returns-then-again-clause-book
returns-then-again-clause-book c P v told was may =
    let t = c.args.t in
    let x = c.args.cell in
    let is : true ≡ wrote P t.0 x = sym c.if-again.true ∙ told in
    noted_put _ _ P was t x v may (λ y. refl)
    (λ y. kept _ (same_cell x y) _ _ is)
    refl refl

pub returns-clause-book : goal.returns-clause-book
returns-clause-book c P v told was may =
    let t = c.args.t in
    let x = c.args.cell in
    let is : false ≡ wrote P t.0 x = sym c.if-again.false ∙ told in
    noted_put _ _ P was t x v may c.put.ensures.readers
    (λ y. c.put.ensures.writers y ∙ added _ (same_cell x y) _ _ is)
    refl refl

pub returns-clause-room : goal.returns-clause-room
returns-clause-room c n h = record { cells = c.put.ensures.room n h.cells; sources = omega (arith, h.sources); unfinished = omega (arith, h.unfinished) }
