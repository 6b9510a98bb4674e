use Rattle.std.proofs.Common.{◌∙◌, ap, cond, Bool}
use Rattle.hold_book.specs.Books.{shown, released}
use Rattle.hold_book.proofs.Entering.{edited_lent}
use Rattle.teb_rules.proofs.lemmas.names.SameCells.{same_itself}
use Rattle.hold_book.proofs.book.HoldBook.release.Goals as goal

pub returns-clause-here : goal.returns-clause-here
returns-clause-here c =
    let hs = shown c.args.self.now c.args.cell in
    edited_lent c.args.cell c.args.self.now c.self.inside.slots c.deref_mut.result.now c.release_in.new.slots c.self.inside.others c.release_in.new.others c.self.inside.spare
    (released c.args.t.0) c.self.view_is c.deref_mut.ensures.value (c.release_in.ensures.len ∙ c.deref_mut.ensures.len) c.release_in.ensures.holds c.args.cell
    ∙ ap (λ (b : Bool). cond b (released c.args.t.0 hs) hs) (same_itself c.args.cell)

pub returns-clause-elsewhere : goal.returns-clause-elsewhere
returns-clause-elsewhere c y e =
    let hs = shown c.args.self.now y in
    edited_lent c.args.cell c.args.self.now c.self.inside.slots c.deref_mut.result.now c.release_in.new.slots c.self.inside.others c.release_in.new.others c.self.inside.spare
    (released c.args.t.0) c.self.view_is c.deref_mut.ensures.value (c.release_in.ensures.len ∙ c.deref_mut.ensures.len) c.release_in.ensures.holds y
    ∙ ap (λ (b : Bool). cond b (released c.args.t.0 hs) hs) e
