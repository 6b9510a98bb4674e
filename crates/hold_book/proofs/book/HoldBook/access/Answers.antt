use Rattle.std.proofs.Common.{◌∙◌, ap, cond, Bool}
use Rattle.hold_book.specs.Books.{shown, accessed}
use Rattle.hold_book.proofs.Entering.{edited_lent}
use Rattle.teb_rules.proofs.lemmas.names.SameCells.{same_itself}
use Rattle.hold_book.proofs.Holders.{stands_got, stands_put}
use Rattle.hold_book.proofs.book.HoldBook.access.Goals as goal

pub returns-clause-here : goal.returns-clause-here
returns-clause-here c =
    let hs = shown c.args.self.now c.args.cell in
    edited_lent c.args.cell c.args.self.now c.self.inside.slots c.deref_mut.result.now c.access_in.new.slots c.self.inside.others c.access_in.new.others c.self.inside.spare
    (accessed c.args.t c.args.wrote) c.self.view_is c.deref_mut.ensures.value (c.access_in.ensures.len ∙ c.deref_mut.ensures.len) c.access_in.ensures.holds c.args.cell
    ∙ ap (λ (b : Bool). cond b (accessed c.args.t c.args.wrote hs) hs) (same_itself c.args.cell)

pub returns-clause-elsewhere : goal.returns-clause-elsewhere
returns-clause-elsewhere c y e =
    let hs = shown c.args.self.now y in
    edited_lent c.args.cell c.args.self.now c.self.inside.slots c.deref_mut.result.now c.access_in.new.slots c.self.inside.others c.access_in.new.others c.self.inside.spare
    (accessed c.args.t c.args.wrote) c.self.view_is c.deref_mut.ensures.value (c.access_in.ensures.len ∙ c.deref_mut.ensures.len) c.access_in.ensures.holds y
    ∙ ap (λ (b : Bool). cond b (accessed c.args.t c.args.wrote hs) hs) e

pub returns-clause-got : goal.returns-clause-got
returns-clause-got c S P n w v read m stood =
    stands_got _ _ S P n c.args.t stood c.args.cell w v m (returns-clause-here c ∙ ap (λ (b : Bool). accessed c.args.t b (shown c.args.self.now c.args.cell)) read)
    (λ y e. returns-clause-elsewhere c y e)

pub returns-clause-put : goal.returns-clause-put
returns-clause-put c S P n v put m stood =
    stands_put _ _ S P n c.args.t stood c.args.cell v m (returns-clause-here c ∙ ap (λ (b : Bool). accessed c.args.t b (shown c.args.self.now c.args.cell)) put) (λ y e. returns-clause-elsewhere c y e)
