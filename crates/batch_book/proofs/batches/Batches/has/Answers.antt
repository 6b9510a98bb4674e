use Rattle.std.proofs.Common.{◌∙◌, List, eqb, find, is_some, ap}
use Rattle.std.specs.List.{list_any}
use Rattle.batch_book.specs.declared.members.Member.{Member}
use Rattle.batch_book.specs.Book.{Row, Book}
use Rattle.batch_book.specs.Fields.{row_shown}
use Rattle.batch_book.proofs.Elements.{is_found_shown}
use Rattle.batch_book.proofs.Telling.{joined_tells}
use Rattle.batch_book.proofs.batches.Batches.has.Goals as goal

pub returns-clause-joined : goal.returns-clause-joined
returns-clause-joined c =
    let J = c.self.inside.joined.items in
    let B = c.self.inside.batches.items in
    let looked = λ (js : List Member). find (λ (m : Member). eqb m.txn.0 c.args.t.0) js in
    c.is_some.ensures ∙ ap is_some (c.find_member.ensures ∙ ap looked c.deref.ensures.value)
    ∙ is_found_shown (row_shown B) (λ (r : Row). eqb r.txn c.args.t.0) J
    ∙ ap (λ (b : Book). list_any (λ (r : Row). eqb r.txn c.args.t.0) b.rows) c.self.view_is

pub returns-clause-here : goal.returns-clause-here
returns-clause-here c S H n h = returns-clause-joined c ∙ joined_tells c.args.self.now S H n c.args.t.0 h
