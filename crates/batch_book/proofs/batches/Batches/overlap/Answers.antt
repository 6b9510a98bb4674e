use Rattle.std.proofs.Common.{◌∙◌, ◌&&◌, not, eqb}
use Rattle.teb_rules.specs.Batches.{start}
use Rattle.batch_book.specs.Book.{closes_before}
use Rattle.batch_book.proofs.Closings.{closes_as}
use Rattle.batch_book.proofs.Telling.{joined_began}
use Rattle.batch_book.proofs.batches.Batches.overlap.Goals as goal

pub returns : goal.returns
returns c = λ S H n h.
    let a = c.batch.ensures in
    let b = c.batch-2.ensures in
    let begun_t = (joined_began c.args.self.now S H n c.args.t.0 h c.requires.first).0 in
    let begun_u = (joined_began c.args.self.now S H n c.args.u.0 h c.requires.second).0 in
    c.overlap.ensures
    ∙ (λ j. not (eqb (a.start S H n h j) (b.start S H n h j)) && not (closes_before (a.close S H n h j) (b.start S H n h j)) && not (closes_before (b.close S H n h j) (a.start S H n h j)))
    ∙ (λ j. not (eqb (start S H n c.args.t.0) (start S H n c.args.u.0)) && not (closes_as S H n c.args.t.0 c.args.u.0 begun_u j) && not (closes_as S H n c.args.u.0 c.args.t.0 begun_t j))
