use Rattle.std.proofs.Common.{◌∙◌, sym}
use Rattle.batch_book.proofs.Closings.{closed_before, still_open}
use Rattle.batch_book.proofs.Telling.{joined_began}
use Rattle.batch_book.proofs.batches.Batches.is_closed_before.Goals as goal

pub returns-in-Some : goal.returns-in-Some
returns-in-Some c = λ S H n h. closed_before S H n c.args.u.0 c.args.t.0 c.in-Some.close _ (sym c.in-Some.is ∙ c.close.ensures S H n h) (c.start.ensures S H n h)

pub returns-in-None : goal.returns-in-None
returns-in-None c = λ S H n h. still_open S H n c.args.u.0 c.args.t.0 (sym c.in-None.is ∙ c.close.ensures S H n h) (joined_began c.args.self.now S H n c.args.t.0 h c.requires.started).0
