use Rattle.std.proofs.Common.{◌∷◌, []}
use Rattle.epoch_journal.proofs.Bodies.{one_body}
use Rattle.epoch_journal.proofs.journal.EpochJournal.append.Goals as goal

pub returns-clause-any_moment : goal.returns-clause-any_moment
returns-clause-any_moment g c start all least r added kept = c.append_bodies.ensures.any_moment start all least (r ∷ []) (one_body r c.args.body.now added) kept
