use Rattle.std.proofs.Common.{◌∙◌, ℕ, ap, get_or}
use Rattle.phase_api.specs.FactsView.{setup_of, events_of}
use Rattle.batch_book.proofs.Telling.{joined_from}
use Rattle.snapshot_node.specs.Marks.{no_mark}
use Rattle.snapshot_node.proofs.validation.Validation.mark_of.Goals as goal

pub start-requires : goal.start-requires
start-requires c = joined_from _ (setup_of c.args.self.now.asked.facts.now) (events_of c.args.self.now.asked.facts.now) c.args.self.now.asked.register.now.node.0 c.args.u.0
    c.args.self.now.asked.stands.batches c.requires.typed.begun c.requires.on

pub returns : goal.returns
returns c = c.mark_at.ensures ∙ ap (λ (i : ℕ). get_or c.args.self.now.marks.now i no_mark)
    (c.start.ensures (setup_of c.args.self.now.asked.facts.now) (events_of c.args.self.now.asked.facts.now) c.args.self.now.asked.register.now.node.0 c.args.self.now.asked.stands.batches)
