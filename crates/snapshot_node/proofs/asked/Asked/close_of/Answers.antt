use Rattle.std.proofs.Common.{ℕ, ap, unwrap_or, ◌∙◌}
use Rattle.phase_api.specs.FactsView.{setup_of, events_of}
use Rattle.batch_book.proofs.Telling.{joined_from}
use Rattle.snapshot_node.proofs.Closing.{close_told}
use Rattle.snapshot_node.proofs.asked.Asked.close_of.Goals as goal

pub close-requires : goal.close-requires
close-requires c = joined_from _ (setup_of c.args.self.now.facts.now) (events_of c.args.self.now.facts.now) c.args.self.now.register.now.node.0 c.args.a.0 c.args.self.now.stands.batches
    c.requires.typed.begun c.requires.on

pub returns : goal.returns
returns c =
    let S = setup_of c.args.self.now.facts.now in
    let H = events_of c.args.self.now.facts.now in
    let n = c.args.self.now.register.now.node.0 in
    c.unwrap_or.ensures ∙ ap (λ (m : ℕ). unwrap_or c.close.result m) c.len.ensures ∙ close_told S H n c.args.a.0 c.close.result (c.close.ensures S H n c.args.self.now.stands.batches)
