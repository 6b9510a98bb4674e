use Rattle.std.proofs.Common.{◌∙◌, sym}
use Rattle.phase_api.specs.FactsView.{events_of}
use Rattle.dependency_book.proofs.OrderlyHistories.{unfinished_parts}
use Rattle.commit_gate.proofs.sources.is_waited_for.Goals as goal

pub meet_at-requires-clause-right : goal.meet_at-requires-clause-right
meet_at-requires-clause-right c =
    let begun = (unfinished_parts (events_of c.args.facts.now) c.args.w.0 (sym c.is_unfinished.ensures ∙ c.if-is_unfinished.true)).0 in
    record { begun = begun; kind = c.requires.orderly.typed c.args.w.0 begun }
