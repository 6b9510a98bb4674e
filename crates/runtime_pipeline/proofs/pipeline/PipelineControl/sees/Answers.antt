use Rattle.std.proofs.Common.{◌∙◌, ◌||◌, Bool, ap, sym}
use Rattle.teb_rules.specs.Steps.{passed, rank_of_table}
use Rattle.phase_api.specs.FactsView.{setup_of, events_of}
use Rattle.runtime_pipeline.proofs.Said.{pipeline_sees}
use Rattle.runtime_pipeline.proofs.pipeline.PipelineControl.sees.Goals as goal

pub returns-then-is_committed : goal.returns-then-is_committed
returns-then-is_committed c =
    let S = setup_of c.args.facts.now in
    let H = events_of c.args.facts.now in
    let n = c.args.self.now.register.node.0 in
    c.if-is_committed.true ∙ sym (ap (λ (b : Bool). b || passed S H n c.args.writer.0 (rank_of_table S n c.args.cell.table.0)) (sym c.is_committed.ensures ∙ c.if-is_committed.true))
    ∙ pipeline_sees S H n c.requires.stands.kind c.args._reader.0 c.args.writer.0 c.args.cell

pub returns-else-is_committed : goal.returns-else-is_committed
returns-else-is_committed c =
    let S = setup_of c.args.facts.now in
    let H = events_of c.args.facts.now in
    let n = c.args.self.now.register.node.0 in
    c.has_passed.ensures ∙ ap (λ k. passed S H n c.args.writer.0 k) (c.rank.ensures ∙ c.requires.stands.ranks c.args.cell.table.0)
    ∙ sym (ap (λ (b : Bool). b || passed S H n c.args.writer.0 (rank_of_table S n c.args.cell.table.0)) (sym c.is_committed.ensures ∙ c.if-is_committed.false))
    ∙ pipeline_sees S H n c.requires.stands.kind c.args._reader.0 c.args.writer.0 c.args.cell
