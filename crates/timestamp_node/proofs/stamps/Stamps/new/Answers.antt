use Rattle.std.proofs.Common.{◌∙◌, sym, ap, subst, List}
use Rattle.teb_rules.specs.declared.history.Event.{Event}
use Rattle.teb_rules.specs.Setup.{NodeRow}
use Rattle.phase_api.specs.FactsView.{setup_of, IsOrderly}
use Rattle.access_conflicts.proofs.Orderly.{orderly_none}
use Rattle.batch_book.specs.Histories.{BatchesOf}
use Rattle.timestamp_node.specs.Reads.{IsTimely}
use Rattle.timestamp_node.specs.Standing.{ReadsOf}
use Rattle.timestamp_node.proofs.Noting.{no_reads, no_timely}
use Rattle.timestamp_node.proofs.stamps.Stamps.new.Goals as goal

pub returns-clause-stands : goal.returns-clause-stands
returns-clause-stands c =
    let S = setup_of c.args.facts.now in
    let n = c.args.node.0 in
    record {
      kind = c.requires.kind;
      ordered = ap (λ (r : NodeRow). r.ordered) c.row-row.ensures;
      size = c.new.ensures.size ∙ ap (λ (r : NodeRow). r.batch) c.row-row.ensures;
      orderly = subst (IsOrderly S) (sym c.requires.empty) (orderly_none S);
      timely = subst IsTimely (sym c.requires.empty) no_timely;
      batches = subst (λ (H : List Event). BatchesOf c.new.result S H n) (sym c.requires.empty) (c.new.ensures.batches S n);
      reads = subst (λ (H : List Event). ReadsOf c.new-2.result S H n) (sym c.requires.empty) (no_reads c.new-2.result S n c.new-2.ensures.entries);
    }
