use Rattle.std.proofs.Common.{◌≡◌, ℕ, List, [], sym, ap, subst}
use Rattle.teb_rules.specs.declared.names.Node.{Node}
use Rattle.teb_rules.specs.declared.names.ControlKind.TheVariants.{Pipeline}
use Rattle.teb_rules.specs.declared.history.Event.{Event}
use Rattle.teb_rules.specs.Tree.{row}
use Rattle.phase_api.specs.FactsView.{setup_of}
use Rattle.access_conflicts.specs.Registered.{Registered}
use Rattle.cursor_book.specs.Cursors.{CursorsOf}
use Rattle.cursor_book.proofs.Moves.{cursors_none}
use Rattle.runtime_pipeline.specs.Predecessors.{PredecessorsOf}
use Rattle.runtime_pipeline.specs.Standing.{RanksOf}
use Rattle.runtime_pipeline.proofs.pipeline.Pipeline.new.Goals as goal

pub returns-clause-stands : goal.returns-clause-stands
returns-clause-stands c =
    let S = setup_of c.args.facts.now in
    let n = ap (λ (m : Node). m.0) c.new.ensures.node in
    record {
      kind = subst (λ (m : ℕ). (row S.tree m).control ≡ Pipeline) (sym n) c.requires.kind;
      profiled = c.requires.profiled;
      register = subst (λ (H : List Event). Registered c.new.result S H) (sym c.requires.empty) (c.new.ensures.stands S);
      ranks = subst (λ (m : ℕ). RanksOf c.in_ok-ranks.ranks S m) (sym n) c.in_ok-ranks.ensures;
      cursors = subst (λ (H : List Event). CursorsOf c.new-2.result.cursors S H) (sym c.requires.empty) (subst (λ (cs : List ℕ). CursorsOf cs S []) (sym c.new-2.ensures) (cursors_none S));
      predecessors = subst (λ (H : List Event). PredecessorsOf c.new-3.result S H c.new.result.node.0) (sym c.requires.empty) (c.new-3.ensures S c.new.result.node.0);
    }
