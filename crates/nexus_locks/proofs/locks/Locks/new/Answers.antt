use Rattle.std.proofs.Common.{◌≡◌, ℕ, List, sym, ap, subst}
use Rattle.teb_rules.specs.declared.names.Node.{Node}
use Rattle.teb_rules.specs.declared.names.ControlKind.TheVariants.{Locks}
use Rattle.teb_rules.specs.declared.history.Event.{Event}
use Rattle.teb_rules.specs.Tree.{row}
use Rattle.phase_api.specs.FactsView.{setup_of}
use Rattle.access_conflicts.specs.Registered.{Registered}
use Rattle.nexus_locks.proofs.locks.Locks.new.Goals as goal

pub returns-clause-stands : goal.returns-clause-stands
returns-clause-stands c =
    let S = setup_of c.args._facts.now in
    record {
      kind = subst (λ (m : ℕ). (row S.tree m).control ≡ Locks) (sym (ap (λ (m : Node). m.0) c.new.ensures.node)) c.requires.kind;
      register = subst (λ (H : List Event). Registered c.new.result S H) (sym c.requires.empty) (c.new.ensures.stands S);
    }
