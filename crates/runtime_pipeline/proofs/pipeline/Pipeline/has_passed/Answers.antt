use Rattle.std.proofs.Common.{◌≡◌, ◌∙◌, ◌||◌, Bool, ltb, ap, sym}
use Rattle.teb_rules.specs.history.Phases.{prepared, committed, aborted, kind_of}
use Rattle.teb_rules.specs.Steps.{passed, rank_of_step, cursor}
use Rattle.phase_api.specs.FactsView.{setup_of, events_of}
use Rattle.runtime_pipeline.proofs.pipeline.Pipeline.has_passed.Goals as goal
use Rattle.runtime_pipeline.proofs.pipeline.Pipeline.has_passed.Goals.{then-is_prepared, else-is_prepared, then-is_committed, else-is_committed}

pub returns-then-is_aborted : goal.returns-then-is_aborted
unfolding passed
returns-then-is_aborted c =
    let H = events_of c.args.facts.now in
    let u = c.args.u.0 in
    let r = ltb c.args.rank (rank_of_step (setup_of c.args.facts.now) c.args.self.now.register.node.0 (kind_of H u) (cursor (setup_of c.args.facts.now) H u)) in
    let first : c.if-is_prepared.value ≡ (prepared H u || committed H u) = elim c.if-is_prepared.branch [
      | then-is_prepared w ↦ w.value-is ∙ w.if-is_prepared.true ∙ sym (ap (λ (b : Bool). b || committed H u) (sym c.is_prepared.ensures ∙ w.if-is_prepared.true))
      | else-is_prepared w ↦ w.value-is ∙ w.is_committed.ensures ∙ sym (ap (λ (b : Bool). b || committed H u) (sym c.is_prepared.ensures ∙ w.if-is_prepared.false))
    ] in
    let second : c.if-is_committed.value ≡ (prepared H u || committed H u || aborted H u) = elim c.if-is_committed.branch [
      | then-is_committed w ↦ w.value-is ∙ w.if-is_committed.true ∙ sym (ap (λ (b : Bool). b || aborted H u) (sym first ∙ w.if-is_committed.true))
      | else-is_committed w ↦ w.value-is ∙ w.is_aborted.ensures ∙ sym (ap (λ (b : Bool). b || aborted H u) (sym first ∙ w.if-is_committed.false))
    ] in
    c.if-is_aborted.true ∙ sym (ap (λ (b : Bool). b || r) (sym second ∙ c.if-is_aborted.true))

pub returns-else-is_aborted : goal.returns-else-is_aborted
unfolding passed
returns-else-is_aborted c =
    let H = events_of c.args.facts.now in
    let u = c.args.u.0 in
    let r = ltb c.args.rank (rank_of_step (setup_of c.args.facts.now) c.args.self.now.register.node.0 (kind_of H u) (cursor (setup_of c.args.facts.now) H u)) in
    let first : c.if-is_prepared.value ≡ (prepared H u || committed H u) = elim c.if-is_prepared.branch [
      | then-is_prepared w ↦ w.value-is ∙ w.if-is_prepared.true ∙ sym (ap (λ (b : Bool). b || committed H u) (sym c.is_prepared.ensures ∙ w.if-is_prepared.true))
      | else-is_prepared w ↦ w.value-is ∙ w.is_committed.ensures ∙ sym (ap (λ (b : Bool). b || committed H u) (sym c.is_prepared.ensures ∙ w.if-is_prepared.false))
    ] in
    let second : c.if-is_committed.value ≡ (prepared H u || committed H u || aborted H u) = elim c.if-is_committed.branch [
      | then-is_committed w ↦ w.value-is ∙ w.if-is_committed.true ∙ sym (ap (λ (b : Bool). b || aborted H u) (sym first ∙ w.if-is_committed.true))
      | else-is_committed w ↦ w.value-is ∙ w.is_aborted.ensures ∙ sym (ap (λ (b : Bool). b || aborted H u) (sym first ∙ w.if-is_committed.false))
    ] in
    ap (λ k. ltb c.args.rank k) c.current_rank.ensures ∙ sym (ap (λ (b : Bool). b || r) (sym second ∙ c.if-is_aborted.false))
