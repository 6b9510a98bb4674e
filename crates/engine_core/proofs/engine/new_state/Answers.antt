use Rattle.std.proofs.Common.{subst, ap, ◌∙◌}
use Rattle.teb_rules.specs.history.Written.{Written}
use Rattle.teb_rules.specs.Setup.{Setup}
use Rattle.phase_api.specs.FactsView.{setup_of}
use Rattle.phase_api.specs.Standing.{StandAll}
use Rattle.engine_core.specs.AnyControls.{any_node_number, any_stands}
use Rattle.store_setup.specs.Stores.{store_of}
use Rattle.engine_core.proofs.Reached.{reached_none}
use Rattle.engine_core.proofs.Rooms.{no_room}
use Rattle.engine_core.proofs.Setups.{whole_from_nothing, enough_profiles, few_ranked}
use Rattle.engine_core.proofs.engine.new_state.Goals as goal

pub invariant_of-result : goal.invariant_of-result
invariant_of-result g c = record {
  whole = whole_from_nothing c.args.setup c.new-history.result.events c.in_ok-controls.controls.items (g.C.Chains.lists c.args.chains) c.new.result.lists c.new-2.result.cursors c.new-3.result
      c.requires.setup c.new-history.ensures
      (subst (λ (S : Setup). StandAll any_node_number any_stands c.in_ok-controls.controls.items S c.new-history.result.events) c.facts_of.ensures.setup
      (subst (λ (h : Written). StandAll any_node_number any_stands c.in_ok-controls.controls.items (setup_of c.facts_of.result) h.events) c.facts_of.ensures.history c.in_ok-controls.ensures))
      c.requires.chains c.new.ensures c.new-2.ensures c.new-3.ensures;
  has_room = no_room _ _ _ _ _;
}

pub returns-clause-kept : goal.returns-clause-kept
returns-clause-kept g c = record {
  setup = c.requires.setup;
  reached = reached_none (store_of c.args.setup) c.new-history.result.events c.new-history.ensures;
  enough = λ f. absurd (cc);
}

pub controls_of-requires : goal.controls_of-requires
controls_of-requires g c = record {
  profiled = enough_profiles c.args.setup (setup_of c.facts_of.result) c.facts_of.ensures.setup c.requires.setup;
  few = few_ranked c.args.setup (setup_of c.facts_of.result) c.facts_of.ensures.setup c.requires.setup;
  empty = ap (λ (h : Written). h.events) c.facts_of.ensures.history ∙ c.new-history.ensures;
}
