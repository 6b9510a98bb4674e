use Rattle.std.proofs.Common.{◌≡◌, ◌<◌, ℕ, Some, slice_get, sym, ap, subst, ◌∙◌, arith, List, length}
use Rattle.std.proofs.lemmas.List.{length-map}
use Rattle.teb_rules.specs.declared.names.TheConstants.{SESSIONS}
use Rattle.teb_rules.specs.declared.names.Txn.{Txn}
use Rattle.teb_rules.specs.history.Written.{Written}
use Rattle.teb_rules.specs.Cascade.{cascade, blamed, txn}
use Rattle.teb_rules.proofs.lemmas.laws.Sound.{tree_facts}
use Rattle.teb_rules.proofs.lemmas.laws.Sessions.{cascade_few}
use Rattle.abort_cascade.specs.Recoverable.{IsRecoverable}
use Rattle.abort_cascade.specs.Rounds.{blames}
use Rattle.abort_cascade.proofs.LawfulCascades.{good_recoverable}
use Rattle.store_setup.specs.Stores.{store_of}
use Rattle.engine_core.proofs.Falling.{next_fallen, next_unfinished, next_events, first_events, last_events}
use Rattle.engine_core.proofs.falls.fall.Goals as goal

pub cascade-fallen-requires-clause-recoverable : goal.cascade-fallen-requires-clause-recoverable
cascade-fallen-requires-clause-recoverable g c =
    let S = (store_of c.args.state.now.setup).setup in
    let H = c.args.state.now.history.events in
    subst (λ (h : Written). IsRecoverable h.events) (sym c.facts_of.ensures.history)
    (good_recoverable S (tree_facts _ c.args.state.now.whole.sound) H (record { legal = c.args.state.now.whole.lawful; settled = c.requires.ready.settled }))

pub cascade-fallen-requires-clause-few : goal.cascade-fallen-requires-clause-few
cascade-fallen-requires-clause-few g c =
    let S = (store_of c.args.state.now.setup).setup in
    let H = c.args.state.now.history.events in
    let few : length (cascade H c.args.t.0) < SESSIONS = cascade_few S (tree_facts _ c.args.state.now.whole.sound) H c.args.t.0
    (record { legal = c.args.state.now.whole.lawful; settled = c.requires.ready.settled }) c.requires.unfinished in
    let e : length (cascade c.facts_of.result.history.now.events c.args.t.0) ≡ length (cascade H c.args.t.0) = ap (λ (h : Written). length (cascade h.events c.args.t.0)) c.facts_of.ensures.history in
    omega arith

pub loop-i-init : goal.loop-i-init
loop-i-init g c =
    let S = (store_of c.args.state.now.setup).setup in
    let H = c.args.state.now.history.events in
    let few : length (cascade H c.args.t.0) < SESSIONS = cascade_few S (tree_facts _ c.args.state.now.whole.sound) H c.args.t.0
    (record { legal = c.args.state.now.whole.lawful; settled = c.requires.ready.settled }) c.requires.unfinished in
    record {
      events = first_events H c.append_event.new.state.history.events c.args.t c.args.cause c.append_event.ensures.events;
      setup = c.append_event.ensures.setup;
      left = (let enough = c.requires.ready.room in let one = c.append_event.ensures.left in omega arith);
    }

pub append_event-requires-in-loop-i : goal.append_event-requires-in-loop-i
append_event-requires-in-loop-i g c =
    let S = (store_of c.args.state.now.setup).setup in
    let H = c.args.state.now.history.events in
    let blame = c.cascade-fallen.ensures ∙ ap (λ (h : Written). blames h.events c.args.t.0) c.facts_of.ensures.history in
    let n : length c.cascade-fallen.result ≡ length (cascade H c.args.t.0) = ap length blame ∙ length-map (cascade H c.args.t.0) (λ (u : ℕ). (txn u, txn (blamed H c.args.t.0 u))) in
    let left = c.loop-i.invariant.left in
    record {
      granted = next_unfinished S (tree_facts _ c.args.state.now.whole.sound) H c.loop-i.state.history.events c.args.t.0 c.args.cause c.loop-i.i c.at.result
          (record { legal = c.args.state.now.whole.lawful; settled = c.requires.ready.settled }) c.requires.unfinished c.loop-i.invariant.events
          (next_fallen H c.args.t.0 c.loop-i.i c.at.result (subst (λ (ps : List (Txn × Txn)). slice_get ps c.loop-i.i ≡ Some c.at.result) blame c.at.ensures));
      begins = tt;
      place = tt;
      order = tt;
      some = (let h : c.loop-i.i < length (cascade H c.args.t.0) = omega arith in omega arith);
    }

pub loop-i-preserved : goal.loop-i-preserved
loop-i-preserved g c =
    let H = c.args.state.now.history.events in
    let blame = c.cascade-fallen.ensures ∙ ap (λ (h : Written). blames h.events c.args.t.0) c.facts_of.ensures.history in
    record {
      events = next_events H c.loop-i.state.history.events c.append_event-in-loop-i.new.state.history.events c.args.t.0 c.args.cause c.loop-i.i c.at.result c.loop-i.invariant.events
          (next_fallen H c.args.t.0 c.loop-i.i c.at.result (subst (λ (ps : List (Txn × Txn)). slice_get ps c.loop-i.i ≡ Some c.at.result) blame c.at.ensures)) c.append_event-in-loop-i.ensures.events;
      setup = c.append_event-in-loop-i.ensures.setup ∙ c.loop-i.invariant.setup;
      left = (let left = c.loop-i.invariant.left in let one = c.append_event-in-loop-i.ensures.left in omega arith);
    }

pub returns-clause-events : goal.returns-clause-events
returns-clause-events g c =
    let H = c.args.state.now.history.events in
    let blame = c.cascade-fallen.ensures ∙ ap (λ (h : Written). blames h.events c.args.t.0) c.facts_of.ensures.history in
    let n : length c.cascade-fallen.result ≡ length (cascade H c.args.t.0) = ap length blame ∙ length-map (cascade H c.args.t.0) (λ (u : ℕ). (txn u, txn (blamed H c.args.t.0 u))) in
    let e : c.loop-i.i ≡ length (cascade H c.args.t.0) = omega arith in
    last_events H c.loop-i.state.history.events c.args.t.0 c.args.cause c.loop-i.i e c.loop-i.invariant.events

pub returns-clause-setup : goal.returns-clause-setup
returns-clause-setup g c = c.loop-i.invariant.setup
