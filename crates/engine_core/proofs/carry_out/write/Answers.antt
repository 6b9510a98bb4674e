use Rattle.std.proofs.Common.{subst, arith}
use Rattle.teb_rules.specs.laws.Lawful.{Lawful}
use Rattle.engine_core.specs.declared.decision.Decision.{Decision}
use Rattle.engine_core.specs.Decisions.{carried, IsBounded, IsShort}
use Rattle.store_setup.specs.Stores.{store_of}
use Rattle.engine_core.proofs.Appending.{put_placed}
use Rattle.engine_core.proofs.Falling.{abort_unfinished}
use Rattle.engine_core.proofs.Carrying.{leads_granted, no_put_placed}
use Rattle.engine_core.proofs.carry_out.write.Goals as goal

pub append_event-requires : goal.append_event-requires
append_event-requires g c =
    let X = store_of c.args.state.now.setup in
    let H = c.args.state.now.history.events in
    let L = g.C.Chains.lists c.args.state.now.chains in
    let bounded = subst (IsBounded L X.setup H) c.in-Grant.is c.requires.bounded in
    let placed = no_put_placed X.setup H L c.in-Grant.event _ bounded.1 in
    record {
      granted = leads_granted X.setup H c.in-Grant.event (subst (λ (d : Decision). Lawful X.setup (carried X H d).1) c.in-Grant.is c.requires.leads);
      begins = bounded.0;
      place = placed.0;
      order = placed.1;
      some = (let enough = c.requires.ready.room in omega arith);
    }

pub append_event-requires-in-Put : goal.append_event-requires-in-Put
append_event-requires-in-Put g c =
    let X = store_of c.args.state.now.setup in
    let H = c.args.state.now.history.events in
    let L = g.C.Chains.lists c.args.state.now.chains in
    let placed = put_placed X.setup H L c.in-Put.txn c.in-Put.cell c.in-Put.value c.in-Put.place (subst (IsBounded L X.setup H) c.in-Put.is c.requires.bounded) in
    record {
      granted = leads_granted X.setup H _ (subst (λ (d : Decision). Lawful X.setup (carried X H d).1) c.in-Put.is c.requires.leads);
      begins = tt;
      place = placed.0;
      order = placed.1;
      some = (let enough = c.requires.ready.room in omega arith);
    }

pub fall-requires-clause-unfinished : goal.fall-requires-clause-unfinished
fall-requires-clause-unfinished g c = abort_unfinished (store_of c.args.state.now.setup).setup c.args.state.now.history.events c.in-Fall.t.0 c.in-Fall.cause
    (subst (λ (d : Decision). Lawful (store_of c.args.state.now.setup).setup (carried (store_of c.args.state.now.setup) c.args.state.now.history.events d).1) c.in-Fall.is c.requires.leads)

pub unreachable-requires : goal.unreachable-requires
unreachable-requires g c = subst IsShort c.in-Scan.is c.requires.short
