use Rattle.std.proofs.Common.{◌≡◌, ◌<◌, ℤ, List, Option, refl, subst, sym, ap, ◌∙◌, arith}
use Rattle.store_setup.specs.Stores.{store_of}
use Rattle.engine_core.proofs.Gathering.{HasRead, read_none, read_whole, may_read, got_granted, read_next}
use Rattle.engine_core.proofs.read_cells.read_cells.Goals as goal

pub loop-i-init : goal.loop-i-init
loop-i-init g c =
    let X = store_of c.args.state.now.setup in
    let H = c.args.state.now.history.events in
    record {
      read = subst (λ (vs : List (Option ℤ)). HasRead X H c.args.t.0 c.args.first c.args.count vs H 0) (sym c.new-values.ensures)
          (read_none X H c.args.t.0 c.args.first c.args.count);
      setup = refl;
      left = (let few = c.requires.keys.0 in let enough = c.requires.ready.room in omega arith);
    }

pub read-value-requires-clause-settled : goal.read-value-requires-clause-settled
read-value-requires-clause-settled g c =
    let X = store_of c.args.state.now.setup in
    let H = c.args.state.now.history.events in
    (may_read X (store_of c.loop-i.state.setup) (ap store_of c.loop-i.invariant.setup) H c.loop-i.state.history.events c.args.t c.args.first c.args.count c.loop-i.i c.loop-i.values
    c.loop-i.invariant.read c.loop-i-test.true c.requires.leads).settled

pub read-value-requires-clause-unfinished : goal.read-value-requires-clause-unfinished
read-value-requires-clause-unfinished g c =
    let X = store_of c.args.state.now.setup in
    let H = c.args.state.now.history.events in
    (may_read X (store_of c.loop-i.state.setup) (ap store_of c.loop-i.invariant.setup) H c.loop-i.state.history.events c.args.t c.args.first c.args.count c.loop-i.i c.loop-i.values
    c.loop-i.invariant.read c.loop-i-test.true c.requires.leads).unfinished

pub append_event-requires : goal.append_event-requires
append_event-requires g c =
    let H = c.args.state.now.history.events in
    let X = store_of c.args.state.now.setup in
    let now = c.loop-i.state in
    record {
      granted = got_granted X (store_of now.setup) (ap store_of c.loop-i.invariant.setup) H now.history.events c.args.t c.args.first c.args.count c.loop-i.i c.loop-i.values c.loop-i.invariant.read
          c.loop-i-test.true
          c.cell_at-cell.result c.read-value.result.0 c.read-value.result.1 c.cell_at-cell.ensures c.read-value.ensures.source c.read-value.ensures.value c.requires.leads;
      begins = tt;
      place = tt;
      order = tt;
      some = (let h : c.loop-i.i < c.args.count = c.loop-i-test.true in let left = c.loop-i.invariant.left in omega arith);
    }

pub loop-i-preserved : goal.loop-i-preserved
loop-i-preserved g c =
    let X = store_of c.args.state.now.setup in
    let H = c.args.state.now.history.events in
    record {
      read = read_next X (store_of c.loop-i.state.setup) (ap store_of c.loop-i.invariant.setup) H c.loop-i.state.history.events c.args.t c.args.first c.args.count c.loop-i.i c.loop-i.values
          c.loop-i.invariant.read c.loop-i-test.true
          c.cell_at-cell.result c.read-value.result.0 c.read-value.result.1 c.cell_at-cell.ensures c.read-value.ensures.source c.read-value.ensures.value c.push.new.self
          c.append_event.new.state.history.events c.append_event.ensures.events c.push.ensures;
      setup = c.append_event.ensures.setup ∙ c.loop-i.invariant.setup;
      left = (let left = c.loop-i.invariant.left in let one = c.append_event.ensures.left in omega arith);
    }

pub returns-clause-values : goal.returns-clause-values
returns-clause-values g c =
    let e : c.loop-i.i ≡ c.args.count = omega arith in
    (read_whole (store_of c.args.state.now.setup) c.args.state.now.history.events c.args.t.0 c.args.first c.args.count c.loop-i.values c.loop-i.state.history.events
    (subst (HasRead (store_of c.args.state.now.setup) c.args.state.now.history.events c.args.t.0 c.args.first c.args.count c.loop-i.values c.loop-i.state.history.events) e c.loop-i.invariant.read)).0

pub returns-clause-events : goal.returns-clause-events
returns-clause-events g c =
    let e : c.loop-i.i ≡ c.args.count = omega arith in
    (read_whole (store_of c.args.state.now.setup) c.args.state.now.history.events c.args.t.0 c.args.first c.args.count c.loop-i.values c.loop-i.state.history.events
    (subst (HasRead (store_of c.args.state.now.setup) c.args.state.now.history.events c.args.t.0 c.args.first c.args.count c.loop-i.values c.loop-i.state.history.events) e c.loop-i.invariant.read)).1
