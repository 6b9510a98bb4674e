use Rattle.std.proofs.Common.{refl, ◌∙◌, arith}
use Rattle.teb_rules.specs.Driver.{seated}
use Rattle.script_runner.specs.turns.Seats.{seats_in, scripts_on}
use Rattle.script_runner.specs.turns.Rounds.{round_of}
use Rattle.script_runner.proofs.lemmas.turns.Underway.{on_err, logged_start, logged_made, logged_next, logged_short, logged_ended, underway_few}
use Rattle.script_runner.proofs.turns.drive.turns.Goals as goal

pub returns-in_err-ring-clause-err : goal.returns-in_err-ring-clause-err
returns-in_err-ring-clause-err g c =
    let X = c.args.engine.now.store in
    let H = c.args.engine.now.events in
    let names = c.args.engine.now.names in
    let scripts = scripts_on c.args.scripts.now in
    let Tells = g.G.Log.tells c.args.log.now in
    on_err c.from_residual.result (logged_made X c.history.ensures.sound scripts c.requires.ascending Tells Tells names names H H (seated scripts) c.args.steps.now c.args.steps.now refl refl
    (λ _ t. t)
    (logged_start X scripts (Tells names) H (seated scripts) c.args.steps.now c.requires.blank c.requires.new refl))

pub returns-in_err-reserve_ahead-clause-err : goal.returns-in_err-reserve_ahead-clause-err
returns-in_err-reserve_ahead-clause-err g c =
    let X = c.args.engine.now.store in
    let H = c.args.engine.now.events in
    let names = c.args.engine.now.names in
    let scripts = scripts_on c.args.scripts.now in
    let Tells = g.G.Log.tells c.args.log.now in
    on_err c.from_residual-in_err-reserve_ahead.result (logged_made X c.history.ensures.sound scripts c.requires.ascending Tells Tells names names H c.reserve_ahead.new.self.events
    (seated scripts) c.args.steps.now c.args.steps.now refl c.reserve_ahead.ensures.events (λ _ t. t)
    (logged_start X scripts (Tells names) H (seated scripts) c.args.steps.now c.requires.blank c.requires.new refl))

pub loop-ring-init : goal.loop-ring-init
loop-ring-init g c =
    let e = c.reserve_ahead.ensures in
    record {
      store = e.store;
      names = e.names;
      logged = logged_start c.args.engine.now.store (scripts_on c.args.scripts.now) (g.G.Log.tells c.args.log.now c.args.engine.now.names) c.reserve_ahead.new.self.events
          (round_of c.in_ok-ring.ring) c.args.steps.now c.requires.blank (e.events ∙ c.requires.new) c.in_ok-ring.ensures;
    }

pub make_turn-requires : goal.make_turn-requires
make_turn-requires g c =
    let l = c.loop-ring in
    record {
      few = underway_few c.args.engine.now.store c.history.ensures.sound (scripts_on c.args.scripts.now) c.requires.ascending l.invariant.logged.answers l.engine.events l.ring.next
          (seats_in l.ring.cursors.items) l.invariant.logged.underway;
    }

pub returns-in_err-make_turn-clause-err : goal.returns-in_err-make_turn-clause-err
returns-in_err-make_turn-clause-err g c =
    let l = c.loop-ring in
    let e = c.in_err-make_turn.ensures.err in
    on_err c.from_residual-in_err-make_turn.result (logged_made c.args.engine.now.store c.history.ensures.sound (scripts_on c.args.scripts.now) c.requires.ascending (g.G.Log.tells l.log)
    (g.G.Log.tells c.make_turn.new.log) l.engine.names c.args.engine.now.names
    l.engine.events c.make_turn.new.engine.events (round_of l.ring) c.args.steps.now l.steps l.invariant.names e.0 e.1 l.invariant.logged)

pub loop-ring-smaller : goal.loop-ring-smaller
loop-ring-smaller g c =
    let l = c.loop-ring in
    let short = logged_short c.args.engine.now.store l.engine.store c.history.ensures.sound (scripts_on c.args.scripts.now) c.requires.ascending (g.G.Log.tells l.log)
    (g.G.Log.tells c.make_turn.new.log) l.engine.names c.args.engine.now.names c.in_ok-make_turn.field-0
    l.engine.events c.make_turn.new.engine.events (round_of l.ring) (round_of c.make_turn.new.ring) c.args.steps.now l.steps l.invariant.store l.invariant.names c.in_ok-make_turn.ensures.ok
    l.invariant.logged c.if-branch.true in
    let t = c.tick.ensures in
    omega arith

pub loop-ring-preserved : goal.loop-ring-preserved
loop-ring-preserved g c =
    let l = c.loop-ring in
    record {
      store = c.in_ok-make_turn.ensures.store ∙ l.invariant.store;
      names = c.in_ok-make_turn.ensures.names ∙ l.invariant.names;
      logged = logged_next c.args.engine.now.store l.engine.store c.history.ensures.sound (scripts_on c.args.scripts.now) c.requires.ascending (g.G.Log.tells l.log) (g.G.Log.tells c.make_turn.new.log)
          l.engine.names c.args.engine.now.names c.in_ok-make_turn.field-0
          l.engine.events c.make_turn.new.engine.events (round_of l.ring) (round_of c.make_turn.new.ring) c.args.steps.now l.steps l.invariant.store l.invariant.names c.in_ok-make_turn.ensures.ok
          l.invariant.logged c.tick.new.self c.if-branch.true c.tick.ensures;
    }

pub returns-clause-ok : goal.returns-clause-ok
returns-clause-ok g c =
    let l = c.loop-ring in
    logged_ended c.args.engine.now.store l.engine.store c.history.ensures.sound (scripts_on c.args.scripts.now) c.requires.ascending (g.G.Log.tells l.log) (g.G.Log.tells c.make_turn.new.log)
    l.engine.names c.args.engine.now.names c.in_ok-make_turn.field-0
    l.engine.events c.make_turn.new.engine.events (round_of l.ring) (round_of c.make_turn.new.ring) c.args.steps.now l.steps l.invariant.store l.invariant.names c.in_ok-make_turn.ensures.ok
    l.invariant.logged c.if-branch.false
