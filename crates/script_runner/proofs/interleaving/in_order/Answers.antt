use Rattle.std.proofs.Common.{◌≡◌, [], refl, sym, ◌∙◌, ap, subst}
use Rattle.teb_rules.specs.declared.names.naming.NameBook.{NameBook}
use Rattle.store_setup.specs.Sound.{IsWhole, IsNamed}
use Rattle.store_setup.specs.Stores.{store_of_view, names_of}
use Rattle.script_runner.specs.replay.Logs.{log_of, replayed}
use Rattle.script_runner.proofs.Runs.{replay_over, replayed_is}
use Rattle.script_runner.proofs.interleaving.in_order.Goals as goal

pub returns : goal.returns
returns g c =
    let is = c.into_parts-setup.ensures.setup in
    let X = c.in_ok-engine.engine.store in
    let H = c.in_ok-engine.engine.events in
    let K = c.replay.new.engine.events in
    let lines = c.deref.result.now in
    let answers = log_of X H (replayed X H lines) in
    let named : c.in_ok-engine.engine.names ≡ names_of c.args.input.setup = c.in_ok-engine.ensures.names ∙ ap names_of is in
    let store : X ≡ store_of_view c.args.input.setup = c.in_ok-engine.ensures.store ∙ ap store_of_view is in
    let told = c.in_ok-replay.ensures.log [] (subst (λ (n : NameBook). g.L.Log.tells c.args.log.now n []) (sym named) c.requires.blank) in
    record {
      answers = answers;
      told = subst (λ (n : NameBook). g.L.Log.tells c.replay.new.log n answers) (sym c.replay.ensures.names) told;
      ran = replayed_is X (store_of_view c.args.input.setup) H K lines c.args.input.lines store c.in_ok-engine.ensures.events (c.deref.ensures.value ∙ c.into_parts-setup.ensures.lines.0)
          c.in_ok-replay.ensures.events;
      over = replay_over c.args.input.setup X c.replay.new.engine.store c.replay.new.engine.names answers K (subst IsWhole is c.into_parts-setup.ensures.whole)
          (subst IsNamed is c.into_parts-setup.ensures.named) store c.replay.ensures.store (c.replay.ensures.names ∙ named) [] H lines refl c.in_ok-engine.ensures.events refl
          c.in_ok-replay.ensures.events;
    }
