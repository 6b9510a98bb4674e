use Rattle.std.proofs.Common.{List, [], sym, ◌∙◌, ap, subst, subst₂}
use Rattle.teb_rules.specs.declared.names.naming.NameBook.{NameBook}
use Rattle.teb_rules.specs.Setup.{Store}
use Rattle.script_text.specs.declared.Line.{Line}
use Rattle.script_text.specs.Scripts.{scripts_of}
use Rattle.script_text.specs.Sessions.{AreOfSessions}
use Rattle.store_setup.specs.Sound.{IsWhole, IsNamed}
use Rattle.store_setup.specs.Stores.{store_of_view, names_of}
use Rattle.script_runner.specs.Runs.{AreTurns}
use Rattle.script_runner.proofs.Runs.{turns_over}
use Rattle.script_runner.proofs.driving.in_turns.Goals as goal

pub drive-requires-clause-told : goal.drive-requires-clause-told
drive-requires-clause-told g c = subst (λ (n : NameBook). g.G.Log.tells c.args.log.now n []) (sym (c.in_ok-engine.ensures.names ∙ ap names_of c.into_parts-setup.ensures.setup)) c.requires.blank

pub drive-requires-clause-sessions : goal.drive-requires-clause-sessions
drive-requires-clause-sessions g c = subst AreOfSessions (sym c.deref.ensures.value) c.into_parts-setup.ensures.lines.1

pub returns : goal.returns
returns g c =
    let is = c.into_parts-setup.ensures.setup in
    let H = c.drive.new.engine.events in
    let t = c.in_ok-drive.ensures.turns in
    record {
      answers = t.0;
      told = subst (λ (n : NameBook). g.G.Log.tells c.drive.new.log n t.0) (sym c.drive.ensures.names) t.1;
      ran = subst₂ (λ (X : Store) (lines : List Line). AreTurns X lines t.0 H) (c.in_ok-engine.ensures.store ∙ ap store_of_view is) (c.deref.ensures.value ∙ c.into_parts-setup.ensures.lines.0) t.2;
      over = turns_over c.args.input.setup c.in_ok-engine.engine.store c.drive.new.engine.store c.drive.new.engine.names t.0 H (subst IsWhole is c.into_parts-setup.ensures.whole)
          (subst IsNamed is c.into_parts-setup.ensures.named) (c.in_ok-engine.ensures.store ∙ ap store_of_view is) c.drive.ensures.store
          (c.drive.ensures.names ∙ c.in_ok-engine.ensures.names ∙ ap names_of is) (scripts_of c.deref.result.now) t.2.turns;
    }
