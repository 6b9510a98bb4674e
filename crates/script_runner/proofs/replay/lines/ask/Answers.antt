use Rattle.std.proofs.Common.{◌≡◌, List, [], ◌∷◌, ◌++◌, sym, ◌∙◌, ap₂, subst, subst₂}
use Rattle.teb_rules.specs.declared.names.Reply.{Reply}
use Rattle.teb_rules.specs.declared.names.naming.NameBook.{NameBook}
use Rattle.teb_rules.specs.declared.history.Event.{Event}
use Rattle.teb_rules.specs.Setup.{Store}
use Rattle.teb_rules.specs.Answer.{answer}
use Rattle.script_runner.proofs.replay.lines.ask.Goals as goal

pub returns-in-Scan-clause-log : goal.returns-in-Scan-clause-log
returns-in-Scan-clause-log g c = λ told t.
    let before : c.setup.result.now.names ≡ c.args.engine.now.names = c.setup.ensures.names in
    let behind : c.ready-2.new.self.names ≡ c.args.engine.now.names = c.in_ok-ready-2.ensures.names in
    let same : c.setup.result.now.names ≡ c.ready-2.new.self.names = before ∙ sym behind in
    let kept = c.in_ok-ready.ensures.told told (subst (λ (n : NameBook). g.L.Log.tells c.args.log.now n told) (sym before) t) in
    let added = c.ask_scan.ensures.log told (subst (λ (n : NameBook). g.L.Log.tells c.ready.new.self n told) same kept) in
    subst₂ (λ (n : NameBook) (q : Reply). g.L.Log.tells c.ask_scan.new.log n (told ++ record { session = c.args.session; reply = q } ∷ [])) behind
    (ap₂ (λ (X : Store) (H : List Event). (answer X H c.args.session c.args.request.now).0) c.in_ok-ready-2.ensures.store c.in_ok-ready-2.ensures.events) added

pub returns-in_default-clause-log : goal.returns-in_default-clause-log
returns-in_default-clause-log g c = λ told t.
    let before : c.setup.result.now.names ≡ c.args.engine.now.names = c.setup.ensures.names in
    let behind : c.setup-in_default.result.now.names ≡ c.args.engine.now.names = c.setup-in_default.ensures.names ∙ c.ask_short.ensures.names ∙ c.in_ok-ready-2.ensures.names in
    let kept = c.in_ok-ready.ensures.told told (subst (λ (n : NameBook). g.L.Log.tells c.args.log.now n told) (sym before) t) in
    let added = c.add_short.ensures told (subst (λ (n : NameBook). g.L.Log.tells c.ready.new.self n told) (before ∙ sym behind) kept) in
    subst₂ (λ (n : NameBook) (q : Reply). g.L.Log.tells c.add_short.new.self n (told ++ record { session = c.args.session; reply = q } ∷ [])) behind
    (◌∙◌ {b = (answer c.ready-2.new.self.store c.ready-2.new.self.events c.args.session c.args.request.now).0} c.ask_short.ensures.reply
    (ap₂ (λ (X : Store) (H : List Event). (answer X H c.args.session c.args.request.now).0) c.in_ok-ready-2.ensures.store c.in_ok-ready-2.ensures.events)) added
