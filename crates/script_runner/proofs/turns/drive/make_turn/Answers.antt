use Rattle.std.proofs.Common.{◌≡◌, List, [], ◌∷◌, ◌++◌, refl, sym, ◌∙◌, ap, subst}
use Rattle.teb_rules.specs.declared.names.Entry.{Entry}
use Rattle.teb_rules.specs.declared.names.Reply.{Reply}
use Rattle.teb_rules.specs.declared.names.Request.{Request}
use Rattle.teb_rules.specs.declared.names.Request.TheVariants.{Scan}
use Rattle.teb_rules.specs.declared.names.naming.NameBook.{NameBook}
use Rattle.teb_rules.specs.declared.history.Event.{Event}
use Rattle.teb_rules.specs.Answer.{answer}
use Rattle.short_reply.specs.ShortReplies.{full_reply}
use Rattle.script_runner.specs.turns.Logged.{answered}
use Rattle.script_runner.specs.turns.Seats.{seats_in}
use Rattle.script_runner.specs.turns.Rounds.{round_of}
use Rattle.script_runner.specs.turns.Turns.{IsTurnOf}
use Rattle.script_runner.proofs.lemmas.turns.Underway.{turn_taken}
use Rattle.script_runner.proofs.turns.drive.make_turn.Goals as goal

pub returns-in-Scan-clause-ok : goal.returns-in-Scan-clause-ok
returns-in-Scan-clause-ok g c = λ told t.
    let X = c.args.engine.now.store in
    let H = c.args.engine.now.events in
    let Y = c.ready-2.new.self.store in
    let G = c.ready-2.new.self.events in
    let r = c.args.ring.now in
    let a = c.in-Some.asked in
    let q : Reply = (answer Y G a.session (Scan c.in-Scan.cell c.in-Scan.count)).0 in
    let turn : IsTurnOf H r.next (seats_in r.cursors.items) a = subst (λ (J : List Event). IsTurnOf J r.next (seats_in r.cursors.items) a) c.history.ensures.events c.in-Some.ensures in
    let entry : Entry = record { session = a.session; request = a.request.now; reply = q } in
    let before : c.setup.result.now.names ≡ c.args.engine.now.names = c.setup.ensures.names in
    let behind : c.ready-2.new.self.names ≡ c.args.engine.now.names = c.in_ok-ready-2.ensures.names in
    let same : c.setup.result.now.names ≡ c.ready-2.new.self.names = before ∙ sym behind in
    let kept = c.in_ok-ready.ensures.told told (subst (λ (n : NameBook). g.G.Log.tells c.args.log.now n told) (sym before) t) in
    let added = c.ask_scan.ensures.log told (subst (λ (n : NameBook). g.G.Log.tells c.ready.new.self n told) same kept) in (
      told ++ answered entry ∷ [],
      subst (λ (n : NameBook). g.G.Log.tells c.ask_scan.new.log n (told ++ answered entry ∷ [])) behind added,
      record {
        entry = entry;
        stepped = turn_taken X Y H G c.ask_scan.new.engine.events r.next (seats_in r.cursors.items) (round_of c.ask_scan.new.ring) a q turn
            c.in_ok-ready-2.ensures.store c.in_ok-ready-2.ensures.events (ap (λ (s : Request). (answer Y G a.session s).0) (sym c.in-Scan.is))
            (subst (λ (s : Request). c.ask_scan.new.engine.events ≡ (answer Y G a.session s).1) (sym c.in-Scan.is) c.ask_scan.ensures.events) (c.ask_scan.ensures.round turn.of.seat turn.seat);
        replies = refl;
      },
    )

pub returns-in_default-request-clause-ok : goal.returns-in_default-request-clause-ok
returns-in_default-request-clause-ok g c = λ told t.
    let X = c.args.engine.now.store in
    let H = c.args.engine.now.events in
    let r = c.args.ring.now in
    let a = c.in-Some.asked in
    let q : Reply = full_reply c.ask_short.result in
    let turn : IsTurnOf H r.next (seats_in r.cursors.items) a = subst (λ (J : List Event). IsTurnOf J r.next (seats_in r.cursors.items) a) c.history.ensures.events c.in-Some.ensures in
    let entry : Entry = record { session = a.session; request = a.request.now; reply = q } in
    let before : c.setup.result.now.names ≡ c.args.engine.now.names = c.setup.ensures.names in
    let behind : c.setup-in_default-request.result.now.names ≡ c.args.engine.now.names = c.setup-in_default-request.ensures.names ∙ c.ask_short.ensures.names ∙ c.in_ok-ready-2.ensures.names in
    let kept = c.in_ok-ready.ensures.told told (subst (λ (n : NameBook). g.G.Log.tells c.args.log.now n told) (sym before) t) in
    let added = c.add_short.ensures told (subst (λ (n : NameBook). g.G.Log.tells c.ready.new.self n told) (before ∙ sym behind) kept) in (
      told ++ answered entry ∷ [],
      subst (λ (n : NameBook). g.G.Log.tells c.add_short.new.self n (told ++ answered entry ∷ [])) behind added,
      record {
        entry = entry;
        stepped = turn_taken X c.ready-2.new.self.store H c.ready-2.new.self.events c.ask_short.new.self.events r.next (seats_in r.cursors.items) (round_of c.take.new.self) a q turn
            c.in_ok-ready-2.ensures.store c.in_ok-ready-2.ensures.events c.ask_short.ensures.reply c.ask_short.ensures.events (c.take.ensures turn.of.seat q turn.seat c.of.ensures);
        replies = refl;
      },
    )
