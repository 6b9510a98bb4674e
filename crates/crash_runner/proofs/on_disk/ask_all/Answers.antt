use Rattle.std.proofs.Common.{◌≡◌, ◌∙◌, ◌++◌, [], List, ap, subst, subst₂, arith, map}
use Rattle.std.proofs.lemmas.List.{append-nil}
use Rattle.teb_rules.specs.declared.history.Event.{Event}
use Rattle.teb_rules.specs.Setup.{Store}
use Rattle.teb_rules.specs.Run.{history_after, ends_of}
use Rattle.crash_disk.specs.Calls.{Promise}
use Rattle.script_text.specs.declared.Answered.{Answered}
use Rattle.script_runner.specs.replay.Holders.{end_of}
use Rattle.script_runner.specs.replay.Logs.{Requests, log_of, requests_of}
use Rattle.script_runner.proofs.lemmas.replay.Holders.{ends_of_holders}
use Rattle.crash_runner.specs.Underway.{HasAsked, StopsAt}
use Rattle.crash_runner.proofs.Along.{whole_asked, whole_stops}
use Rattle.crash_runner.proofs.Errors.{on_ok}
use Rattle.crash_runner.proofs.Steps.{effects_none}
use Rattle.crash_runner.proofs.on_disk.ask_all.Goals as goal

pub ask_lines-requires-clause-few : goal.ask_lines-requires-clause-few
ask_lines-requires-clause-few g c = omega (arith, c.requires.few, effects_none c.args.durable.now.events c.requires.new)

pub ask_ends-requires-clause-few : goal.ask_ends-requires-clause-few
ask_ends-requires-clause-few g c = omega (arith, c.requires.few, effects_none c.args.durable.now.events c.requires.new, c.in_ok-ask_lines.ensures.few)

pub returns-clause-asked : goal.returns-clause-asked
returns-clause-asked g c =
    let X = c.args.durable.now.store in
    let lines = c.args.lines.now in
    let mid = c.ask_lines.new.log.items in
    let K = c.ask_lines.new.durable.events in
    let now = c.ask_ends.new.log.items in
    let L = c.ask_ends.new.durable.events in
    let ends : map end_of c.deref.result.now ≡ ends_of K = ap (map end_of) (c.deref.ensures.value ∙ c.in_ok-holders.ensures) ∙ ends_of_holders c.history.result.now.events
    ∙ ap ends_of (c.history.ensures.events ∙ c.engine.ensures.events) in
    let first : HasAsked X (requests_of lines) [] [] mid K = subst₂ (λ (w : List Answered) (H : List Event). HasAsked X (requests_of lines) w H mid K) c.requires.none c.requires.new
    c.in_ok-ask_lines.ensures.asked in
    on_ok c.ask_ends.result (λ two. whole_asked X lines mid K first now L (subst₂ (λ (Z : Store) (rs : Requests). HasAsked Z rs mid K now L) c.ask_lines.ensures.store.store ends two))
    c.ask_ends.ensures.asked

pub returns-clause-stopped : goal.returns-clause-stopped
returns-clause-stopped g c is =
    let d = g.D.Disk in
    let X = c.args.durable.now.store in
    let lines = c.args.lines.now in
    let mid = c.ask_lines.new.log.items in
    let K = c.ask_lines.new.durable.events in
    let given = c.ask_ends.new.log.items in
    let disk = c.ask_ends.new.durable.disk in
    let p = (d.tally c.args.durable.now.disk).promise in
    let ends : map end_of c.deref.result.now ++ [] ≡ ends_of K = append-nil (map end_of c.deref.result.now) ∙ ap (map end_of) (c.deref.ensures.value ∙ c.in_ok-holders.ensures)
    ∙ ends_of_holders c.history.result.now.events ∙ ap ends_of (c.history.ensures.events ∙ c.engine.ensures.events) in
    let first : HasAsked X (requests_of lines) [] [] mid K = subst₂ (λ (w : List Answered) (H : List Event). HasAsked X (requests_of lines) w H mid K) c.requires.none c.requires.new
    c.in_ok-ask_lines.ensures.asked in
    let of_p = subst₂ (λ (q : Promise) (rs : Requests). StopsAt q c.ask_lines.new.durable.store (mid ++ log_of c.ask_lines.new.durable.store K rs) (history_after c.ask_lines.new.durable.store K rs)
    given (d.tally disk) (d.safe disk)) c.in_ok-ask_lines.ensures.underway.promised ends (c.ask_ends.ensures.stopped [] is) in
    whole_stops X lines mid K first p given (d.tally disk) (d.safe disk)
    (subst (λ (Z : Store). StopsAt p Z (mid ++ log_of Z K (ends_of K)) (history_after Z K (ends_of K)) given (d.tally disk) (d.safe disk)) c.ask_lines.ensures.store.store of_p)
