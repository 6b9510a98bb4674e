use Rattle.std.proofs.Common.{◌≡◌, [], ◌++◌, refl, sym, subst, rules}
use Rattle.teb_rules.specs.declared.names.naming.NameBook.{NameBook}
use Rattle.engine_core.specs.EngineModel.{EngineModel}
use Rattle.store_setup.specs.SetupView.{setup_view}
use Rattle.teb_rules.specs.Epochs.{IsDrained}
use Rattle.answer_log.specs.Telling.{HasLines}
use Rattle.script_runner.specs.replay.Logs.{log_of, replayed}
use Rattle.script_runner.specs.Runs.{IsRunOver}
use Rattle.phase_runner.proofs.Running.{course_after, course_of, drained_after, over_after, reported_after}
use Rattle.phase_runner.proofs.phase.run_present.Goals as goal

pub report_of-requires : goal.report_of-requires
report_of-requires g c =
    let past = c.into_parts-past.result.0.items in
    let e = c.into_parts-past.result.1 in
    let answers = log_of e.store e.events (replayed e.store e.events c.args.lines.now) in
    let made = c.into_parts-past.ensures in
    let s = c.setup.result.now in (
      setup_view s,
      answers,
      over_after c.args.phases past e c.replay.new.engine c.args.lines.now [] answers made.course made.past made.present c.requires.new c.replay.ensures.store c.replay.ensures.names refl refl
          c.in_ok-replay.ensures.events
          s c.setup.ensures.whole c.setup.ensures.store c.setup.ensures.names c.requires.named,
    )

pub from_parts-requires : goal.from_parts-requires
from_parts-requires g c =
    let past = c.into_parts-past.result.0.items in
    let e = c.into_parts-past.result.1 in
    let made = c.into_parts-past.ensures in
    course_after c.args.phases past e c.replay.new.engine c.args.lines.now [] (log_of e.store e.events (replayed e.store e.events c.args.lines.now)) made.course made.past made.present c.requires.new
    c.replay.ensures.store c.replay.ensures.names refl refl c.in_ok-replay.ensures.events

pub returns-clause-course : goal.returns-clause-course
returns-clause-course g c =
    let past = c.into_parts-past.result.0.items in
    let e = c.into_parts-past.result.1 in
    let f = c.replay.new.engine in
    let made = c.into_parts-past.ensures in
    course_of c.from_parts.result past f c.from_parts.ensures.past c.from_parts.ensures.present
    (course_after c.args.phases past e f c.args.lines.now [] (log_of e.store e.events (replayed e.store e.events c.args.lines.now)) made.course made.past made.present c.requires.new
    c.replay.ensures.store c.replay.ensures.names refl refl c.in_ok-replay.ensures.events)

pub returns-clause-drained : goal.returns-clause-drained
returns-clause-drained g c =
    let past = c.into_parts-past.result.0.items in
    let e = c.into_parts-past.result.1 in
    let made = c.into_parts-past.ensures in
    subst (λ (d : EngineModel). IsDrained d.events) (sym c.from_parts.ensures.present)
    (drained_after c.args.phases past e c.replay.new.engine c.args.lines.now [] (log_of e.store e.events (replayed e.store e.events c.args.lines.now)) made.course made.past made.present c.requires.new
    c.replay.ensures.store c.replay.ensures.names refl refl c.in_ok-replay.ensures.events)

pub returns-clause-run : goal.returns-clause-run
returns-clause-run g c =
    let past = c.into_parts-past.result.0.items in
    let e = c.into_parts-past.result.1 in
    let f = c.replay.new.engine in
    let answers = log_of e.store e.events (replayed e.store e.events c.args.lines.now) in
    let made = c.into_parts-past.ensures in
    let s = c.setup.result.now in
    let over : IsRunOver (setup_view s) f.store f.names answers f.events = over_after c.args.phases past e f c.args.lines.now [] answers made.course made.past made.present c.requires.new
    c.replay.ensures.store c.replay.ensures.names refl refl c.in_ok-replay.ensures.events
    s c.setup.ensures.whole c.setup.ensures.store c.setup.ensures.names c.requires.named in
    let told : HasLines c.replay.new.log f.names answers = subst (λ (b : NameBook). HasLines c.replay.new.log b answers) (sym c.replay.ensures.names)
    (c.in_ok-replay.ensures.log [] (c.new-replies.ensures e.names)) in
    let joined : c.extend_from_slice.new.self.items ≡ c.args.text.now.items ++ c.in_ok-report.report.items = search rules in
    reported_after c.args.phases past e f c.args.lines.now [] answers made.course made.past made.present c.requires.new c.replay.ensures.store c.replay.ensures.names refl refl
    c.in_ok-replay.ensures.events
    c.from_parts.result.present c.in_ok-report.report.items c.args.text.now.items c.extend_from_slice.new.self.items c.from_parts.ensures.present
    (c.in_ok-report.ensures (setup_view s) answers over told) joined
