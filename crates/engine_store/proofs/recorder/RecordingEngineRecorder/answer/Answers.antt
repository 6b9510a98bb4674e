use Rattle.engine_store.proofs.Bodies.{none_added, record_added}
use Rattle.engine_store.proofs.recorder.RecordingEngineRecorder.answer.Goals as goal

pub returns-clause-others : goal.returns-clause-others
returns-clause-others g c never =
    let e = c.args.self.now.engine in
    let now = c.ask.new.self in
    none_added e.store now.store e.events now.events c.args.session c.args.request c.ask.result c.ask.ensures.reply c.ask.ensures.events c.ask.ensures.store never

pub returns-clause-commits : goal.returns-clause-commits
returns-clause-commits g c bytes is body =
    let e = c.args.self.now.engine in
    let now = c.ask.new.self in
    record_added e.store now.store e.events now.events c.args.session c.args.request c.ask.result bytes c.ask.ensures.reply c.ask.ensures.events c.ask.ensures.store is body
