use Rattle.std.proofs.Common.{sym, subst, List}
use Rattle.teb_rules.specs.declared.history.Event.{Event}
use Rattle.teb_rules.specs.Setup.{Store}
use Rattle.commit_journal.specs.Answered.{IsBodyFor}
use Rattle.engine_store.proofs.recorder.RecordingEngineRecorder.make_ready.Goals as goal

pub returns-clause-prepared : goal.returns-clause-prepared
returns-clause-prepared g c s r bytes body =
    subst (λ (x : Store × List Event). IsBodyFor x.0 x.1 s r bytes) (λ i. (sym c.ready.ensures.store i, sym c.ready.ensures.events i)) body
