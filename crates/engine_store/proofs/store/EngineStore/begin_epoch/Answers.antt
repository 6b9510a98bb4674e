use Rattle.std.proofs.Common.{Result, Ok, Err, ◌∙◌, ap, IfOk, MatchResult, refl, sym, subst}
use Rattle.crash_disk.specs.Disk.{LeavesOnly}
use Rattle.record_journal.proofs.Moments.{weaker}
use Rattle.engine_core.specs.EngineModel.{EngineModel}
use Rattle.epoch_journal.specs.Refusals.{IsReliable}
use Rattle.epoch_store.specs.Stored.{Stored}
use Rattle.engine_store.specs.Next.{IsCause, MayFollow}
use Rattle.engine_store.specs.declared.error.NextError.TheVariants.{Stopped}
use Rattle.engine_store.specs.Telling.{TellsCommits}
use Rattle.engine_store.proofs.NextRows.{runs, next_rows}
use Rattle.engine_store.proofs.store.EngineStore.begin_epoch.Goals as goal
use Rattle.engine_store.proofs.store.EngineStore.begin_epoch.Goals.{in-Ok, in-Err}

pub returns-clause-refused : goal.returns-clause-refused
returns-clause-refused g c =
    let tables = c.args.setup.names.tables in
    elim c.match-begin_next.branch [
      | in-Ok w ↦ subst (λ (r : Result _ _). MatchResult r (λ _. MayFollow c.args.self.now.engine tables) (IsCause c.args.self.now.journal.layout c.args.self.now.engine tables)) (sym w.result-is)
          (subst (λ (s : Stored EngineModel _). MayFollow s.engine tables) c.self.view_is w.in-Ok.ensures.refused)
      | in-Err w ↦ subst (λ (r : Result _ _). MatchResult r (λ _. MayFollow c.args.self.now.engine tables) (IsCause c.args.self.now.journal.layout c.args.self.now.engine tables)) (sym w.result-is)
          (subst (λ (s : Stored EngineModel _). IsCause s.journal.layout s.engine tables w.in-Err.why) c.self.view_is w.in-Err.ensures.refused)
    ]

pub returns-clause-any_moment_next : goal.returns-clause-any_moment_next
returns-clause-any_moment_next g c =
    let d = g.D.Disk in
    let was = c.self.inside.store in
    let now = c.begin_next.new.store in
    let P = TellsCommits was.journal.layout was.engine.engine.store was.engine.engine.events was.journal.acknowledged in
    let Q = TellsCommits now.journal.layout now.engine.engine.store now.engine.engine.events 0 in
    elim c.match-begin_next.branch [
      | in-Ok w ↦
          (let all = c.acknowledged.ensures.all (runs was.journal.stopped w.in-Ok.past Stopped (Ok w.in-Ok.past) refl w.in-Ok.ensures.stays) in
          subst (λ (r : Result _ _). IfOk r (λ _. LeavesOnly d.moment d.left_since c.args.self.now.journal.disk now.journal.disk Q)) (sym w.result-is)
          (subst (λ (s : Stored EngineModel _). LeavesOnly d.moment d.left_since s.journal.disk now.journal.disk Q) c.self.view_is
          (weaker d.moment d.left_since was.journal.disk now.journal.disk P Q
          (λ image. next_rows was.journal.layout now.journal.layout was.engine.engine now.engine.engine was.journal.acknowledged image c.begin_next.ensures.layout all w.in-Ok.ensures.begun.1.events
          w.in-Ok.ensures.rows)
          c.begin_next.ensures.any_moment)))
      | in-Err w ↦ subst (λ (r : Result _ _). IfOk r (λ _. LeavesOnly d.moment d.left_since c.args.self.now.journal.disk now.journal.disk Q)) (sym w.result-is) tt
    ]

pub returns-clause-sure : goal.returns-clause-sure
returns-clause-sure g c reliable is =
    let d = g.D.Disk in
    let before = subst (λ (s : Stored EngineModel _). IsReliable d.tells_failures d.tally d.refusals s.journal.disk) (sym c.self.view_is) reliable in
    elim c.match-begin_next.branch [
      | in-Ok w ↦ cc (sym w.result-is ∙ is)
      | in-Err w ↦ w.in-Err.ensures.sure before (sym w.result-is ∙ is)
    ]
