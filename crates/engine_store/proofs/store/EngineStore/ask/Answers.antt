use Rattle.std.proofs.Common.{◌∙◌, subst, sym}
use Rattle.commit_laws.proofs.Prefixes.{length-records}
use Rattle.crash_disk.specs.Disk.{LeavesOnly}
use Rattle.engine_core.specs.EngineModel.{EngineModel}
use Rattle.tree_switch.specs.Courses.{IsCourse}
use Rattle.epoch_journal.specs.Refusals.{IsReliable}
use Rattle.epoch_store.specs.Stored.{Stored}
use Rattle.epoch_store.specs.Told.{told}
use Rattle.engine_store.specs.Lives.{IsLife}
use Rattle.engine_store.specs.Telling.{TellsCommits}
use Rattle.engine_store.proofs.GoingOn.{goes_on}
use Rattle.engine_store.proofs.LifeGoesOn.{lives_further}
use Rattle.engine_store.proofs.store.EngineStore.ask.Goals as goal

pub returns-clause-course : goal.returns-clause-course
returns-clause-course g c past =
    let was = c.self.inside.store in
    let now = c.ask.new.self in
    subst (λ (s : Stored EngineModel _). IsCourse (record { past = past; present = s.engine }) → IsCourse (record { past = past; present = now.engine.engine })) c.self.view_is
    (goes_on past was.engine.engine now.engine.engine c.args.session c.args.request (told c.ask.result) c.ask.ensures.store c.ask.ensures.names c.ask.ensures.events)

pub returns-clause-all : goal.returns-clause-all
returns-clause-all g c runs = c.ask.ensures.all runs ∙ length-records c.ask.new.self.engine.engine.store.setup c.ask.new.self.engine.engine.events

pub returns-clause-life : goal.returns-clause-life
returns-clause-life g c T past =
    let was = c.self.inside.store in
    let now = c.ask.new.self in
    subst (λ (s : Stored EngineModel _). IsLife T (record { past = past; present = s.engine }) → IsLife T (record { past = past; present = now.engine.engine })) c.self.view_is
    (lives_further T past was.engine.engine now.engine.engine c.args.session c.args.request (told c.ask.result) c.ask.ensures.store c.ask.ensures.events)

pub returns-clause-any_moment : goal.returns-clause-any_moment
returns-clause-any_moment g c =
    let d = g.D.Disk in
    let now = c.ask.new.self in
    subst (λ (s : Stored EngineModel _). LeavesOnly d.moment d.left_since s.journal.disk now.journal.disk
    (TellsCommits s.journal.layout now.engine.engine.store now.engine.engine.events s.journal.acknowledged)) c.self.view_is
    c.ask.ensures.any_moment

pub returns-clause-sure : goal.returns-clause-sure
returns-clause-sure g c reliable is =
    let d = g.D.Disk in
    c.ask.ensures.sure (subst (λ (s : Stored EngineModel _). IsReliable d.tells_failures d.tally d.refusals s.journal.disk) (sym c.self.view_is) reliable) is
