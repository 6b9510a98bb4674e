use Rattle.std.proofs.Common.{subst}
use Rattle.commit_laws.specs.Records.{records_of}
use Rattle.engine_core.specs.EngineModel.{EngineModel}
use Rattle.tree_switch.specs.Courses.{IsCourse}
use Rattle.epoch_store.specs.Queue.{Queue}
use Rattle.epoch_store.specs.Told.{told}
use Rattle.engine_store.specs.Halves.{AreCommitsSince}
use Rattle.engine_store.specs.Lives.{IsLife}
use Rattle.engine_store.proofs.GoingOn.{goes_on}
use Rattle.engine_store.proofs.Halves.{since_same}
use Rattle.engine_store.proofs.LifeGoesOn.{lives_further}
use Rattle.engine_store.proofs.queue.EngineQueue.ask.Goals as goal

pub returns-clause-course : goal.returns-clause-course
returns-clause-course g c past =
    let was = c.self.inside.queue in
    let now = c.ask.new.self in
    subst (λ (s : Queue EngineModel). IsCourse (record { past = past; present = s.engine }) → IsCourse (record { past = past; present = now.engine.engine })) c.self.view_is
    (goes_on past was.engine.engine now.engine.engine c.args.session c.args.request (told c.ask.result) c.ask.ensures.store c.ask.ensures.names c.ask.ensures.events)

pub returns-clause-life : goal.returns-clause-life
returns-clause-life g c T past =
    let was = c.self.inside.queue in
    let now = c.ask.new.self in
    subst (λ (s : Queue EngineModel). IsLife T (record { past = past; present = s.engine }) → IsLife T (record { past = past; present = now.engine.engine })) c.self.view_is
    (lives_further T past was.engine.engine now.engine.engine c.args.session c.args.request (told c.ask.result) c.ask.ensures.store c.ask.ensures.events)

pub returns-clause-since : goal.returns-clause-since
returns-clause-since g c H =
    let was = c.self.inside.queue in
    let now = c.ask.new.self in
    subst (λ (s : Queue EngineModel). AreCommitsSince s.engine.store H s.engine.events s.waiting → AreCommitsSince now.engine.engine.store H now.engine.engine.events now.waiting) c.self.view_is
    (λ since. since_same was.engine.engine.store now.engine.engine.store H now.engine.engine.events now.waiting c.ask.ensures.store
    (c.ask.ensures.behind (records_of was.engine.engine.store.setup H) since))
