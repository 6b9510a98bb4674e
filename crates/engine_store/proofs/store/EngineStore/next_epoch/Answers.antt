use Rattle.std.proofs.Common.{◌≡◌, List, ℕ, [], ◌∷◌, ◌++◌, Err, refl, ap, subst, sym, ◌∙◌}
use Rattle.engine_core.specs.EngineModel.{EngineModel}
use Rattle.tree_switch.specs.Courses.{IsCourse}
use Rattle.tree_switch.proofs.Starting.{moved_on}
use Rattle.epoch_journal.specs.Layout.{Layout}
use Rattle.epoch_journal.specs.Refusals.{IsReliable}
use Rattle.epoch_store.specs.Stored.{Stored}
use Rattle.engine_store.specs.Lives.{IsLife, epoch_of}
use Rattle.engine_store.specs.Next.{IsCause}
use Rattle.engine_store.specs.Telling.{TellsCommits}
use Rattle.engine_store.proofs.LifeGoesOn.{followed}
use Rattle.engine_store.proofs.store.EngineStore.next_epoch.Goals as goal

pub returns-in-Ok-clause-course : goal.returns-in-Ok-clause-course
returns-in-Ok-clause-course g c past =
    let e = c.self.inside.store.engine.engine in
    let f = c.begin_next.new.store.engine.engine in
    let before : e ≡ c.args.self.engine = ap (λ (s : Stored EngineModel _). s.engine) c.self.view_is in
    let after : f ≡ c.renewed-store.result.engine.engine = sym (ap (λ (r : _). r.engine) c.renewed-store.ensures.engine) in
    subst (λ (x : EngineModel × EngineModel). IsCourse (record { past = past; present = x.0 }) → IsCourse (record { past = past ++ x.0 ∷ []; present = x.1 })) (λ i. (before i, after i))
    (moved_on c.args.setup past (past ++ e ∷ []) e f c.requires.setup c.in-Ok.ensures.refused.same c.in-Ok.ensures.begun.1 refl)

pub returns-in-Ok-clause-life : goal.returns-in-Ok-clause-life
returns-in-Ok-clause-life g c T past =
    let e = c.self.inside.store.engine.engine in
    let f = c.begin_next.new.store.engine.engine in
    let before : e ≡ c.args.self.engine = ap (λ (s : Stored EngineModel _). s.engine) c.self.view_is in
    let after : f ≡ c.renewed-store.result.engine.engine = sym (ap (λ (r : _). r.engine) c.renewed-store.ensures.engine) in
    subst (λ (x : EngineModel × EngineModel). IsLife T (record { past = past; present = x.0 }) → IsLife T (record { past = past ++ epoch_of x.0 ∷ []; present = x.1 })) (λ i. (before i, after i))
    (followed T past e f c.in-Ok.ensures.engine c.in-Ok.ensures.begun.1.rows.each)

pub returns-in-Ok-clause-images : goal.returns-in-Ok-clause-images
returns-in-Ok-clause-images g c = c.renewed-store.ensures.images

pub returns-in-Err-clause-refused : goal.returns-in-Err-clause-refused
returns-in-Err-clause-refused g c = subst (λ (s : Stored EngineModel _). IsCause s.journal.layout s.engine c.args.setup.names.tables c.in-Err.why) c.self.view_is c.in-Err.ensures.refused

pub returns-in-Err-clause-images_back : goal.returns-in-Err-clause-images_back
returns-in-Err-clause-images_back g c =
    let d = g.D.Disk in
    let now = c.begin_next.new.store in
    let was = c.args.self in
    let layout : now.journal.layout ≡ was.journal.layout = c.begin_next.ensures.layout ∙ ap (λ (s : Stored EngineModel _). s.journal.layout) c.self.view_is in
    let engine : now.engine.engine ≡ was.engine = c.in-Err.ensures.back.0 ∙ ap (λ (s : Stored EngineModel _). s.engine) c.self.view_is in
    let count : now.journal.acknowledged ≡ was.journal.acknowledged = c.in-Err.ensures.back.1 ∙ ap (λ (s : Stored EngineModel _). s.journal.acknowledged) c.self.view_is in
    subst (λ (x : Layout × EngineModel × ℕ). (image : List ℕ) → d.may_leave now.journal.disk image → TellsCommits x.0 x.1.store x.1.events x.2 image) (λ i. (layout i, engine i, count i))
    c.begin_next.ensures.images

pub returns-in-Err-clause-sure : goal.returns-in-Err-clause-sure
returns-in-Err-clause-sure g c reliable is =
    let d = g.D.Disk in
    c.in-Err.ensures.sure (subst (λ (s : Stored EngineModel _). IsReliable d.tells_failures d.tally d.refusals s.journal.disk) (sym c.self.view_is) reliable) (ap Err is)
