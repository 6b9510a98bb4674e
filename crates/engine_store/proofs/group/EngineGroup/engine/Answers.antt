use Rattle.std.proofs.Common.{◌≡◌, ◌∙◌, List, ℕ, ap, subst}
use Rattle.teb_rules.specs.Ranks.{serial_order}
use Rattle.teb_rules.specs.Serializes.{Serializes}
use Rattle.teb_rules.proofs.lemmas.laws.Laws.{every_run_serializes}
use Rattle.engine_core.specs.EngineModel.{EngineModel}
use Rattle.engine_core.proofs.Reached.{law_of}
use Rattle.tree_switch.proofs.WholeOrder.{is_serial}
use Rattle.epoch_store.specs.Gathering.{Gathering}
use Rattle.engine_store.specs.Lives.{epochs}
use Rattle.engine_store.specs.Telling.{TellsCommits}
use Rattle.engine_store.proofs.WholeLife.{lives_are_serial}
use Rattle.engine_store.proofs.group.EngineGroup.engine.Goals as goal

pub returns-clause-serial : goal.returns-clause-serial
returns-clause-serial g c =
    let e = c.engine-recording.result.now.engine in
    let same : e ≡ c.args.self.now.engine = ap (λ (r : _). r.engine) c.engine-recording.ensures.engine ∙ ap (λ (s : Gathering EngineModel _). s.engine) c.self.view_is in
    subst (λ (m : EngineModel). Serializes m.store m.events (serial_order m.store.setup m.events)) same
    (law_of (λ X H. Serializes X H (serial_order X.setup H)) every_run_serializes e.store e.events c.history.ensures.sound c.history.ensures.reached.reached)

pub returns-clause-course : goal.returns-clause-course
returns-clause-course g c past course = is_serial (record { past = past; present = c.args.self.now.engine }) course

pub returns-clause-life : goal.returns-clause-life
returns-clause-life g c T past life = lives_are_serial T (epochs (record { past = past; present = c.args.self.now.engine })) life.on

pub returns-clause-images : goal.returns-clause-images
returns-clause-images g c =
    let d = g.D.Disk in
    subst (λ (s : Gathering EngineModel _). (image : List ℕ) → d.may_leave s.journal.disk image → TellsCommits s.journal.layout s.engine.store s.engine.events s.journal.acknowledged image)
    c.self.view_is
    c.engine-recording.ensures.images
