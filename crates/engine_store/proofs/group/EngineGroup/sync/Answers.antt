use Rattle.std.proofs.Common.{◌≡◌, List, ℕ, subst}
use Rattle.std.specs.Prelude.{OnOk}
use Rattle.commit_laws.specs.Commits.{commit_count}
use Rattle.commit_laws.proofs.Prefixes.{length-records}
use Rattle.crash_disk.specs.Disk.{LeavesOnly}
use Rattle.engine_core.specs.EngineModel.{EngineModel}
use Rattle.epoch_store.specs.Gathering.{Gathering}
use Rattle.engine_store.specs.Telling.{TellsCommits}
use Rattle.engine_store.proofs.group.EngineGroup.sync.Goals as goal

pub returns-clause-any_moment : goal.returns-clause-any_moment
returns-clause-any_moment g c =
    let d = g.D.Disk in
    let j = c.sync-store.result.0.journal in
    subst (λ (s : Gathering EngineModel _). LeavesOnly d.moment d.left_since s.journal.disk j.disk (TellsCommits s.journal.layout s.engine.store s.engine.events s.journal.acknowledged)) c.self.view_is
    c.sync-store.ensures.any_moment

pub returns-clause-images : goal.returns-clause-images
returns-clause-images g c =
    let d = g.D.Disk in
    let j = c.sync-store.result.0.journal in
    subst (λ (s : Gathering EngineModel _). (image : List ℕ) → d.may_leave j.disk image → TellsCommits j.layout s.engine.store s.engine.events j.acknowledged image) c.self.view_is
    c.sync-store.ensures.images

pub returns-clause-all : goal.returns-clause-all
returns-clause-all g c =
    let e = c.self.inside.group.engine.engine in
    let written = c.sync-store.result in
    let all = subst (λ (n : ℕ). OnOk written.1 (written.0.journal.acknowledged ≡ n)) (length-records e.store.setup e.events) c.sync-store.ensures.all in
    subst (λ (s : Gathering EngineModel _). OnOk written.1 (written.0.journal.acknowledged ≡ commit_count s.engine.events)) c.self.view_is all
