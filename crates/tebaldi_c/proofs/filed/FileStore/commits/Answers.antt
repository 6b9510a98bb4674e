use Rattle.std.proofs.Common.{◌≡◌, ◌+◌, List, length, ◌∙◌, ap, arith}
use Rattle.teb_rules.specs.declared.history.Event.{Event}
use Rattle.commit_laws.specs.Commits.{commit_count}
use Rattle.engine_core.specs.EngineModel.{EngineModel}
use Rattle.tebaldi_c.specs.Shelves.{Filed}
use Rattle.tebaldi_c.proofs.Files.{fits, commits_are_events}
use Rattle.tebaldi_c.proofs.filed.FileStore.commits.Goals as goal

pub returns : goal.returns
returns c runs =
    let s = c.self.inside in
    let E = c.args.self.now.engine.events in
    let all = c.self.invariant.all (ap (λ (f : Filed). f.file.journal.stopped) c.self.view_is ∙ runs) in
    let same : commit_count s.store.engine.events ≡ commit_count E = ap (λ (f : Filed). commit_count f.engine.events) c.self.view_is in
    let count : c.acknowledged.result + c.waiting.result ≡ commit_count E = omega (arith, all, same, c.acknowledged.ensures, c.waiting.ensures) in
    let events : length c.history.result.now.events ≡ length E = ap (λ (H : List Event). length H) (c.history.ensures.events ∙ ap (λ (e : EngineModel). e.events) c.engine.ensures) in
    let few = commits_are_events E in
    c.saturating_add.ensures ∙ fits (c.acknowledged.result + c.waiting.result) (omega (arith, count, few, events, c.len.ensures, c.len.type_inv)) ∙ count
