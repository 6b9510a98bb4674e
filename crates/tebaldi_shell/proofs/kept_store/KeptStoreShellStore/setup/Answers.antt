use Rattle.std.proofs.Common.{ap, length, ◌∙◌, sym}
use Rattle.teb_rules.specs.Setup.{Store}
use Rattle.engine_core.specs.EngineModel.{EngineModel}
use Rattle.tebaldi_shell.specs.Kept.{KeptModel}
use Rattle.tebaldi_shell.proofs.kept_store.KeptStoreShellStore.setup.Goals as goal

pub returns-clause-profiles : goal.returns-clause-profiles
returns-clause-profiles g c =
    ap (λ (X : Store). X.setup.profiles) c.setup.ensures.store ∙ ap (λ (e : EngineModel). e.store.setup.profiles) c.engine.ensures.engine
    ∙ ap (λ (s : KeptModel _). s.engine.store.setup.profiles) c.self.view_is

pub returns-clause-tree : goal.returns-clause-tree
returns-clause-tree g c = ap (λ (X : Store). X.setup.tree) c.setup.ensures.store ∙ ap (λ (e : EngineModel). e.store.setup.tree) c.engine.ensures.engine
    ∙ ap (λ (s : KeptModel _). s.engine.store.setup.tree) c.self.view_is

pub returns-clause-types : goal.returns-clause-types
returns-clause-types g c = c.setup.ensures.whole.profiles
