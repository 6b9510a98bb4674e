use Rattle.std.proofs.Common.{ap, ◌∙◌, subst, length, ◌≡◌}
use Rattle.std.specs.Prelude.{All, reverse}
use Rattle.script_text.specs.Named.{EventNamed}
use Rattle.engine_core.specs.EngineModel.{EngineModel, IsOfEngine}
use Rattle.shell_runner.specs.States.{IsReached}
use Rattle.tebaldi_shell.specs.Kept.{KeptModel, stored_of}
use Rattle.tebaldi_shell.proofs.Named.{events_named}
use Rattle.tebaldi_shell.proofs.Refused.{reached_by}
use Rattle.tebaldi_shell.proofs.kept_store.KeptStoreShellStore.history.Goals as goal

pub returns-clause-named : goal.returns-clause-named
returns-clause-named g c =
    let e = c.engine-engine.result.now in
    subst (λ (x : EngineModel). length x.store.setup.tree ≡ length x.names.nodes → All (EventNamed x.names) (reverse x.events))
    (c.engine-engine.ensures.engine ∙ ap (λ (s : KeptModel _). s.engine) c.self.view_is)
    (events_named e c.setup-setup.result.now c.setup-setup.ensures.store c.setup-setup.ensures.names c.setup-setup.ensures.whole c.history.ensures.reached)

pub returns-clause-reached : goal.returns-clause-reached
returns-clause-reached g c =
    subst (λ (s : KeptModel _). IsReached (stored_of s)) c.self.view_is (reached_by c.self.inside.store (subst IsOfEngine c.engine-engine.ensures.engine c.history.ensures.reached))
