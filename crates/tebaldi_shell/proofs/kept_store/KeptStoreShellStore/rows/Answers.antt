use Rattle.std.proofs.Common.{ap, ◌∙◌, subst}
use Rattle.std.specs.Prelude.{IfOk}
use Rattle.std.proofs.lemmas.Result.{IfOk-weaker}
use Rattle.script_text.specs.Named.{RowsNamed}
use Rattle.engine_core.specs.EngineModel.{EngineModel}
use Rattle.tebaldi_shell.specs.Kept.{KeptModel}
use Rattle.tebaldi_shell.proofs.Named.{final_named}
use Rattle.tebaldi_shell.proofs.kept_store.KeptStoreShellStore.rows.Goals as goal

pub returns-clause-named : goal.returns-clause-named
returns-clause-named g c =
    let e = c.engine-engine.result.now in
    subst (λ (x : EngineModel). IfOk c.tables.result (λ v. RowsNamed x.names v.items)) (c.engine-engine.ensures.engine ∙ ap (λ (s : KeptModel _). s.engine) c.self.view_is)
    (IfOk-weaker c.tables.result _ (λ v. RowsNamed e.names v.items)
    (λ v. final_named e c.setup-setup.result.now v.items c.setup-setup.ensures.store c.setup-setup.ensures.names c.setup-setup.ensures.whole c.history-history.ensures.reached) c.tables.ensures)
