use Rattle.std.proofs.Common.{◌≡◌, sym, subst, true, false}
use Rattle.engine_store.specs.Next.{IsCause}
use Rattle.shell_runner.specs.States.{IsEpochRefused}
use Rattle.teb_rules.specs.Epochs.{IsDrained}
use Rattle.tebaldi_shell.specs.Kept.{KeptModel}
use Rattle.tebaldi_shell.proofs.Refused.{disk_fault, epoch_refused}
use Rattle.tebaldi_shell.proofs.kept_store.KeptStoreShellStore.next_epoch.Goals as goal

pub returns-in-Ok-clause-drained : goal.returns-in-Ok-clause-drained
returns-in-Ok-clause-drained g c = subst (λ (s : KeptModel _). IsDrained s.engine.events) c.self.view_is c.in-Ok.ensures.refused.drained

pub epoch_error-requires-clause-running : goal.epoch_error-requires-clause-running
epoch_error-requires-clause-running g c = λ is.
    let s = c.self.inside.store in
    let runs : s.journal.stopped ≡ false = subst (λ (x : KeptModel _). x.journal.stopped ≡ false) (sym c.self.view_is) c.requires.running in
    let stopped : s.journal.stopped ≡ true = c.in-Err.ensures.stopped is in
    absurd (cc)

pub epoch_error-requires-clause-tables : goal.epoch_error-requires-clause-tables
epoch_error-requires-clause-tables g c = λ is.
    let s = c.self.inside.store in
    let same : c.args.setup.names.tables ≡ s.engine.names.tables = subst (λ (x : KeptModel _). c.args.setup.names.tables ≡ x.engine.names.tables) (sym c.self.view_is) c.requires.tables in
    (subst (IsCause s.journal.layout s.engine c.args.setup.names.tables) is c.in-Err.ensures.refused).1 same

pub returns-in-Err-clause-refused : goal.returns-in-Err-clause-refused
returns-in-Err-clause-refused g c =
    let s = c.self.inside.store in
    let told = c.epoch_error.result in
    subst (λ (x : KeptModel _). IsEpochRefused x.engine.events told) c.self.view_is
    (epoch_refused s.journal.layout s.engine _ c.in-Err.field-0.why told c.in-Err.ensures.refused c.epoch_error.ensures)

pub returns-in-Err-clause-halted : goal.returns-in-Err-clause-halted
returns-in-Err-clause-halted g c = λ is. (c.in-Err.ensures.fault (disk_fault c.in-Err.field-0.why c.epoch_error.result c.epoch_error.ensures is)).0
