use Rattle.std.proofs.Common.{subst, sym}
use Rattle.tree_switch.specs.Refusals.{IsLeast}
use Rattle.teb_rules.specs.Epochs.{IsUntold}
use Rattle.engine_store.specs.Next.{IsCause}
use Rattle.tebaldi_c.specs.Epochs.{IsFirstUntold}
use Rattle.tebaldi_c.proofs.epochs.end_file_epoch.Goals as goal

pub returns-in-Err-Untold-clause-untold : goal.returns-in-Err-Untold-clause-untold
unfolding IsFirstUntold
returns-in-Err-Untold-clause-untold c = λ _.
    let f = c.args.file.now in
    let cause = subst (IsCause f.file.journal.layout f.engine c.args.setup.names.tables) c.in-Err-Untold.field-0-is c.in-Err-Untold.ensures.refused in
    (cause.0, subst (IsLeast (IsUntold f.engine.events)) (sym c.from.ensures) cause.1)
