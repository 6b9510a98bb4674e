use Rattle.std.proofs.Common.{subst, sym}
use Rattle.store_setup.specs.SetupView.{setup_view}
use Rattle.tebaldi_shell.specs.Kept.{KeptModel}
use Rattle.tebaldi_shell.specs.Serving.{HasOpened}
use Rattle.tebaldi_shell.proofs.Opened.{opens}
use Rattle.tebaldi_shell.proofs.Refused.{refused_start}
use Rattle.tebaldi_shell.proofs.serving.opened.Goals as goal

pub returns-in-Ok-clause-opened : goal.returns-in-Ok-clause-opened
returns-in-Ok-clause-opened g c =
    let d = g.D.Disk in
    subst (λ (s : KeptModel _). HasOpened d.seen d.may_leave d.faults d.moment d.left_since (d.capacity c.args.disk) c.args.tree.now c.args.disk (setup_view c.args.setup) s) (sym c.new-in-Ok.ensures)
    (opens d.seen d.may_leave d.faults d.moment d.left_since (d.capacity c.args.disk) c.args.tree.now c.args.disk c.args.setup c.in-Ok.store c.requires.read c.requires.named c.in-Ok.ensures.begun
    c.in-Ok.ensures.running.0 c.in-Ok.ensures.read
    c.in-Ok.ensures.found c.in-Ok.ensures.any_moment)

pub returns-in-Err-clause-refused : goal.returns-in-Err-clause-refused
returns-in-Err-clause-refused g c =
    let d = g.D.Disk in
    let back = c.in-Err.back in
    refused_start d.seen d.may_leave d.faults d.moment d.left_since d.capacity c.args.tree.now c.args.disk (setup_view c.args.setup) c.requires.read back.disk back.why c.start_error.result
    c.in-Err.ensures.refused c.start_error.ensures
