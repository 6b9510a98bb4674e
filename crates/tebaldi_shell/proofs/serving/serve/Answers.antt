use Rattle.std.proofs.Common.{subst, sym}
use Rattle.store_setup.specs.SetupView.{setup_view}
use Rattle.tebaldi_shell.specs.Serving.{HasOpened}
use Rattle.tebaldi_shell.proofs.serving.serve.Goals as goal

pub returns-in-Ok-opened-clause-served : goal.returns-in-Ok-opened-clause-served
returns-in-Ok-opened-clause-served g c =
    let d = g.D.Disk in
    record {
      view = setup_view c.in-Ok.setup;
      read = c.in-Ok.ensures.setup;
      first = c.new.result;
      epoch = c.new.ensures.epoch;
      format = c.new.ensures.format;
      waits = c.new.ensures.waits;
      opened = subst (HasOpened d.seen d.may_leave d.faults d.moment d.left_since (d.capacity c.args.disk) c.args.tree.now c.args.disk (setup_view c.in-Ok.setup))
          (sym c.new.ensures.store) c.in-Ok-opened.ensures.opened;
      ended = c.run.ensures.ended;
    }
