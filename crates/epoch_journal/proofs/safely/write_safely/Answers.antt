use Rattle.std.proofs.Common.{◌∙◌}
use Rattle.epoch_journal.proofs.Refusing.{counted, call_refused, refused_then, failed}
use Rattle.epoch_journal.proofs.safely.write_safely.Goals as goal

pub returns-in_err-write_at-clause-refusals : goal.returns-in_err-write_at-clause-refusals
returns-in_err-write_at-clause-refusals g c =
    let d = g.D.Disk in
    let old = c.args.disk.now in
    failed d.tells_failures d.tally d.refusals old c.write_at.new.self c.from_residual.result _ c.from_residual.ensures.1
    (call_refused d.tells_failures d.tally d.refusals old c.write_at.new.self _ _ _ (counted _ _ _ _ _ _ _ c.in_err-write_at.ensures.count))

pub returns-in_err-sync-clause-refusals : goal.returns-in_err-sync-clause-refusals
returns-in_err-sync-clause-refusals g c =
    let d = g.D.Disk in
    let old = c.args.disk.now in
    let mid = c.write_at.new.self in
    failed d.tells_failures d.tally d.refusals old c.sync.new.self c.from_residual-in_err-sync.result _ c.from_residual-in_err-sync.ensures.1
    (refused_then d.tells_failures d.tally d.refusals old mid c.sync.new.self (counted _ _ _ _ _ _ _ c.in_ok-write_at.ensures.count).granted c.write_at.ensures.calls.up_to.promise
    (call_refused d.tells_failures d.tally d.refusals mid c.sync.new.self _ _ _ (counted _ _ _ _ _ _ _ c.in_err-sync.ensures.count)))

pub returns-clause-refusals : goal.returns-clause-refusals
returns-clause-refusals g c = record {
  granted = (counted _ _ _ _ _ _ _ c.in_ok-sync.ensures.count).granted ∙ (counted _ _ _ _ _ _ _ c.in_ok-write_at.ensures.count).granted;
  refused = tt;
}
