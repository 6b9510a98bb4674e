use Rattle.std.proofs.Common.{Bool, sym, subst}
use Rattle.crash_runner.specs.Underway.{IsRunOn}
use Rattle.crash_runner.proofs.Courses.{went_through, was_stopped}
use Rattle.crash_runner.proofs.Errors.{as_run_error}
use Rattle.crash_runner.proofs.Steps.{room_left}
use Rattle.crash_runner.proofs.on_disk.replay_durable.Goals.{in-Ok, in-Err-DiskFault}
use Rattle.crash_runner.proofs.on_disk.replay_durable.Goals as goal

pub returns : goal.returns
returns g c =
    let d = g.D.Disk in
    let old = c.args.durable in
    let k = c.ask_all.new.durable in
    let p = (d.tally old.disk).promise in
    subst (λ disk. IsRunOn p.stop old.store c.args.lines.now c.ask_all.new.log.items c.match-ask_all.stopped (d.tally disk) (d.safe disk)) (sym c.into_disk.ensures)
    (elim c.match-ask_all.branch [
      | in-Ok w ↦ subst (λ (b : Bool). IsRunOn p.stop old.store c.args.lines.now c.ask_all.new.log.items b (d.tally k.disk) (d.safe k.disk)) (sym w.stopped-is)
          (went_through p d.tally d.safe k old.store c.args.lines.now c.ask_all.new.log.items c.ask_all.ensures.store.store w.in-Ok.ensures.underway w.in-Ok.ensures.asked
          (room_left d.tally d.safe p k c.ask_all.new.log.items w.in-Ok.ensures.underway w.in-Ok.ensures.few))
      | in-Err-DiskFault w ↦ subst (λ (b : Bool). IsRunOn p.stop old.store c.args.lines.now c.ask_all.new.log.items b (d.tally k.disk) (d.safe k.disk)) (sym w.stopped-is)
          (was_stopped p old.store c.args.lines.now c.ask_all.new.log.items (d.tally k.disk) (d.safe k.disk)
          (w.in-Err-DiskFault.ensures.stopped (as_run_error w.in-Err-DiskFault.field-0 _ w.in-Err-DiskFault.field-0-is)))
    ])
