use Rattle.std.proofs.Common.{◌≡◌, true, ◌<◌, ◌≤◌, ◌∙◌, ℕ, List, sym, subst}
use Rattle.teb_rules.specs.Setup.{Store}
use Rattle.teb_rules.specs.Accepted.{IsSound}
use Rattle.script_text.specs.declared.Answered.{Answered}
use Rattle.store_setup.specs.SetupView.{setup_view}
use Rattle.store_setup.specs.Stores.{store_of_view}
use Rattle.crash_runner.specs.Underway.{IsRunOn}
use Rattle.crash_runner.proofs.Courses.{never_began}
use Rattle.crash_runner.proofs.Errors.{as_create_error, not_ok_and_err, not_err_and_ok}
use Rattle.crash_runner.proofs.Memory.{tally_of, safe_of, MayBeLeft, is_left, roomy, unwritten, nothing_safe, sound_of}
use Rattle.crash_runner.proofs.Steps.{begins, stop_early, room_kept, nothing_recovered}
use Rattle.crash_runner.proofs.on_disk.replay_on_disk.Goals as goal

pub replay_durable-requires-clause-underway : goal.replay_durable-requires-clause-underway
replay_durable-requires-clause-underway c =
    let disk = c.in_ok-disk.disk in
    let k = c.in-Ok.durable in
    let m = setup_view c.args.setup in
    let store : k.store ≡ store_of_view m = c.in-Ok.ensures.store.0 ∙ c.in_ok-engine.ensures.store in
    begins tally_of safe_of MayBeLeft is_left disk c.in_ok-disk.ensures.made (unwritten disk.log.steps c.in_ok-disk.ensures.empty)
    (roomy disk.counter.made 0 disk.counter.stop disk.log.room c.in_ok-disk.ensures.room) k (subst (λ (X : Store). IsSound X.setup) (sym store) (sound_of m c.requires.whole))
    c.in-Ok.ensures.store.2 c.in-Ok.ensures.empty.0 c.in-Ok.ensures.empty.2 c.in-Ok.ensures.images c.in-Ok.ensures.counted.0 c.in-Ok.ensures.counted.1
    (λ f. not_ok_and_err c.create.result _ c.in-Ok.is (c.create.ensures.fails f))

pub returns-in-Err-DiskFault : goal.returns-in-Err-DiskFault
returns-in-Err-DiskFault c =
    let disk = c.in_ok-disk.disk in
    let back = c.in-Err-DiskFault.disk in
    let X = store_of_view (setup_view c.args.setup) in
    let none = c.in_ok-disk.ensures.made in
    let empty = unwritten disk.log.steps c.in_ok-disk.ensures.empty in
    let room = roomy disk.counter.made 0 disk.counter.stop disk.log.room c.in_ok-disk.ensures.room in
    let early = stop_early tally_of safe_of MayBeLeft is_left disk none empty room (λ sure. not_err_and_ok c.create.result _ c.in-Err-DiskFault.is (c.create.ensures.sure sure)) in
    let kept = nothing_recovered (safe_of back) (c.in-Err-DiskFault.ensures.not_safe back (as_create_error _ _ c.in-Err-DiskFault.field-0-is)
    ∙ nothing_safe disk.log.steps c.in_ok-disk.ensures.empty) in
    subst (λ (given : List Answered). IsRunOn c.args.stop X c.args.lines.now given true (tally_of back) (safe_of back)) (sym c.new-in-Err-DiskFault.ensures.items)
    (never_began c.args.stop X c.args.lines.now (tally_of back) (safe_of back) (subst (λ (n : ℕ). 0 < n) c.in_ok-disk.ensures.stop early.0) (subst (λ (n : ℕ). n ≤ 2) c.in_ok-disk.ensures.stop early.1)
    kept
    (room_kept tally_of safe_of MayBeLeft is_left disk none empty room back (c.in-Err-DiskFault.ensures.back back (as_create_error _ _ c.in-Err-DiskFault.field-0-is))))
