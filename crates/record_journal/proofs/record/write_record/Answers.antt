use Rattle.std.proofs.Common.{rules, refl, arith, length, ◌+◌, sym, ◌∙◌, subst, ap, Result, Ok, Err}
use Rattle.std.specs.Prelude.{OnErr, IsErr}
use Rattle.record_journal.proofs.Counting.{more, stop}
use Rattle.crash_disk.proofs.Spares.{uses_then, uses_less}
use Rattle.record_journal.specs.Format.{recovered}
use Rattle.record_journal.proofs.Crash.{torn_behind}
use Rattle.crash_disk.specs.Disk.{Only}
use Rattle.record_journal.proofs.Calls.{wrote, synced, staged, opened, ended, rests}
use Rattle.record_journal.proofs.record.write_record.Goals as goal

pub returns-in_err-write_at-clause-any_moment : goal.returns-in_err-write_at-clause-any_moment
returns-in_err-write_at-clause-any_moment g c room rs r within added at_rest only =
    let d = g.D.Disk in
    let old = c.args.disk.now in
    wrote d.seen d.may_leave d.moment d.left_since room rs r c.args.end c.args.body.now old added at_rest within only c.write_at.new.self (g.met.D.Disk.only_now old) c.write_at.ensures.crash
    c.write_at.ensures.time

pub returns-in_err-sync-clause-any_moment : goal.returns-in_err-sync-clause-any_moment
returns-in_err-sync-clause-any_moment g c room rs r within added at_rest only =
    let d = g.D.Disk in
    let old = c.args.disk.now in
    let one = wrote d.seen d.may_leave d.moment d.left_since room rs r c.args.end c.args.body.now old added at_rest within only c.write_at.new.self (g.met.D.Disk.only_now old) c.write_at.ensures.crash
    c.write_at.ensures.time in
    synced d.seen d.may_leave d.moment d.left_since room rs r c.args.end c.args.body.now old added at_rest within only c.write_at.new.self c.sync.new.self one c.write_at.ensures.crash
    c.sync.ensures.crash c.sync.ensures.time

pub returns-in_err-write_at-2-clause-any_moment : goal.returns-in_err-write_at-2-clause-any_moment
returns-in_err-write_at-2-clause-any_moment g c room rs r within added at_rest only =
    let d = g.D.Disk in
    let old = c.args.disk.now in
    let one = wrote d.seen d.may_leave d.moment d.left_since room rs r c.args.end c.args.body.now old added at_rest within only c.write_at.new.self (g.met.D.Disk.only_now old) c.write_at.ensures.crash
    c.write_at.ensures.time in
    let two = synced d.seen d.may_leave d.moment d.left_since room rs r c.args.end c.args.body.now old added at_rest within only c.write_at.new.self c.sync.new.self one c.write_at.ensures.crash
    c.sync.ensures.crash c.sync.ensures.time in
    let behind = staged d.seen d.may_leave d.moment d.left_since room rs r c.args.end c.args.body.now old added at_rest within only c.write_at.new.self c.sync.new.self c.write_at.ensures.torn
    c.in_ok-write_at.ensures.written c.sync.ensures.seen in
    let durable = subst (λ f. Only f (d.may_leave c.sync.new.self)) (sym c.sync.ensures.seen) c.in_ok-sync.ensures.durable in
    opened d.seen d.may_leave d.moment d.left_since room rs r c.args.end c.args.body.now old added at_rest within only c.sync.new.self c.write_at-2.new.self two behind durable
    c.write_at-2.ensures.crash c.write_at-2.ensures.time

pub returns-in_err-sync-2-clause-any_moment : goal.returns-in_err-sync-2-clause-any_moment
returns-in_err-sync-2-clause-any_moment g c room rs r within added at_rest only =
    let d = g.D.Disk in
    let old = c.args.disk.now in
    let one = wrote d.seen d.may_leave d.moment d.left_since room rs r c.args.end c.args.body.now old added at_rest within only c.write_at.new.self (g.met.D.Disk.only_now old) c.write_at.ensures.crash
    c.write_at.ensures.time in
    let two = synced d.seen d.may_leave d.moment d.left_since room rs r c.args.end c.args.body.now old added at_rest within only c.write_at.new.self c.sync.new.self one c.write_at.ensures.crash
    c.sync.ensures.crash c.sync.ensures.time in
    let behind = staged d.seen d.may_leave d.moment d.left_since room rs r c.args.end c.args.body.now old added at_rest within only c.write_at.new.self c.sync.new.self c.write_at.ensures.torn
    c.in_ok-write_at.ensures.written c.sync.ensures.seen in
    let durable = subst (λ f. Only f (d.may_leave c.sync.new.self)) (sym c.sync.ensures.seen) c.in_ok-sync.ensures.durable in
    let three = opened d.seen d.may_leave d.moment d.left_since room rs r c.args.end c.args.body.now old added at_rest within only c.sync.new.self c.write_at-2.new.self two behind durable
    c.write_at-2.ensures.crash c.write_at-2.ensures.time in
    ended d.seen d.may_leave d.moment d.left_since room rs r c.args.end c.args.body.now old added at_rest within only c.sync.new.self c.write_at-2.new.self c.sync-2.new.self three behind durable
    c.write_at-2.ensures.crash c.sync-2.ensures.crash c.sync-2.ensures.time

pub returns-clause-any_moment : goal.returns-clause-any_moment
returns-clause-any_moment g c room rs r within added at_rest only =
    let d = g.D.Disk in
    let old = c.args.disk.now in
    let one = wrote d.seen d.may_leave d.moment d.left_since room rs r c.args.end c.args.body.now old added at_rest within only c.write_at.new.self (g.met.D.Disk.only_now old) c.write_at.ensures.crash
    c.write_at.ensures.time in
    let two = synced d.seen d.may_leave d.moment d.left_since room rs r c.args.end c.args.body.now old added at_rest within only c.write_at.new.self c.sync.new.self one c.write_at.ensures.crash
    c.sync.ensures.crash c.sync.ensures.time in
    let behind = staged d.seen d.may_leave d.moment d.left_since room rs r c.args.end c.args.body.now old added at_rest within only c.write_at.new.self c.sync.new.self c.write_at.ensures.torn
    c.in_ok-write_at.ensures.written c.sync.ensures.seen in
    let durable = subst (λ f. Only f (d.may_leave c.sync.new.self)) (sym c.sync.ensures.seen) c.in_ok-sync.ensures.durable in
    let three = opened d.seen d.may_leave d.moment d.left_since room rs r c.args.end c.args.body.now old added at_rest within only c.sync.new.self c.write_at-2.new.self two behind durable
    c.write_at-2.ensures.crash c.write_at-2.ensures.time in
    ended d.seen d.may_leave d.moment d.left_since room rs r c.args.end c.args.body.now old added at_rest within only c.sync.new.self c.write_at-2.new.self c.sync-2.new.self three behind durable
    c.write_at-2.ensures.crash c.sync-2.ensures.crash c.sync-2.ensures.time

pub returns-clause-added : goal.returns-clause-added
returns-clause-added g c room rs r within added at_rest only =
    let d = g.D.Disk in
    let old = c.args.disk.now in
    let behind = staged d.seen d.may_leave d.moment d.left_since room rs r c.args.end c.args.body.now old added at_rest within only c.write_at.new.self c.sync.new.self c.write_at.ensures.torn
    c.in_ok-write_at.ensures.written c.sync.ensures.seen in (
      rests d.seen d.may_leave d.moment d.left_since room rs r c.args.end c.args.body.now old added at_rest within only c.sync.new.self c.write_at-2.new.self c.sync-2.new.self behind
          c.write_at-2.ensures.torn c.in_ok-write_at-2.ensures.written c.sync-2.ensures.seen,
      λ image left. c.in_ok-sync-2.ensures.durable image left ∙ sym c.sync-2.ensures.seen,
    )

on_err : {T E P : Type 0} (r : Result T E) → P → OnErr r P
on_err (Ok x) p = tt
on_err (Err e) p = p

pub returns-in_err-write_at-2-clause-not_added : goal.returns-in_err-write_at-2-clause-not_added
returns-in_err-write_at-2-clause-not_added g c room rs r within added at_rest was =
    let d = g.D.Disk in
    on_err c.from_residual-in_err-write_at-2.result
    (ap (recovered room) (c.write_at-2.ensures.safe ∙ c.in_ok-sync.ensures.safe)
    ∙ torn_behind room rs r c.args.end c.args.body.now (d.seen c.args.disk.now) added at_rest within (d.seen c.write_at.new.self) c.write_at.ensures.torn)

pub returns-in_err-sync-2-clause-not_added : goal.returns-in_err-sync-2-clause-not_added
returns-in_err-sync-2-clause-not_added g c room rs r within added at_rest was =
    let d = g.D.Disk in
    on_err c.from_residual-in_err-sync-2.result
    (ap (recovered room) (c.in_err-sync-2.ensures.not_safe ∙ c.write_at-2.ensures.safe ∙ c.in_ok-sync.ensures.safe)
    ∙ torn_behind room rs r c.args.end c.args.body.now (d.seen c.args.disk.now) added at_rest within (d.seen c.write_at.new.self) c.write_at.ensures.torn)

pub returns-in_err-write_at-clause-calls : goal.returns-in_err-write_at-clause-calls
returns-in_err-write_at-clause-calls g c =
    let tally = g.D.Disk.tally in
    let n = length c.args.body.now in
    let failed : IsErr c.from_residual.result = search rules in
    stop 4 (n + 1) 1 n _ _ _ _ (omega arith) (omega arith) c.in_err-write_at.ensures.calls refl failed

pub returns-in_err-sync-clause-calls : goal.returns-in_err-sync-clause-calls
returns-in_err-sync-clause-calls g c =
    let tally = g.D.Disk.tally in
    let n = length c.args.body.now in
    let two = more 2 n 1 n 1 0 _ _ (tally c.sync.new.self) _ _ refl (omega arith) c.in_ok-write_at.ensures.calls c.in_err-sync.ensures.calls in
    let failed : IsErr c.from_residual-in_err-sync.result = search rules in
    stop 4 (n + 1) 2 n _ _ _ _ (omega arith) (omega arith) two refl failed

pub returns-in_err-write_at-2-clause-calls : goal.returns-in_err-write_at-2-clause-calls
returns-in_err-write_at-2-clause-calls g c =
    let tally = g.D.Disk.tally in
    let n = length c.args.body.now in
    let two = more 2 n 1 n 1 0 _ _ (tally c.sync.new.self) _ _ refl (omega arith) c.in_ok-write_at.ensures.calls c.in_ok-sync.ensures.calls in
    let three = more 3 (n + 1) 2 n 1 1 _ _ (tally c.write_at-2.new.self) _ _ refl (omega arith) two c.in_err-write_at-2.ensures.calls in
    let failed : IsErr c.from_residual-in_err-write_at-2.result = search rules in
    stop 4 (n + 1) 3 (n + 1) _ _ _ _ (omega arith) (omega arith) three refl failed

pub returns-in_err-sync-2-clause-calls : goal.returns-in_err-sync-2-clause-calls
returns-in_err-sync-2-clause-calls g c =
    let tally = g.D.Disk.tally in
    let n = length c.args.body.now in
    let two = more 2 n 1 n 1 0 _ _ (tally c.sync.new.self) _ _ refl (omega arith) c.in_ok-write_at.ensures.calls c.in_ok-sync.ensures.calls in
    let three = more 3 (n + 1) 2 n 1 1 _ _ (tally c.write_at-2.new.self) _ _ refl (omega arith) two c.in_ok-write_at-2.ensures.calls in
    let four = more 4 (n + 1) 3 (n + 1) 1 0 _ _ (tally c.sync-2.new.self) _ _ refl (omega arith) three c.in_err-sync-2.ensures.calls in
    let failed : IsErr c.from_residual-in_err-sync-2.result = search rules in
    stop 4 (n + 1) 4 (n + 1) _ _ _ _ (omega arith) (omega arith) four refl failed

pub returns-clause-calls : goal.returns-clause-calls
returns-clause-calls g c =
    let tally = g.D.Disk.tally in
    let n = length c.args.body.now in
    let two = more 2 n 1 n 1 0 _ _ (tally c.sync.new.self) _ _ refl (omega arith) c.in_ok-write_at.ensures.calls c.in_ok-sync.ensures.calls in
    let three = more 3 (n + 1) 2 n 1 1 _ _ (tally c.write_at-2.new.self) _ _ refl (omega arith) two c.in_ok-write_at-2.ensures.calls in
    let four = more 4 (n + 1) 3 (n + 1) 1 0 _ _ (tally c.sync-2.new.self) _ _ refl (omega arith) three c.in_ok-sync-2.ensures.calls in
    four

pub returns-in_err-write_at-clause-memory : goal.returns-in_err-write_at-clause-memory
returns-in_err-write_at-clause-memory g c =
    let n = length c.args.body.now in
    let end = c.args.end + 1 + n in
    uses_less 1 n end 4 (n + 1) end _ _ _ _ (omega arith) (omega arith) (omega arith) c.write_at.ensures.memory

pub returns-in_err-sync-clause-memory : goal.returns-in_err-sync-clause-memory
returns-in_err-sync-clause-memory g c =
    let n = length c.args.body.now in
    let end = c.args.end + 1 + n in
    uses_then 1 n end 1 0 0 4 (n + 1) end _ _ _ _ _ _ (omega arith) (omega arith) (omega arith) (omega arith) c.write_at.ensures.memory c.sync.ensures.memory

pub returns-in_err-write_at-2-clause-memory : goal.returns-in_err-write_at-2-clause-memory
returns-in_err-write_at-2-clause-memory g c =
    let n = length c.args.body.now in
    let end = c.args.end + 1 + n in
    let two = uses_then 1 n end 1 0 0 2 n end _ _ _ _ _ _ (omega arith) (omega arith) (omega arith) (omega arith) c.write_at.ensures.memory c.sync.ensures.memory in
    uses_then 2 n end 1 1 (c.args.end + 1) 4 (n + 1) end _ _ _ _ _ _ (omega arith) (omega arith) (omega arith) (omega arith) two c.write_at-2.ensures.memory

pub returns-in_err-sync-2-clause-memory : goal.returns-in_err-sync-2-clause-memory
returns-in_err-sync-2-clause-memory g c =
    let n = length c.args.body.now in
    let end = c.args.end + 1 + n in
    let two = uses_then 1 n end 1 0 0 2 n end _ _ _ _ _ _ (omega arith) (omega arith) (omega arith) (omega arith) c.write_at.ensures.memory c.sync.ensures.memory in
    let three = uses_then 2 n end 1 1 (c.args.end + 1) 3 (n + 1) end _ _ _ _ _ _ (omega arith) (omega arith) (omega arith) (omega arith) two c.write_at-2.ensures.memory in
    uses_then 3 (n + 1) end 1 0 0 4 (n + 1) end _ _ _ _ _ _ (omega arith) (omega arith) (omega arith) (omega arith) three c.sync-2.ensures.memory

pub returns-clause-memory : goal.returns-clause-memory
returns-clause-memory g c =
    let n = length c.args.body.now in
    let end = c.args.end + 1 + n in
    let two = uses_then 1 n end 1 0 0 2 n end _ _ _ _ _ _ (omega arith) (omega arith) (omega arith) (omega arith) c.write_at.ensures.memory c.sync.ensures.memory in
    let three = uses_then 2 n end 1 1 (c.args.end + 1) 3 (n + 1) end _ _ _ _ _ _ (omega arith) (omega arith) (omega arith) (omega arith) two c.write_at-2.ensures.memory in
    uses_then 3 (n + 1) end 1 0 0 4 (n + 1) end _ _ _ _ _ _ (omega arith) (omega arith) (omega arith) (omega arith) three c.sync-2.ensures.memory
