use Rattle.std.proofs.Common.{◌∙◌, ap, arith}
use Rattle.crash_disk.specs.Calls.{Promise}
use Rattle.tebaldi_c.proofs.Reopened.{refused, reopened}
use Rattle.tebaldi_c.proofs.filed.FileStore.open.Goals as goal

pub returns-in-Ok-clause-ok : goal.returns-in-Ok-clause-ok
returns-in-Ok-clause-ok c =
    let before = c.call_count-before.ensures in
    reopened c.args.setup c.args.image.now c.in_ok-disk.disk c.in-Ok.store.engine c.in-Ok.store.journal c.begun.result
    c.begun.ensures.engine c.begun.ensures.journal c.in_ok-disk.ensures.capacity
    (λ le. c.begun.ensures.place (omega (arith, before, le)) ∙ before)
    c.begun.ensures.running (c.in_ok-disk.ensures.seen ∙ c.in_ok-bytes.ensures.items)
    (λ image left. c.in_ok-disk.ensures.safe image left ∙ c.in_ok-bytes.ensures.items)
    c.in-Ok.ensures.begun c.in-Ok.ensures.read c.in-Ok.ensures.found c.in-Ok.ensures.any_moment

pub returns-in-Err-clause-refused : goal.returns-in-Err-clause-refused
returns-in-Err-clause-refused c =
    let r = c.in-Err.ensures.refused in
    refused c.args.setup c.args.image.now _ _ c.in-Err.back.why (c.in_ok-disk.ensures.seen ∙ c.in_ok-bytes.ensures.items) c.in_ok-disk.ensures.capacity
    r.damaged r.other_capacity r.other_tables r.full

pub begun-requires-clause-disk : goal.begun-requires-clause-disk
begun-requires-clause-disk c = record {
  no_stop = ap (λ (p : Promise). p.stop) c.in-Ok.ensures.calls.promise ∙ c.in_ok-disk.ensures.stop;
  granted = c.in-Ok.ensures.granted ∙ c.in_ok-disk.ensures.refusals;
}
