use Rattle.std.proofs.Common.{◌-◌, ◌+◌, sym, ◌∙◌, ap, arith, length, length-append, length-drop, ◌∷◌, []}
use Rattle.record_journal.specs.Format.{changes_of, change_of}
use Rattle.record_journal.proofs.Reading.{short, bad, next}
use Rattle.record_journal.proofs.read.read_changes.Goals as goal

pub returns-then-rest-lt-CHANGE_BYTES-clause-changes : goal.returns-then-rest-lt-CHANGE_BYTES-clause-changes
returns-then-rest-lt-CHANGE_BYTES-clause-changes c =
    short c.loop.changes.items (c.args.count - c.loop.counter) c.loop.rest.now (changes_of c.args.count c.args.bytes.now) (omega (arith, c.loop-test.true)) c.if-rest-lt-CHANGE_BYTES.true
    c.loop.invariant.so_far

pub returns-in-None-clause-changes : goal.returns-in-None-clause-changes
returns-in-None-clause-changes c =
    bad c.loop.changes.items (c.args.count - c.loop.counter) c.loop.rest.now (changes_of c.args.count c.args.bytes.now) (omega (arith, c.loop-test.true)) c.if-rest-lt-CHANGE_BYTES.false
    (sym (c.in-None.ensures ∙ ap change_of c.split_at.ensures.front)) c.loop.invariant.so_far

pub loop-preserved : goal.loop-preserved
loop-preserved c = record {
  so_far =
      rw (c.in_ok-push-in-Some.ensures.items, c.split_at.ensures.back)
      (next c.loop.changes.items (c.args.count - c.loop.counter) (c.args.count - (c.loop.counter + 1)) c.loop.rest.now _ (changes_of c.args.count c.args.bytes.now) (omega (arith, c.loop-test.true))
      c.if-rest-lt-CHANGE_BYTES.false
      (sym (c.in-Some.ensures ∙ ap change_of c.split_at.ensures.front)) c.loop.invariant.so_far);
  size =
      let pushed = ap length c.in_ok-push-in-Some.ensures.items in
      let back = ap length c.split_at.ensures.back in
      omega (arith, pushed, length-append c.loop.changes.items (c.in-Some.change ∷ []), back, length-drop 14 c.loop.rest.now, c.if-rest-lt-CHANGE_BYTES.false, c.loop.invariant.size);
}
