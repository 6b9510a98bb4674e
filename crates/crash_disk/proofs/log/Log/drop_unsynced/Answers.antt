use Rattle.std.proofs.Common.{refl, length, ◌∙◌, ap, subst, arith}
use Rattle.crash_disk.specs.Log.{Logged, contents, MayLeave, byte_count}
use Rattle.crash_disk.proofs.Logged.{less_safe, less_length, less_count, less_long, ended_contents, ended_only}
use Rattle.crash_disk.proofs.log.Log.drop_unsynced.Goals as goal

pub loop-preserved : goal.loop-preserved
loop-preserved c =
    let less = c.loop-test.ensures.dropped refl in
    let i = c.loop.invariant in
    record {
      safe = less_safe _ _ less ∙ i.safe;
      room = c.loop-test.ensures.room ∙ i.room;
      fewer = omega (arith, less_length _ _ less, i.fewer);
      fewer_bytes = omega (arith, less_count _ _ less, i.fewer_bytes);
      shorter = omega (arith, less_long _ _ less, i.shorter);
    }

pub loop-smaller : goal.loop-smaller
loop-smaller c = omega (arith, less_length _ _ (c.loop-test.ensures.dropped refl))

pub returns-clause-contents : goal.returns-clause-contents
returns-clause-contents c = let kept = c.loop-test.ensures.kept refl in ap (λ (l : Logged). contents l.steps) kept.0 ∙ ended_contents _ kept.1 ∙ c.loop.invariant.safe

pub returns-clause-only : goal.returns-clause-only
returns-clause-only c image left =
    let kept = c.loop-test.ensures.kept refl in
    ended_only c.loop.self.steps kept.1 image (subst (λ (l : Logged). MayLeave l.steps image) kept.0 left) ∙ c.loop.invariant.safe

pub returns-clause-room : goal.returns-clause-room
returns-clause-room c = c.loop-test.ensures.room ∙ c.loop.invariant.room

pub returns-clause-fewer : goal.returns-clause-fewer
returns-clause-fewer c = omega (arith, ap (λ (l : Logged). length l.steps) (c.loop-test.ensures.kept refl).0, c.loop.invariant.fewer)

pub returns-clause-fewer_bytes : goal.returns-clause-fewer_bytes
returns-clause-fewer_bytes c = omega (arith, ap (λ (l : Logged). byte_count l.steps) (c.loop-test.ensures.kept refl).0, c.loop.invariant.fewer_bytes)

pub returns-clause-shorter : goal.returns-clause-shorter
returns-clause-shorter c = omega (arith, ap (λ (l : Logged). length (contents l.steps)) (c.loop-test.ensures.kept refl).0, c.loop.invariant.shorter)
