use Rattle.std.proofs.Common.{ℕ, List, ◌≤◌, length, take, drop, arith, length-drop, subst}
use Rattle.std.proofs.lemmas.List.{take_rest}
use Rattle.std.specs.Io.KnownBytes.{Appends}
use Rattle.teb_io.proofs.Taking.{appends_more}
use Rattle.teb_io.proofs.sink.write_whole.Goals as goal

pub loop-done-preserved : goal.loop-done-preserved
loop-done-preserved g c =
    let bytes = c.args.bytes.now in
    let done = c.loop-done.done in
    let count = c.in-Ok.count in
    let rest = take_rest bytes done in
    let bound : count ≤ length (drop done bytes) = subst (λ (l : List ℕ). count ≤ length l) rest c.in-Ok.ensures.bound in
    record {
      later = omega (arith, c.loop-done.invariant.later, c.in-Ok.ensures.cause.later);
      within = omega (arith, bound, length-drop done bytes, c.loop-done-test.true);
      front = appends_more _ _ _ bytes done count c.loop-done.invariant.front
          (subst (λ (l : List ℕ). Appends (g.K.Sink.written c.loop-done.out) (g.K.Sink.written c.write.new.self) (take count l)) rest c.in-Ok.ensures.bytes);
    }
