use Rattle.std.proofs.Common.{◌∙◌, ap, sym, arith}
use Rattle.chain_pool.specs.declared.places.Head.{Head}
use Rattle.chain_pool.specs.Heads.{writer_head, with_head}
use Rattle.chain_pool.proofs.Chains.{none_left}
use Rattle.chain_pool.proofs.Lookups.{with_head-here}
use Rattle.chain_pool.proofs.pool.Pool.take_all.Goals as goal

pub returns-clause-sound : goal.returns-clause-sound
returns-clause-sound c = (c.loop-version.left, omega (arith, c.loop-version.invariant.count), c.loop-version.invariant.sound)

pub returns-clause-taken : goal.returns-clause-taken
returns-clause-taken c x =
    let own = writer_head c.loop-version.self.writers.entries in
    let here = with_head-here c.args.t c.loop-version.left own in
    sym (none_left _ _ (with_head c.args.t c.loop-version.left own) _ c.loop-version.invariant.sound.linked c.args.t (omega (arith, ap (λ (h : Head). h.len) here, c.loop-version.invariant.count)) x)
    ∙ c.loop-version.invariant.kept x

pub loop-version-preserved : goal.loop-version-preserved
loop-version-preserved c = record {
  sound = c.take_first-left.ensures.sound;
  count = omega (arith, c.take_first-left.ensures.fewer, c.loop-version.invariant.count);
  kept = λ x. c.take_first-left.ensures.kept x ∙ c.loop-version.invariant.kept x;
  writers = c.take_first-left.ensures.writers ∙ c.loop-version.invariant.writers;
  room = λ n r. c.take_first-left.ensures.room n (c.loop-version.invariant.room n r);
}
