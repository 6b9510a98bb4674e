use Rattle.std.proofs.Common.{sym, subst}
use Rattle.snapshot_node.specs.declared.asked.Asked.{Asked}
use Rattle.snapshot_node.specs.Asking.{AreThere, IsWalk}
use Rattle.snapshot_node.proofs.Accessed.{book_next, puts_next, reads_else, next_readers_ascend, next_readers_here, walk_end}
use Rattle.snapshot_node.proofs.RecentAcross.{late_as}
use Rattle.snapshot_node.proofs.OwnEdges.{BehindIn, behind_start, behind_next, behind_skip, behind_end}
use Rattle.snapshot_node.proofs.validation.Validation.least_behind.Goals as goal

pub loop-access-init : goal.loop-access-init
loop-access-init c =
    let w = subst (IsWalk c.args.self.now.asked c.args.b.0) (sym c.into_iter-access-iterator.ensures.into_iter_gives) c.accesses-access-items.ensures in
    record { book = w.book; least = behind_start c.args.self.now c.args.b.0 c.requires.stake c.into_iter-access-iterator.result.left w.left }

pub among-requires-clause-ascending : goal.among-requires-clause-ascending
among-requires-clause-ascending c = next_readers_ascend c.args.self.now.asked
    (puts_next c.args.self.now.asked c.loop-access.access-iterator c.next.new.self c.loop-access.invariant.book c.in-Some.access c.in-Some.ensures.steps c.in-Put.readers c.in-Put.is)

pub among-requires-clause-txns_here : goal.among-requires-clause-txns_here
among-requires-clause-txns_here c = next_readers_here c.args.self.now.asked c.recent-recent.ensures.asked
    (puts_next c.args.self.now.asked c.loop-access.access-iterator c.next.new.self c.loop-access.invariant.book c.in-Some.access c.in-Some.ensures.steps c.in-Put.readers c.in-Put.is)

pub first_across-requires-clause-among_here : goal.first_across-requires-clause-among_here
first_across-requires-clause-among_here c = subst (λ (a : Asked). AreThere a c.among.result.now) c.recent-recent.ensures.asked c.among.ensures.here

pub loop-access-preserved-in-Put : goal.loop-access-preserved-in-Put
loop-access-preserved-in-Put c =
    let v = c.args.self.now in
    let u = c.args.b.0 in
    let rest = c.next.new.self.left in
    let r = puts_next v.asked c.loop-access.access-iterator c.next.new.self c.loop-access.invariant.book c.in-Some.access c.in-Some.ensures.steps c.in-Put.readers c.in-Put.is in
    record {
      book = book_next v.asked c.loop-access.access-iterator c.next.new.self c.loop-access.invariant.book c.in-Some.access c.in-Some.ensures.steps;
      least = subst (BehindIn v u rest) (sym c.lesser-least.ensures)
          (behind_next v u r.cell c.loop-access.access-iterator.left rest c.among.result.now c.loop-access.least c.first_across.result c.first_across.ensures r.left
          (late_as c.recent-recent.ensures.asked c.recent-recent.ensures.t r.those c.among.ensures.late) c.loop-access.invariant.least);
    }

pub loop-access-preserved : goal.loop-access-preserved
loop-access-preserved c =
    let v = c.args.self.now in
    let r = reads_else v.asked c.loop-access.access-iterator c.next.new.self c.loop-access.invariant.book c.in-Some.access c.in-Some.ensures.steps c.in_default.not-Put in
    record {
      book = book_next v.asked c.loop-access.access-iterator c.next.new.self c.loop-access.invariant.book c.in-Some.access c.in-Some.ensures.steps;
      least = behind_skip v c.args.b.0 c.loop-access.access-iterator.left c.loop-access.least r.0 c.next.new.self.left r.1 c.loop-access.invariant.least;
    }

pub returns : goal.returns
returns c = behind_end c.args.self.now c.args.b.0 c.loop-access.access-iterator.left c.loop-access.least (walk_end _ _ c.in-None.ensures.steps) c.loop-access.invariant.least
