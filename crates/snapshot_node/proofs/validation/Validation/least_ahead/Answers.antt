use Rattle.std.proofs.Common.{sym, subst}
use Rattle.snapshot_node.specs.declared.asked.Asked.{Asked}
use Rattle.snapshot_node.specs.Asking.{AreThere, IsWalk}
use Rattle.snapshot_node.proofs.Accessed.{book_next, reads_next, puts_else, next_writers_ascend, next_writers_here, walk_end}
use Rattle.snapshot_node.proofs.RecentAcross.{late_as}
use Rattle.snapshot_node.proofs.OwnEdges.{AheadIn, ahead_start, ahead_next, ahead_skip, ahead_end}
use Rattle.snapshot_node.proofs.validation.Validation.least_ahead.Goals as goal

pub loop-access-init : goal.loop-access-init
loop-access-init c =
    let w = subst (IsWalk c.args.self.now.asked c.args.c.0) (sym c.into_iter-access-iterator.ensures.into_iter_gives) c.accesses-access-items.ensures in
    record { book = w.book; least = ahead_start c.args.self.now c.args.c.0 c.requires.stake c.into_iter-access-iterator.result.left w.left }

pub among-requires-clause-ascending : goal.among-requires-clause-ascending
among-requires-clause-ascending c = next_writers_ascend c.args.self.now.asked
    (reads_next c.args.self.now.asked c.loop-access.access-iterator c.next.new.self c.loop-access.invariant.book c.in-Some.access c.in-Some.ensures.steps c.in-Read.writers c.in-Read.is)

pub among-requires-clause-txns_here : goal.among-requires-clause-txns_here
among-requires-clause-txns_here c = next_writers_here c.args.self.now.asked c.recent-recent.ensures.asked
    (reads_next c.args.self.now.asked c.loop-access.access-iterator c.next.new.self c.loop-access.invariant.book c.in-Some.access c.in-Some.ensures.steps c.in-Read.writers c.in-Read.is)

pub first_across-requires-clause-among_here : goal.first_across-requires-clause-among_here
first_across-requires-clause-among_here c = subst (λ (a : Asked). AreThere a c.among.result.now) c.recent-recent.ensures.asked c.among.ensures.here

pub loop-access-preserved-in-Read : goal.loop-access-preserved-in-Read
loop-access-preserved-in-Read c =
    let v = c.args.self.now in
    let u = c.args.c.0 in
    let rest = c.next.new.self.left in
    let r = reads_next v.asked c.loop-access.access-iterator c.next.new.self c.loop-access.invariant.book c.in-Some.access c.in-Some.ensures.steps c.in-Read.writers c.in-Read.is in
    record {
      book = book_next v.asked c.loop-access.access-iterator c.next.new.self c.loop-access.invariant.book c.in-Some.access c.in-Some.ensures.steps;
      least = subst (AheadIn v u rest) (sym c.lesser-least.ensures)
          (ahead_next v u r.cell c.loop-access.access-iterator.left rest c.among.result.now c.loop-access.least c.first_across.result c.first_across.ensures r.left
          (late_as c.recent-recent.ensures.asked c.recent-recent.ensures.t r.those c.among.ensures.late) c.loop-access.invariant.least);
    }

pub loop-access-preserved : goal.loop-access-preserved
loop-access-preserved c =
    let v = c.args.self.now in
    let r = puts_else v.asked c.loop-access.access-iterator c.next.new.self c.loop-access.invariant.book c.in-Some.access c.in-Some.ensures.steps c.in_default.not-Read in
    record {
      book = book_next v.asked c.loop-access.access-iterator c.next.new.self c.loop-access.invariant.book c.in-Some.access c.in-Some.ensures.steps;
      least = ahead_skip v c.args.c.0 c.loop-access.access-iterator.left c.loop-access.least r.0 c.next.new.self.left r.1 c.loop-access.invariant.least;
    }

pub returns : goal.returns
returns c = ahead_end c.args.self.now c.args.c.0 c.loop-access.access-iterator.left c.loop-access.least (walk_end _ _ c.in-None.ensures.steps) c.loop-access.invariant.least
