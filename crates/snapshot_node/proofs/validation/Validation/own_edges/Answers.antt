use Rattle.std.proofs.Common.{false, sym, subst}
use Rattle.phase_api.specs.FactsView.{events_of}
use Rattle.snapshot_node.specs.declared.asked.Asked.{Asked}
use Rattle.snapshot_node.specs.Asking.{AreThere, IsWalk}
use Rattle.snapshot_node.proofs.Accessed.{book_next, reads_next, puts_next, next_writers_ascend, next_writers_here, next_readers_ascend, next_readers_here, walk_end}
use Rattle.snapshot_node.proofs.Comers.{stake_itself}
use Rattle.snapshot_node.proofs.RecentAcross.{late_as}
use Rattle.snapshot_node.proofs.OwnEdges.{AheadIn, BehindIn, ahead_start, behind_start, left_start, entered_start, ahead_next, behind_next, left_next}
use Rattle.snapshot_node.proofs.OwnEdges.{entered_next, ahead_skip, behind_skip, left_skip, entered_skip, ahead_end, behind_end, left_end, entered_end}
use Rattle.snapshot_node.proofs.validation.Validation.own_edges.Goals as goal

pub loop-access-init : goal.loop-access-init
loop-access-init c =
    let v = c.args.self.now in
    let t = v.t.0 in
    let w = subst (IsWalk v.asked t) (sym c.into_iter-access-iterator.ensures.into_iter_gives) c.accesses-access-items.ensures in
    let stake = stake_itself (events_of v.asked.facts.now) t in
    let all = c.into_iter-access-iterator.result.left in
    record { book = w.book; ahead = ahead_start v t stake all w.left; behind = behind_start v t stake all w.left; left = left_start v t all false w.left; entered = entered_start v t all false w.left }

pub among-requires-clause-ascending : goal.among-requires-clause-ascending
among-requires-clause-ascending c = next_writers_ascend c.args.self.now.asked
    (reads_next c.args.self.now.asked c.loop-access.access-iterator c.next.new.self c.loop-access.invariant.book c.in-Some.access c.in-Some.ensures.steps c.in-Read.writers c.in-Read.is)

pub among-requires-clause-txns_here : goal.among-requires-clause-txns_here
among-requires-clause-txns_here c = next_writers_here c.args.self.now.asked c.recent-recent.ensures.asked
    (reads_next c.args.self.now.asked c.loop-access.access-iterator c.next.new.self c.loop-access.invariant.book c.in-Some.access c.in-Some.ensures.steps c.in-Read.writers c.in-Read.is)

pub heads_among-first-requires-clause-among_here : goal.heads_among-first-requires-clause-among_here
heads_among-first-requires-clause-among_here c = subst (λ (a : Asked). AreThere a c.among.result.now) c.recent-recent.ensures.asked c.among.ensures.here

pub among-requires-in-Put-clause-ascending : goal.among-requires-in-Put-clause-ascending
among-requires-in-Put-clause-ascending c = next_readers_ascend c.args.self.now.asked
    (puts_next c.args.self.now.asked c.loop-access.access-iterator c.next.new.self c.loop-access.invariant.book c.in-Some.access c.in-Some.ensures.steps c.in-Put.readers c.in-Put.is)

pub among-requires-in-Put-clause-txns_here : goal.among-requires-in-Put-clause-txns_here
among-requires-in-Put-clause-txns_here c = next_readers_here c.args.self.now.asked c.recent-recent.ensures.asked
    (puts_next c.args.self.now.asked c.loop-access.access-iterator c.next.new.self c.loop-access.invariant.book c.in-Some.access c.in-Some.ensures.steps c.in-Put.readers c.in-Put.is)

pub tails_among-first-requires-clause-among_here : goal.tails_among-first-requires-clause-among_here
tails_among-first-requires-clause-among_here c = subst (λ (a : Asked). AreThere a c.among-in-Put.result.now) c.recent-recent.ensures.asked c.among-in-Put.ensures.here

pub loop-access-preserved-in-Read : goal.loop-access-preserved-in-Read
loop-access-preserved-in-Read c =
    let v = c.args.self.now in
    let t = v.t.0 in
    let left = c.loop-access.access-iterator.left in
    let rest = c.next.new.self.left in
    let r = reads_next v.asked c.loop-access.access-iterator c.next.new.self c.loop-access.invariant.book c.in-Some.access c.in-Some.ensures.steps c.in-Read.writers c.in-Read.is in
    let late = late_as c.recent-recent.ensures.asked c.recent-recent.ensures.t r.those c.among.ensures.late in
    record {
      book = book_next v.asked c.loop-access.access-iterator c.next.new.self c.loop-access.invariant.book c.in-Some.access c.in-Some.ensures.steps;
      ahead = subst (AheadIn v t rest) (sym c.lesser-ahead.ensures)
          (ahead_next v t r.cell left rest c.among.result.now c.loop-access.ahead c.heads_among-first.result.0 c.heads_among-first.ensures.least r.left late c.loop-access.invariant.ahead);
      behind = behind_skip v t left c.loop-access.behind r.cell rest r.left c.loop-access.invariant.behind;
      left = left_next v t left c.loop-access.left r.cell rest c.among.result.now c.heads_among-first.result.1 r.left late c.heads_among-first.ensures.left c.loop-access.invariant.left;
      entered = entered_skip v t left c.loop-access.entered r.cell rest r.left c.loop-access.invariant.entered;
    }

pub loop-access-preserved : goal.loop-access-preserved
loop-access-preserved c =
    let v = c.args.self.now in
    let t = v.t.0 in
    let left = c.loop-access.access-iterator.left in
    let rest = c.next.new.self.left in
    let r = puts_next v.asked c.loop-access.access-iterator c.next.new.self c.loop-access.invariant.book c.in-Some.access c.in-Some.ensures.steps c.in-Put.readers c.in-Put.is in
    let late = late_as c.recent-recent.ensures.asked c.recent-recent.ensures.t r.those c.among-in-Put.ensures.late in
    record {
      book = book_next v.asked c.loop-access.access-iterator c.next.new.self c.loop-access.invariant.book c.in-Some.access c.in-Some.ensures.steps;
      ahead = ahead_skip v t left c.loop-access.ahead r.cell rest r.left c.loop-access.invariant.ahead;
      behind = subst (BehindIn v t rest) (sym c.lesser-behind.ensures)
          (behind_next v t r.cell left rest c.among-in-Put.result.now c.loop-access.behind c.tails_among-first.result.0 c.tails_among-first.ensures.least r.left late c.loop-access.invariant.behind);
      left = left_skip v t left c.loop-access.left r.cell rest r.left c.loop-access.invariant.left;
      entered = entered_next v t left c.loop-access.entered r.cell rest c.among-in-Put.result.now c.tails_among-first.result.1 r.left late c.tails_among-first.ensures.entered
          c.loop-access.invariant.entered;
    }

pub returns : goal.returns
returns c =
    let v = c.args.self.now in
    let left = c.loop-access.access-iterator.left in
    let end = walk_end _ _ c.in-None.ensures.steps in
    record {
      ahead = ahead_end v v.t.0 left c.loop-access.ahead end c.loop-access.invariant.ahead;
      behind = behind_end v v.t.0 left c.loop-access.behind end c.loop-access.invariant.behind;
      left = left_end v v.t.0 left c.loop-access.left end c.loop-access.invariant.left;
      entered = entered_end v v.t.0 left c.loop-access.entered end c.loop-access.invariant.entered;
    }
