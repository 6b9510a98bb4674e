use Rattle.std.proofs.Common.{ℕ, List, sym, subst}
use Rattle.phase_api.specs.FactsView.{setup_of, events_of}
use Rattle.access_book.specs.Touched.{Reads, Puts}
use Rattle.snapshot_node.specs.declared.marks.Mark.{Mark}
use Rattle.snapshot_node.specs.Marks.{IsTold}
use Rattle.snapshot_node.specs.declared.asked.Asked.{Asked}
use Rattle.snapshot_node.specs.Asking.{AreThere, IsWalk}
use Rattle.snapshot_node.specs.Standing.{readers_in, writers_in}
use Rattle.snapshot_node.proofs.Listed.{writers_here, readers_here}
use Rattle.snapshot_node.proofs.Edges.{stake_stands}
use Rattle.snapshot_node.proofs.Accessed.{accesses_of, book_next, reads_next, puts_next, next_writers_ascend, next_writers_here, next_readers_ascend, next_readers_here, walk_end}
use Rattle.snapshot_node.proofs.CellEdges.{Ahead, Behind, listed_across, shared_ahead, shared_behind}
use Rattle.snapshot_node.proofs.Covers.{covers_start, covers_next, covers_end, covers_more}
use Rattle.snapshot_node.proofs.RecentAcross.{late_as, across_recent}
use Rattle.snapshot_node.proofs.Grown.{grown_none, grown_then, told_still}
use Rattle.snapshot_node.proofs.marking.mark_edges.Goals as goal

pub loop-access-init : goal.loop-access-init
loop-access-init c =
    let a = c.args.asked.now in
    let S = setup_of a.facts.now in
    let H = events_of a.facts.now in
    let n = a.register.now.node.0 in
    let t = c.args.t.0 in
    let w = subst (IsWalk a t) (sym c.into_iter-access-iterator.ensures.into_iter_gives) c.accesses-access-items.ensures in
    let all = accesses_of H t in
    let it = c.into_iter-access-iterator.result.left in
    let ms = c.args.marks.now in
    record {
      book = w.book;
      grown = grown_none ms;
      ahead = λ q. covers_start (Ahead S H n t t) (λ (u : ℕ). IsTold S H n ms t u) all it w.left;
      behind = λ q. covers_start (Behind S H n t t) (λ (u : ℕ). IsTold S H n ms u t) all it w.left;
    }

pub among-requires-clause-ascending : goal.among-requires-clause-ascending
among-requires-clause-ascending c = next_writers_ascend c.args.asked.now
    (reads_next c.args.asked.now c.loop-access.access-iterator c.next.new.self c.loop-access.invariant.book c.in-Some.access c.in-Some.ensures.steps c.in-Read.writers c.in-Read.is)

pub among-requires-clause-txns_here : goal.among-requires-clause-txns_here
among-requires-clause-txns_here c = next_writers_here c.args.asked.now c.recent-recent.ensures.asked
    (reads_next c.args.asked.now c.loop-access.access-iterator c.next.new.self c.loop-access.invariant.book c.in-Some.access c.in-Some.ensures.steps c.in-Read.writers c.in-Read.is)

pub mark_ahead-requires-clause-among_here : goal.mark_ahead-requires-clause-among_here
mark_ahead-requires-clause-among_here c = subst (λ (a : Asked). AreThere a c.among.result.now) c.recent-recent.ensures.asked c.among.ensures.here

pub among-requires-in-Put-clause-ascending : goal.among-requires-in-Put-clause-ascending
among-requires-in-Put-clause-ascending c = next_readers_ascend c.args.asked.now
    (puts_next c.args.asked.now c.loop-access.access-iterator c.next.new.self c.loop-access.invariant.book c.in-Some.access c.in-Some.ensures.steps c.in-Put.readers c.in-Put.is)

pub among-requires-in-Put-clause-txns_here : goal.among-requires-in-Put-clause-txns_here
among-requires-in-Put-clause-txns_here c = next_readers_here c.args.asked.now c.recent-recent.ensures.asked
    (puts_next c.args.asked.now c.loop-access.access-iterator c.next.new.self c.loop-access.invariant.book c.in-Some.access c.in-Some.ensures.steps c.in-Put.readers c.in-Put.is)

pub mark_behind-requires-clause-among_here : goal.mark_behind-requires-clause-among_here
mark_behind-requires-clause-among_here c = subst (λ (a : Asked). AreThere a c.among-in-Put.result.now) c.recent-recent.ensures.asked c.among-in-Put.ensures.here

pub loop-access-preserved-in-Read : goal.loop-access-preserved-in-Read
loop-access-preserved-in-Read c =
    let a = c.args.asked.now in
    let S = setup_of a.facts.now in
    let H = events_of a.facts.now in
    let n = a.register.now.node.0 in
    let t = c.args.t.0 in
    let all = accesses_of H t in
    let left = c.loop-access.access-iterator.left in
    let rest = c.next.new.self.left in
    let A = λ (ms : List Mark) (u : ℕ). IsTold S H n ms t u in
    let B = λ (ms : List Mark) (u : ℕ). IsTold S H n ms u t in
    let r = reads_next a c.loop-access.access-iterator c.next.new.self c.loop-access.invariant.book c.in-Some.access c.in-Some.ensures.steps c.in-Read.writers c.in-Read.is in
    let x = r.cell in
    let late = late_as c.recent-recent.ensures.asked c.recent-recent.ensures.t r.those c.among.ensures.late in
    let m = c.loop-access.marks in
    let k = c.mark_ahead.new.marks in
    let grown = c.mark_ahead.ensures.grown in
    record {
      book = book_next a c.loop-access.access-iterator c.next.new.self c.loop-access.invariant.book c.in-Some.access c.in-Some.ensures.steps;
      grown = grown_then c.args.marks.now m k c.loop-access.invariant.grown grown;
      ahead = λ q. covers_next (Ahead S H n t t) (A k) all (Reads x) left rest r.left
          (covers_more (Ahead S H n t t) (A m) all (A k) left (λ u y. told_still S H n m k t u grown y) (c.loop-access.invariant.ahead q))
          (λ u y. c.mark_ahead.ensures.told q.lawful u
          (across_recent a t (writers_in S H n x) c.among.result.now late (writers_here a.facts.now n x a.stands.orderly) t u (listed_across S H n t q.lawful a.stands.orderly q.runs t x u y)));
      behind = λ q. covers_next (Behind S H n t t) (B k) all (Reads x) left rest r.left
          (covers_more (Behind S H n t t) (B m) all (B k) left (λ u y. told_still S H n m k u t grown y) (c.loop-access.invariant.behind q)) (λ u y. absurd y);
    }

pub loop-access-preserved : goal.loop-access-preserved
loop-access-preserved c =
    let a = c.args.asked.now in
    let S = setup_of a.facts.now in
    let H = events_of a.facts.now in
    let n = a.register.now.node.0 in
    let t = c.args.t.0 in
    let all = accesses_of H t in
    let left = c.loop-access.access-iterator.left in
    let rest = c.next.new.self.left in
    let A = λ (ms : List Mark) (u : ℕ). IsTold S H n ms t u in
    let B = λ (ms : List Mark) (u : ℕ). IsTold S H n ms u t in
    let r = puts_next a c.loop-access.access-iterator c.next.new.self c.loop-access.invariant.book c.in-Some.access c.in-Some.ensures.steps c.in-Put.readers c.in-Put.is in
    let x = r.cell in
    let late = late_as c.recent-recent.ensures.asked c.recent-recent.ensures.t r.those c.among-in-Put.ensures.late in
    let m = c.loop-access.marks in
    let k = c.mark_behind.new.marks in
    let grown = c.mark_behind.ensures.grown in
    record {
      book = book_next a c.loop-access.access-iterator c.next.new.self c.loop-access.invariant.book c.in-Some.access c.in-Some.ensures.steps;
      grown = grown_then c.args.marks.now m k c.loop-access.invariant.grown grown;
      ahead = λ q. covers_next (Ahead S H n t t) (A k) all (Puts x) left rest r.left
          (covers_more (Ahead S H n t t) (A m) all (A k) left (λ u y. told_still S H n m k t u grown y) (c.loop-access.invariant.ahead q)) (λ u y. absurd y);
      behind = λ q. covers_next (Behind S H n t t) (B k) all (Puts x) left rest r.left
          (covers_more (Behind S H n t t) (B m) all (B k) left (λ u y. told_still S H n m k u t grown y) (c.loop-access.invariant.behind q))
          (λ u y. c.mark_behind.ensures.told q.lawful u (across_recent a t (readers_in S H n x) c.among-in-Put.result.now late (readers_here a.facts.now n x a.stands.orderly) t u y));
    }

pub returns-clause-ahead : goal.returns-clause-ahead
returns-clause-ahead c q u st p =
    let a = c.args.asked.now in
    let S = setup_of a.facts.now in
    let H = events_of a.facts.now in
    let n = a.register.now.node.0 in
    let t = c.args.t.0 in
    covers_end (Ahead S H n t t) (λ (u : ℕ). IsTold S H n c.loop-access.marks t u) (accesses_of H t) c.loop-access.access-iterator.left (walk_end _ _ c.in-None.ensures.steps)
    (c.loop-access.invariant.ahead q) u
    (shared_ahead S H n t t u st p.across (record { cell = p.cell; read = p.read; put = p.put }))

pub returns-clause-behind : goal.returns-clause-behind
returns-clause-behind c q u st p =
    let a = c.args.asked.now in
    let S = setup_of a.facts.now in
    let H = events_of a.facts.now in
    let n = a.register.now.node.0 in
    let t = c.args.t.0 in
    covers_end (Behind S H n t t) (λ (u : ℕ). IsTold S H n c.loop-access.marks u t) (accesses_of H t) c.loop-access.access-iterator.left (walk_end _ _ c.in-None.ensures.steps)
    (c.loop-access.invariant.behind q) u
    (shared_behind S H n t a.stands.orderly t u (stake_stands S H t u q.lawful q.runs st) st p.across (record { cell = p.cell; read = p.read; put = p.put }))
