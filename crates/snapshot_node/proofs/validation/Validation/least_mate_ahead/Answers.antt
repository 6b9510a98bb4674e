use Rattle.std.proofs.Common.{sym, subst}
use Rattle.teb_rules.proofs.lemmas.laws.Sound.{tree_facts}
use Rattle.batch_book.proofs.Numbered.{unfinished_parts}
use Rattle.phase_api.specs.FactsView.{setup_of, events_of}
use Rattle.access_book.specs.Touched.{Reads, Puts}
use Rattle.snapshot_node.specs.declared.asked.Asked.{Asked}
use Rattle.snapshot_node.specs.Asking.{AreThere, IsWalk}
use Rattle.snapshot_node.specs.Standing.{writers_in}
use Rattle.snapshot_node.specs.Pivots.{EntersAt}
use Rattle.snapshot_node.proofs.Listed.{writers_here}
use Rattle.snapshot_node.proofs.Least.{Remains, remains_start, remains_next, remains_skip, remains_end}
use Rattle.snapshot_node.proofs.Accessed.{accesses_of, book_next, reads_next, puts_else, next_writers_ascend, next_writers_here, walk_end}
use Rattle.snapshot_node.proofs.CellEdges.{Ahead}
use Rattle.snapshot_node.proofs.Known.{IsMateOf, mate_writers, along_ahead, ahead_along}
use Rattle.snapshot_node.proofs.Middles.{Both}
use Rattle.snapshot_node.proofs.RecentAcross.{late_as, mate_recent}
use Rattle.snapshot_node.proofs.validation.Validation.least_mate_ahead.Goals as goal

pub loop-access-init : goal.loop-access-init
loop-access-init c =
    let v = c.args.self.now in
    let S = setup_of v.asked.facts.now in
    let H = events_of v.asked.facts.now in
    let n = v.asked.register.now.node.0 in
    let t = v.t.0 in
    let b = c.args.b.0 in
    let w = subst (IsWalk v.asked t) (sym c.into_iter-access-iterator.ensures.into_iter_gives) c.accesses-access-items.ensures in
    record {
      book = w.book;
      least = remains_start (Both (Ahead S H n t t) (IsMateOf S H n t b)) (EntersAt S H n t b) (accesses_of H t) c.into_iter-access-iterator.result.left w.left
          (along_ahead S H n t b v.lawful v.asked.stands.orderly (unfinished_parts H t v.unfinished).2 (tree_facts S v.tree) v.asked.stands.kind)
          (ahead_along S H n t b v.lawful v.asked.stands.orderly (unfinished_parts H t v.unfinished).2 (tree_facts S v.tree) v.asked.stands.kind);
    }

pub among-requires-clause-ascending : goal.among-requires-clause-ascending
among-requires-clause-ascending c = next_writers_ascend c.args.self.now.asked
    (reads_next c.args.self.now.asked c.loop-access.access-iterator c.next.new.self c.loop-access.invariant.book c.in-Some.access c.in-Some.ensures.steps c.in-Read.writers c.in-Read.is)

pub among-requires-clause-txns_here : goal.among-requires-clause-txns_here
among-requires-clause-txns_here c = next_writers_here c.args.self.now.asked c.recent-recent.ensures.asked
    (reads_next c.args.self.now.asked c.loop-access.access-iterator c.next.new.self c.loop-access.invariant.book c.in-Some.access c.in-Some.ensures.steps c.in-Read.writers c.in-Read.is)

pub first_mate_across-requires-clause-among_here : goal.first_mate_across-requires-clause-among_here
first_mate_across-requires-clause-among_here c = subst (λ (a : Asked). AreThere a c.among.result.now) c.recent-recent.ensures.asked c.among.ensures.here

pub loop-access-preserved-in-Read : goal.loop-access-preserved-in-Read
loop-access-preserved-in-Read c =
    let v = c.args.self.now in
    let S = setup_of v.asked.facts.now in
    let H = events_of v.asked.facts.now in
    let n = v.asked.register.now.node.0 in
    let t = v.t.0 in
    let b = c.args.b.0 in
    let r = reads_next v.asked c.loop-access.access-iterator c.next.new.self c.loop-access.invariant.book c.in-Some.access c.in-Some.ensures.steps c.in-Read.writers c.in-Read.is in
    let x = r.cell in
    let us = c.among.result.now in
    let late = late_as c.recent-recent.ensures.asked c.recent-recent.ensures.t r.those c.among.ensures.late in
    let rest = c.next.new.self.left in
    record {
      book = book_next v.asked c.loop-access.access-iterator c.next.new.self c.loop-access.invariant.book c.in-Some.access c.in-Some.ensures.steps;
      least = subst (Remains (Both (Ahead S H n t t) (IsMateOf S H n t b)) (EntersAt S H n t b) rest) (sym c.lesser-least.ensures)
          (remains_next (Both (Ahead S H n t t) (IsMateOf S H n t b)) (EntersAt S H n t b) (Reads x) c.loop-access.access-iterator.left rest c.loop-access.least c.first_mate_across.result r.left
          c.loop-access.invariant.least
          (mate_writers S H n t b v.lawful v.asked.stands.orderly (unfinished_parts H t v.unfinished).2 x c.first_mate_across.result
          (mate_recent v.asked t (writers_in S H n x) us late (writers_here v.asked.facts.now n x v.asked.stands.orderly) b c.first_mate_across.result c.first_mate_across.ensures)));
    }

pub loop-access-preserved : goal.loop-access-preserved
loop-access-preserved c =
    let v = c.args.self.now in
    let S = setup_of v.asked.facts.now in
    let H = events_of v.asked.facts.now in
    let n = v.asked.register.now.node.0 in
    let t = v.t.0 in
    let b = c.args.b.0 in
    let r = puts_else v.asked c.loop-access.access-iterator c.next.new.self c.loop-access.invariant.book c.in-Some.access c.in-Some.ensures.steps c.in_default.not-Read in
    record {
      book = book_next v.asked c.loop-access.access-iterator c.next.new.self c.loop-access.invariant.book c.in-Some.access c.in-Some.ensures.steps;
      least = remains_skip (Both (Ahead S H n t t) (IsMateOf S H n t b)) (EntersAt S H n t b) (Puts r.0) c.loop-access.access-iterator.left c.next.new.self.left c.loop-access.least r.1
          c.loop-access.invariant.least (λ u q. q.0);
    }

pub returns : goal.returns
returns c =
    let v = c.args.self.now in
    let S = setup_of v.asked.facts.now in
    let H = events_of v.asked.facts.now in
    let n = v.asked.register.now.node.0 in
    let t = v.t.0 in
    let b = c.args.b.0 in
    remains_end (Both (Ahead S H n t t) (IsMateOf S H n t b)) (EntersAt S H n t b) c.loop-access.access-iterator.left c.loop-access.least (walk_end _ _ c.in-None.ensures.steps)
    c.loop-access.invariant.least
