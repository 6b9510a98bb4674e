use Rattle.std.proofs.Common.{sym, subst}
use Rattle.teb_rules.proofs.lemmas.laws.Sound.{tree_facts}
use Rattle.batch_book.proofs.Numbered.{unfinished_parts}
use Rattle.phase_api.specs.FactsView.{setup_of, events_of}
use Rattle.access_book.specs.Touched.{Reads, Puts}
use Rattle.snapshot_node.specs.declared.asked.Asked.{Asked}
use Rattle.snapshot_node.specs.Asking.{AreThere, IsWalk}
use Rattle.snapshot_node.specs.Standing.{readers_in}
use Rattle.snapshot_node.specs.Pivots.{ComesIn}
use Rattle.snapshot_node.proofs.Listed.{readers_here}
use Rattle.snapshot_node.proofs.Least.{Remains, remains_start, remains_next, remains_skip, remains_end}
use Rattle.snapshot_node.proofs.Accessed.{accesses_of, book_next, puts_next, reads_else, next_readers_ascend, next_readers_here, walk_end}
use Rattle.snapshot_node.proofs.Comers.{ComesBy, along_comes, comes_along}
use Rattle.snapshot_node.proofs.RecentAcross.{late_as, comer_recent}
use Rattle.snapshot_node.proofs.validation.Validation.least_before.Goals as goal

pub loop-access-init : goal.loop-access-init
loop-access-init c =
    let v = c.args.self.now in
    let S = setup_of v.asked.facts.now in
    let H = events_of v.asked.facts.now in
    let n = v.asked.register.now.node.0 in
    let t = v.t.0 in
    let w = subst (IsWalk v.asked t) (sym c.into_iter-access-iterator.ensures.into_iter_gives) c.accesses-access-items.ensures in
    record {
      book = w.book;
      least = remains_start (ComesBy S H n t) (ComesIn S H n t) (accesses_of H t) c.into_iter-access-iterator.result.left w.left
          (along_comes S H n t v.lawful v.asked.stands.orderly (unfinished_parts H t v.unfinished).2 (tree_facts S v.tree) v.asked.stands.kind)
          (comes_along S H n t v.lawful v.asked.stands.orderly (unfinished_parts H t v.unfinished).2 (tree_facts S v.tree) v.asked.stands.kind);
    }

pub among-requires-clause-ascending : goal.among-requires-clause-ascending
among-requires-clause-ascending c = next_readers_ascend c.args.self.now.asked
    (puts_next c.args.self.now.asked c.loop-access.access-iterator c.next.new.self c.loop-access.invariant.book c.in-Some.access c.in-Some.ensures.steps c.in-Put.readers c.in-Put.is)

pub among-requires-clause-txns_here : goal.among-requires-clause-txns_here
among-requires-clause-txns_here c = next_readers_here c.args.self.now.asked c.recent-recent.ensures.asked
    (puts_next c.args.self.now.asked c.loop-access.access-iterator c.next.new.self c.loop-access.invariant.book c.in-Some.access c.in-Some.ensures.steps c.in-Put.readers c.in-Put.is)

pub least_before_by-requires-clause-among_here : goal.least_before_by-requires-clause-among_here
least_before_by-requires-clause-among_here c = subst (λ (a : Asked). AreThere a c.among.result.now) c.recent-recent.ensures.asked c.among.ensures.here

pub loop-access-preserved-in-Put : goal.loop-access-preserved-in-Put
loop-access-preserved-in-Put c =
    let v = c.args.self.now in
    let S = setup_of v.asked.facts.now in
    let H = events_of v.asked.facts.now in
    let n = v.asked.register.now.node.0 in
    let t = v.t.0 in
    let r = puts_next v.asked c.loop-access.access-iterator c.next.new.self c.loop-access.invariant.book c.in-Some.access c.in-Some.ensures.steps c.in-Put.readers c.in-Put.is in
    let x = r.cell in
    let us = c.among.result.now in
    let late = late_as c.recent-recent.ensures.asked c.recent-recent.ensures.t r.those c.among.ensures.late in
    let rest = c.next.new.self.left in
    record {
      book = book_next v.asked c.loop-access.access-iterator c.next.new.self c.loop-access.invariant.book c.in-Some.access c.in-Some.ensures.steps;
      least = subst (Remains (ComesBy S H n t) (ComesIn S H n t) rest) (sym c.lesser-least.ensures)
          (remains_next (ComesBy S H n t) (ComesIn S H n t) (Puts x) c.loop-access.access-iterator.left rest c.loop-access.least c.least_before_by.result r.left c.loop-access.invariant.least
          (comer_recent v.asked t (readers_in S H n x) us late (readers_here v.asked.facts.now n x v.asked.stands.orderly) c.least_before_by.result c.least_before_by.ensures));
    }

pub loop-access-preserved : goal.loop-access-preserved
loop-access-preserved c =
    let v = c.args.self.now in
    let S = setup_of v.asked.facts.now in
    let H = events_of v.asked.facts.now in
    let n = v.asked.register.now.node.0 in
    let t = v.t.0 in
    let r = reads_else v.asked c.loop-access.access-iterator c.next.new.self c.loop-access.invariant.book c.in-Some.access c.in-Some.ensures.steps c.in_default.not-Put in
    record {
      book = book_next v.asked c.loop-access.access-iterator c.next.new.self c.loop-access.invariant.book c.in-Some.access c.in-Some.ensures.steps;
      least = remains_skip (ComesBy S H n t) (ComesIn S H n t) (Reads r.0) c.loop-access.access-iterator.left c.next.new.self.left c.loop-access.least r.1 c.loop-access.invariant.least (λ u q. q);
    }

pub returns : goal.returns
returns c =
    let v = c.args.self.now in
    let S = setup_of v.asked.facts.now in
    let H = events_of v.asked.facts.now in
    let n = v.asked.register.now.node.0 in
    let t = v.t.0 in
    remains_end (ComesBy S H n t) (ComesIn S H n t) c.loop-access.access-iterator.left c.loop-access.least (walk_end _ _ c.in-None.ensures.steps) c.loop-access.invariant.least
