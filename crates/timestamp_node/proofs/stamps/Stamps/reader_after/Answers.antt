use Rattle.std.proofs.Common.{◌≡◌, ◌∙◌, List, Some, None, sym, subst, ltb-true}
use Rattle.teb_rules.specs.declared.names.Txn.{Txn}
use Rattle.teb_rules.specs.history.Phases.{begun_count}
use Rattle.phase_api.specs.FactsView.{setup_of, events_of}
use Rattle.timestamp_node.specs.Reads.{reads}
use Rattle.timestamp_node.specs.Late.{is_after}
use Rattle.timestamp_node.proofs.Here.{here_joined, reader_begun, reader_typed, source_stands}
use Rattle.timestamp_node.proofs.Late.{IsWalked, walk_none, walk_split, walk_skip, walk_more, walk_stop, least_late}
use Rattle.timestamp_node.proofs.OrderedLists.{all_none}
use Rattle.timestamp_node.proofs.OlderReads.{read_at, older_in_time}
use Rattle.timestamp_node.proofs.stamps.Stamps.reader_after.Goals as goal

pub loop-read-init : goal.loop-read-init
loop-read-init g c =
    let f = c.args.facts.now in
    let S = setup_of f in
    let H = events_of f in
    let n = c.args.self.now.node.0 in
    let x = c.args.cell in
    let p = is_after S H n c.args.t.0 x in
    let all = reads S H n x in
    let gives = c.into_iter-read-iterator.ensures.into_iter_gives in
    let source = c.rev-read-items.ensures.source in
    let first = c.into_iter-read-iterator.result.iter.rest.now in
    let is : first ≡ all = (λ j. (gives j).iter.rest.now) ∙ (λ j. (source j).rest.now) ∙ c.iter.ensures.rest ∙ c.reads.ensures in
    subst (λ (rs : List (Txn × Txn)). IsWalked p (begun_count H) all rs None) (sym is) (walk_none p (begun_count H) all)

pub is_closed_before-requires-clause-closed : goal.is_closed_before-requires-clause-closed
is_closed_before-requires-clause-closed g c =
    let f = c.args.facts.now in
    let S = setup_of f in
    let H = events_of f in
    let n = c.args.self.now.node.0 in
    let x = c.args.cell in
    let p = is_after S H n c.args.t.0 x in
    let all = reads S H n x in
    let rest = c.next.new.self.iter.rest.now in
    let r = c.in-Some.read.now in
    let walked = subst (λ (rs : List (Txn × Txn)). IsWalked p (begun_count H) all rs c.loop-read.least) c.in-Some.ensures.steps c.loop-read.invariant in
    let split = walk_split p (begun_count H) all rest r c.loop-read.least walked in
    let is = read_at S H n x rest r walked.seen split in
    here_joined f n c.args.self.now.batches r.0.0 c.requires.stands.batches (record { typed = reader_typed f n x r c.requires.stands.orderly is; on = is.here })

pub is_closed_before-requires-clause-started : goal.is_closed_before-requires-clause-started
is_closed_before-requires-clause-started g c = here_joined c.args.facts.now c.args.self.now.node.0 c.args.self.now.batches c.args.t.0 c.requires.stands.batches c.requires.here

pub is_after-requires-clause-reader : goal.is_after-requires-clause-reader
is_after-requires-clause-reader g c =
    let f = c.args.facts.now in
    let S = setup_of f in
    let H = events_of f in
    let n = c.args.self.now.node.0 in
    let x = c.args.cell in
    let p = is_after S H n c.args.t.0 x in
    let all = reads S H n x in
    let rest = c.next.new.self.iter.rest.now in
    let r = c.in-Some.read.now in
    let walked = subst (λ (rs : List (Txn × Txn)). IsWalked p (begun_count H) all rs c.loop-read.least) c.in-Some.ensures.steps c.loop-read.invariant in
    let split = walk_split p (begun_count H) all rest r c.loop-read.least walked in
    let is = read_at S H n x rest r walked.seen split in
    reader_typed f n x r c.requires.stands.orderly is

pub is_after-requires-clause-source : goal.is_after-requires-clause-source
is_after-requires-clause-source g c =
    let f = c.args.facts.now in
    let S = setup_of f in
    let H = events_of f in
    let n = c.args.self.now.node.0 in
    let x = c.args.cell in
    let p = is_after S H n c.args.t.0 x in
    let all = reads S H n x in
    let rest = c.next.new.self.iter.rest.now in
    let r = c.in-Some.read.now in
    let walked = subst (λ (rs : List (Txn × Txn)). IsWalked p (begun_count H) all rs c.loop-read.least) c.in-Some.ensures.steps c.loop-read.invariant in
    let split = walk_split p (begun_count H) all rest r c.loop-read.least walked in
    let is = read_at S H n x rest r walked.seen split in
    source_stands f n x r c.requires.sources is

pub loop-read-preserved-then-is_after : goal.loop-read-preserved-then-is_after
loop-read-preserved-then-is_after g c =
    let f = c.args.facts.now in
    let S = setup_of f in
    let H = events_of f in
    let n = c.args.self.now.node.0 in
    let x = c.args.cell in
    let p = is_after S H n c.args.t.0 x in
    let all = reads S H n x in
    let rest = c.next.new.self.iter.rest.now in
    let r = c.in-Some.read.now in
    let walked = subst (λ (rs : List (Txn × Txn)). IsWalked p (begun_count H) all rs c.loop-read.least) c.in-Some.ensures.steps c.loop-read.invariant in
    let split = walk_split p (begun_count H) all rest r c.loop-read.least walked in
    let is = read_at S H n x rest r walked.seen split in
    let m = c.requires.stands.orderly.numbered r.0.0 (reader_begun f n x r c.requires.stands.orderly is) in
    subst (λ (u : Txn). IsWalked p (begun_count H) all rest (Some u)) (sym c.lesser.ensures)
    (walk_more p (begun_count H) all rest r c.loop-read.least walked (sym c.is_after.ensures ∙ c.if-is_after.true) m.0 m.1)

pub loop-read-preserved : goal.loop-read-preserved
loop-read-preserved g c =
    let f = c.args.facts.now in
    let S = setup_of f in
    let H = events_of f in
    let n = c.args.self.now.node.0 in
    let x = c.args.cell in
    let p = is_after S H n c.args.t.0 x in
    let all = reads S H n x in
    let rest = c.next.new.self.iter.rest.now in
    let r = c.in-Some.read.now in
    let walked = subst (λ (rs : List (Txn × Txn)). IsWalked p (begun_count H) all rs c.loop-read.least) c.in-Some.ensures.steps c.loop-read.invariant in
    walk_skip p (begun_count H) all rest r c.loop-read.least walked (sym c.is_after.ensures ∙ c.if-is_after.false)

pub returns-in-None : goal.returns-in-None
returns-in-None g c =
    let f = c.args.facts.now in
    let S = setup_of f in
    let H = events_of f in
    let n = c.args.self.now.node.0 in
    let x = c.args.cell in
    let p = is_after S H n c.args.t.0 x in
    let all = reads S H n x in
    let rest = c.loop-read.read-iterator.iter.rest.now in
    walk_stop p (begun_count H) all rest c.loop-read.least c.loop-read.invariant (all_none _ rest c.in-None.ensures.steps.0) ∙ least_late S H n c.args.t.0 x

pub returns-then-is_closed_before : goal.returns-then-is_closed_before
returns-then-is_closed_before g c =
    let f = c.args.facts.now in
    let S = setup_of f in
    let H = events_of f in
    let n = c.args.self.now.node.0 in
    let x = c.args.cell in
    let p = is_after S H n c.args.t.0 x in
    let all = reads S H n x in
    let rest = c.next.new.self.iter.rest.now in
    let r = c.in-Some.read.now in
    let walked = subst (λ (rs : List (Txn × Txn)). IsWalked p (begun_count H) all rs c.loop-read.least) c.in-Some.ensures.steps c.loop-read.invariant in
    let split = walk_split p (begun_count H) all rest r c.loop-read.least walked in
    let closed = ltb-true _ _ (sym (c.is_closed_before.ensures S H n c.requires.stands.batches) ∙ c.if-is_closed_before.true) in
    walk_stop p (begun_count H) all _ c.loop-read.least walked (older_in_time S H n x c.args.t.0 c.requires.stands.batches.numbered c.requires.stands.timely rest r walked.seen split closed)
    ∙ least_late S H n c.args.t.0 x
