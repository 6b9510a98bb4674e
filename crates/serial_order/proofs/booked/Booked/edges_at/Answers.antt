use Rattle.std.proofs.Common.{sym, ap, ◌∙◌, ◌≡◌, ◌+◌, ◌<◌, ℕ, Bool, true, false, set, length, replicate, Vec, Global, vec_len, subst, arith, rules}
use Rattle.teb_rules.specs.history.Phases.{begun_count, numbers}
use Rattle.teb_rules.specs.Batches.{start}
use Rattle.serial_order.specs.Edges.{AreMarked}
use Rattle.phase_api.specs.FactsView.{setup_of, events_of}
use Rattle.batch_book.proofs.Telling.{joined_from}
use Rattle.serial_order.proofs.Typed.{committed_typed}
use Rattle.serial_order.proofs.OfControls.{root_batches}
use Rattle.serial_order.proofs.EdgesOut.{marks_none, marks_same, marks_more, marks_all, leads_here, leads_within}
use Rattle.serial_order.proofs.booked.Booked.edges_at.Goals as goal
use Rattle.serial_order.proofs.booked.Booked.edges_at.Goals.{then-leads_out, else-leads_out}

pub loop-k-init : goal.loop-k-init
loop-k-init c = marks_none (setup_of c.args.self.now.facts.now) (events_of c.args.self.now.facts.now) 0 c.args.self.now.lawful c.in_ok-marks.marks.items
    (c.in_ok-marks.ensures.items_if_clones_equal (λ y same. same) ∙ ap (λ (k : ℕ). replicate k false) c.len.ensures)

pub start-requires : goal.start-requires
start-requires c =
    let S = setup_of c.args.self.now.facts.now in
    let H = events_of c.args.self.now.facts.now in
    let h = leads_here S H 0 c.args.self.now.lawful (c.loop-k.k + 1) (sym c.leads_out.ensures ∙ c.if-leads_out.true) in
    let t = committed_typed c.args.self.now.facts.now (c.loop-k.k + 1) c.args.self.now.lawful h.0 in
    joined_from c.batches.result.now S H 0 (c.loop-k.k + 1) (root_batches S H c.args.root.now c.requires.stands c.requires.root c.batches.result.now c.batches.ensures) t.begun h.1

pub index_mut-requires : goal.index_mut-requires
index_mut-requires c =
    let low = leads_within (setup_of c.args.self.now.facts.now) (events_of c.args.self.now.facts.now) 0 c.args.self.now.lawful (c.loop-k.k + 1) (sym c.leads_out.ensures ∙ c.if-leads_out.true) in
    let counted : vec_len c.loop-k.marks ≡ length c.loop-k.marks.items = search rules in
    let y = c.start.ensures (setup_of c.args.self.now.facts.now) (events_of c.args.self.now.facts.now) 0
    (root_batches (setup_of c.args.self.now.facts.now) (events_of c.args.self.now.facts.now) c.args.root.now c.requires.stands c.requires.root c.batches.result.now c.batches.ensures) in
    let z = c.loop-k.invariant.one_each in omega arith

pub loop-k-preserved : goal.loop-k-preserved
loop-k-preserved c = elim c.if-leads_out.branch [
  | then-leads_out w ↦ (
      let S = setup_of c.args.self.now.facts.now in
      let H = events_of c.args.self.now.facts.now in
      let leads = sym c.leads_out.ensures ∙ w.if-leads_out.true in
      let low : start S H 0 (c.loop-k.k + 1) < length c.loop-k.marks.items = (let y = leads_within S H 0 c.args.self.now.lawful (c.loop-k.k + 1) leads in let z = c.loop-k.invariant.one_each in
      omega arith) in
      subst (AreMarked S H 0 (numbers (c.loop-k.k + 1)))
      (sym (ap (λ (v : Vec Bool Global). v.items) w.marks-is ∙ ap (λ (i : ℕ). set c.loop-k.marks.items i true)
      (w.start.ensures S H 0 (root_batches S H c.args.root.now c.requires.stands c.requires.root w.batches.result.now w.batches.ensures))))
      (marks_more S H 0 c.args.self.now.lawful c.loop-k.k c.loop-k.marks.items c.loop-k.invariant leads low)
      )
  | else-leads_out w ↦ subst (AreMarked (setup_of c.args.self.now.facts.now) (events_of c.args.self.now.facts.now) 0 (numbers (c.loop-k.k + 1)))
      (sym (ap (λ (v : Vec Bool Global). v.items) w.marks-is))
      (marks_same (setup_of c.args.self.now.facts.now) (events_of c.args.self.now.facts.now) 0 c.args.self.now.lawful c.loop-k.k c.loop-k.marks.items c.loop-k.invariant
      (sym c.leads_out.ensures ∙ w.if-leads_out.false))
]

pub returns : goal.returns
returns c = marks_all (setup_of c.args.self.now.facts.now) (events_of c.args.self.now.facts.now) 0 c.args.self.now.lawful c.loop-k.marks.items c.loop-k.k
    (let z = c.begun-k-end.ensures in let y : c.loop-k.k ≡ begun_count (events_of c.args.self.now.facts.now) = omega arith in y) c.loop-k.invariant
