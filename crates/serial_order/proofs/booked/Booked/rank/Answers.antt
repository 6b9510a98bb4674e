use Rattle.std.proofs.Common.{ℕ, false, get_or, sym, ap, ◌∙◌, inl, inr}
use Rattle.teb_rules.specs.Setup.{NodeRow}
use Rattle.phase_api.specs.FactsView.{setup_of, events_of}
use Rattle.teb_rules.proofs.lemmas.laws.Ranks.{done_rank, start_rank}
use Rattle.serial_order.proofs.Places.{snapshot_start, snapshot_close}
use Rattle.serial_order.proofs.booked.Booked.rank.Goals as goal

pub returns-in-Locks : goal.returns-in-Locks
returns-in-Locks c = c.requires.done ∙ sym (done_rank (setup_of c.args.self.now.facts.now) (events_of c.args.self.now.facts.now) c.args.n.0 c.args.t.0
    (elim c.in-Locks.is [ inl q ↦ inl (sym (ap (λ (r : NodeRow). r.control) c.row.ensures) ∙ q) | inr q ↦ inr (sym (ap (λ (r : NodeRow). r.control) c.row.ensures) ∙ q) ]))

pub returns-in-Timestamp : goal.returns-in-Timestamp
returns-in-Timestamp c = c.start_of.ensures
    ∙ sym (start_rank (setup_of c.args.self.now.facts.now) (events_of c.args.self.now.facts.now) c.args.n.0 c.args.t.0 (sym (ap (λ (r : NodeRow). r.control) c.row.ensures) ∙ c.in-Timestamp.is))

pub returns-then-marks-start : goal.returns-then-marks-start
returns-then-marks-start c =
    let k = sym (ap (λ (r : NodeRow). r.control) c.row.ensures) ∙ c.in-Snapshot.is in
    let m = c.requires.marks c.args.n.0 c.args.t.0 k c.requires.here.typed.begun c.requires.here.on in
    c.start_of-start.ensures ∙ snapshot_start (setup_of c.args.self.now.facts.now) (events_of c.args.self.now.facts.now) c.args.n.0 c.args.t.0 k
    (sym (ap (λ (i : ℕ). get_or c.args.marks.now i false) c.start_of-start.ensures ∙ m.says) ∙ c.if-marks-start.true)

pub returns-else-marks-start : goal.returns-else-marks-start
returns-else-marks-start c =
    let k = sym (ap (λ (r : NodeRow). r.control) c.row.ensures) ∙ c.in-Snapshot.is in
    let m = c.requires.marks c.args.n.0 c.args.t.0 k c.requires.here.typed.begun c.requires.here.on in
    c.close_of.ensures ∙ snapshot_close (setup_of c.args.self.now.facts.now) (events_of c.args.self.now.facts.now) c.args.n.0 c.args.t.0 k
    (sym (ap (λ (i : ℕ). get_or c.args.marks.now i false) c.start_of-start.ensures ∙ m.says) ∙ c.if-marks-start.false)
