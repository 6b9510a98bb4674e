use Rattle.std.proofs.Common.{◌≡◌, ◌∙◌, ap, sym, ℕ, Some, ltb, find}
use Rattle.teb_rules.specs.history.Phases.{txns, kind_of}
use Rattle.teb_rules.specs.Steps.{rank_of_table, rank_of_step, cursor}
use Rattle.phase_api.specs.FactsView.{setup_of, events_of}
use Rattle.access_conflicts.specs.Waits.{some_txn, wait_for_txn}
use Rattle.runtime_pipeline.specs.Standing.{holds_up}
use Rattle.runtime_pipeline.proofs.Said.{access_stays, access_enters, access_held}
use Rattle.runtime_pipeline.proofs.pipeline.Pipeline.before_access.Goals as goal
use Rattle.runtime_pipeline.proofs.pipeline.Pipeline.before_access.Goals.{then-enters+in_default, else-enters}

pub returns-in-Some : goal.returns-in-Some
returns-in-Some c =
    let S = setup_of c.args.facts.now in
    let H = events_of c.args.facts.now in
    let n = c.args.self.now.register.node.0 in
    let rank : c.rank-rank.result ≡ rank_of_table S n c.args.cell.table.0 = c.rank-rank.ensures ∙ c.requires.stands.ranks c.args.cell.table.0 in
    let less = ap (ltb (rank_of_step S n (kind_of H c.args.t.0) (cursor S H c.args.t.0))) (sym rank) ∙ sym c.enters.ensures ∙ c.if-enters.true in
    access_held S H n c.requires.stands.kind c.args.t.0 c.args.cell c.args.write c.in-Some.u less
    (sym c.in-Some.is ∙ c.first_ahead.ensures ∙ ap (λ (k : ℕ). some_txn (find (holds_up S H n c.args.t.0 (Some k)) (txns H))) rank)

pub returns : goal.returns
returns c =
    let S = setup_of c.args.facts.now in
    let H = events_of c.args.facts.now in
    let n = c.args.self.now.register.node.0 in
    let rank : c.rank-rank.result ≡ rank_of_table S n c.args.cell.table.0 = c.rank-rank.ensures ∙ c.requires.stands.ranks c.args.cell.table.0 in
    c.wait_for.ensures ∙ ap wait_for_txn c.first_holder.ensures ∙ elim c.if-enters.branch [
      | then-enters+in_default w ↦ access_enters S H n c.requires.stands.kind c.args.t.0 c.args.cell c.args.write (ap (ltb (rank_of_step S n (kind_of H c.args.t.0) (cursor S H c.args.t.0))) (sym rank)
          ∙ sym c.enters.ensures ∙ w.if-enters.true)
          (sym w.in_default.is ∙ w.first_ahead.ensures ∙ ap (λ (k : ℕ). some_txn (find (holds_up S H n c.args.t.0 (Some k)) (txns H))) rank)
      | else-enters w ↦ access_stays S H n c.requires.stands.kind c.args.t.0 c.args.cell c.args.write (ap (ltb (rank_of_step S n (kind_of H c.args.t.0) (cursor S H c.args.t.0))) (sym rank)
          ∙ sym c.enters.ensures ∙ w.if-enters.false)
    ]
