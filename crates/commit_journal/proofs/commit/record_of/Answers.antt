use Rattle.std.proofs.Common.{◌∙◌, ap, sym, arith, length, true, false, filter, Vec, Global}
use Rattle.std.proofs.lemmas.List.{take_all}
use Rattle.record_journal.specs.declared.change.Change.{Change}
use Rattle.commit_laws.specs.Records.{is_newest}
use Rattle.commit_journal.proofs.Puts.{put_wrote, chosen_more, grown_few}
use Rattle.commit_journal.proofs.commit.record_of.Goals as goal
use Rattle.commit_journal.proofs.commit.record_of.Goals.{then-is_newest+in_ok-push, else-is_newest}

pub loop-change-init : goal.loop-change-init
loop-change-init g c = record { chosen = c.new-changes.ensures.items; few = omega (arith, ap length c.new-changes.ensures.items) }

pub is_newest-requires-clause-put : goal.is_newest-requires-clause-put
is_newest-requires-clause-put g c = put_wrote c.args.engine.now.events c.args.t.0 c.args.puts.now c.loop-change.change-index _ c.requires.puts c.loop-change-test.true

pub loop-change-preserved : goal.loop-change-preserved
loop-change-preserved g c =
    let p = λ (d : Change). is_newest c.args.engine.now.store.setup c.args.engine.now.events c.args.t.0 d.cell in
    let inv = c.loop-change.invariant in
    elim c.if-is_newest.branch [
      | then-is_newest+in_ok-push w ↦ (let grown = ap (λ (v : Vec Change Global). v.items) w.changes-is ∙ w.in_ok-push.ensures.items in record {
        chosen = grown ∙ chosen_more p c.args.puts.now c.loop-change.changes.items c.loop-change.change-index _ true c.loop-change-test.true (sym c.is_newest.ensures ∙ w.if-is_newest.true) inv.chosen;
        few = grown_few _ _ _ c.loop-change.change-index grown inv.few;
      })
      | else-is_newest w ↦ record {
        chosen = ap (λ (v : Vec Change Global). v.items) w.changes-is ∙ chosen_more p c.args.puts.now c.loop-change.changes.items c.loop-change.change-index _ false c.loop-change-test.true
            (sym c.is_newest.ensures ∙ w.if-is_newest.false) inv.chosen;
        few = omega (arith, ap (λ (v : Vec Change Global). length v.items) w.changes-is, inv.few);
      }
    ]

pub returns-clause-changes : goal.returns-clause-changes
returns-clause-changes g c =
    let p = λ (d : Change). is_newest c.args.engine.now.store.setup c.args.engine.now.events c.args.t.0 d.cell in
    c.loop-change.invariant.chosen ∙ ap (filter p) (take_all c.loop-change.change-index c.args.puts.now (omega arith) ∙ c.requires.puts)

pub returns-clause-few : goal.returns-clause-few
returns-clause-few g c = omega (arith, c.loop-change.invariant.few, c.loop-change.auto.change-index-end)
