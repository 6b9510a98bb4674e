use Rattle.std.proofs.Common.{◌∙◌, ◌≤◌, get_or, drop, arith}
use Rattle.std.proofs.lemmas.List.{take_all, length-drop}
use Rattle.teb_rules.specs.declared.names.Txn.{Txn}
use Rattle.snapshot_node.proofs.Later.{parts_at}
use Rattle.snapshot_node.proofs.numbered.from_number_behind.Goals as goal
use Rattle.snapshot_node.proofs.numbered.from_number_behind.Goals.{then-loop-start-test+else-txns-start, else-loop-start-test}

pub returns : goal.returns
returns c =
    let i = c.loop-start.invariant in
    let us = c.args.txns.now in
    let k = c.loop-start.start in
    let d : Txn = record { 0 = 0 } in
    take_all _ (drop k us) (omega (arith, length-drop k us))
    ∙ parts_at c.args.first.0 us k d c.requires.ascending i.positive i.within i.below
    (λ l. elim c.loop-start-test.branch as (λ _. c.args.first.0 ≤ (get_or us k d).0) [
      | then-loop-start-test+else-txns-start w ↦ w.if-txns-start.false
      | else-loop-start-test w ↦ absurd (let end = w.loop-start-test.false in omega arith)
    ])
