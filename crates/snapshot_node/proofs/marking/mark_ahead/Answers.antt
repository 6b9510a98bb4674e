use Rattle.std.proofs.Common.{◌+◌, ℕ, List, sym, subst}
use Rattle.std.proofs.lemmas.Bool.{both_ways}
use Rattle.teb_rules.specs.declared.names.Txn.{Txn}
use Rattle.teb_rules.specs.laws.Lawful.{Lawful}
use Rattle.phase_api.specs.FactsView.{setup_of, events_of}
use Rattle.snapshot_node.specs.declared.marks.Mark.{Mark}
use Rattle.snapshot_node.specs.Marks.{HaveGrown, IsTold}
use Rattle.snapshot_node.specs.Pivots.{IsAcross}
use Rattle.snapshot_node.proofs.Listed.{at_among}
use Rattle.snapshot_node.proofs.Grown.{EachBefore, each_more, each_all, each_grown, grown_then, told_still}
use Rattle.snapshot_node.proofs.marking.mark_ahead.Goals as goal
use Rattle.snapshot_node.proofs.marking.mark_ahead.Goals.{then-may_be_across, else-may_be_across}

pub may_be_across-requires-clause-right : goal.may_be_across-requires-clause-right
may_be_across-requires-clause-right c = c.requires.among_here _ (at_among c.args.among.now c.loop-u.u-index _ c.loop-u-test.true)

pub mark_pair-requires-clause-head : goal.mark_pair-requires-clause-head
mark_pair-requires-clause-head c = c.requires.among_here _ (at_among c.args.among.now c.loop-u.u-index _ c.loop-u-test.true)

pub loop-u-preserved : goal.loop-u-preserved
loop-u-preserved c =
    let S = setup_of c.args.asked.now.facts.now in
    let H = events_of c.args.asked.now.facts.now in
    let n = c.args.asked.now.register.now.node.0 in
    let t = c.args.t.0 in
    let P = λ (u : ℕ). Lawful S H × IsAcross S H n t t c.args.among.now u in
    let R = λ (ms : List Mark) (u : ℕ). IsTold S H n ms t u in
    let d : Txn = record { 0 = 0 } in
    let xs = c.args.among.now in
    let i = c.loop-u.u-index in
    let m = c.loop-u.marks in
    elim c.if-may_be_across.branch [
      | then-may_be_across w ↦ (let k = w.mark_pair.new.marks in
          let g = w.mark_pair.ensures.grown in
          subst (λ (ms : List Mark). record { grown : HaveGrown c.args.marks.now ms; told : EachBefore P (R ms) d xs (i + 1) }) (sym w.marks-is) (record {
            grown = grown_then c.args.marks.now m k c.loop-u.invariant.grown g;
            told = each_more P (R k) d xs i (each_grown P (R m) (R k) d xs i (λ u y. told_still S H n m k t u g y) c.loop-u.invariant.told) (λ p. w.mark_pair.ensures.told);
          }))
      | else-may_be_across w ↦ subst (λ (ms : List Mark). record { grown : HaveGrown c.args.marks.now ms; told : EachBefore P (R ms) d xs (i + 1) }) (sym w.marks-is) (record {
        grown = c.loop-u.invariant.grown;
        told = each_more P (R m) d xs i c.loop-u.invariant.told (λ p. absurd (both_ways _ w.if-may_be_across.false (c.may_be_across.ensures p.0 p.1.stake p.1.across)));
      })
    ]

pub returns-clause-told : goal.returns-clause-told
returns-clause-told c l u p =
    let S = setup_of c.args.asked.now.facts.now in
    let H = events_of c.args.asked.now.facts.now in
    let n = c.args.asked.now.register.now.node.0 in
    let t = c.args.t.0 in
    let ms = c.loop-u.marks in
    each_all (λ (u : ℕ). Lawful S H × IsAcross S H n t t c.args.among.now u) (λ (u : ℕ). IsTold S H n ms t u) (record { 0 = 0 }) c.args.among.now c.loop-u.u-index u c.loop-u-test.false
    c.loop-u.invariant.told p.listed (l, p)
