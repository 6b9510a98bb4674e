use Rattle.std.proofs.Common.{◌∙◌, ◌+◌, ◌≡◌, ◌≤◌, ℕ, Bool, List, cond, true, false, get_or, refl, sym, subst, drop, arith}
use Rattle.phase_api.specs.FactsView.{setup_of, events_of}
use Rattle.teb_rules.specs.declared.names.Txn.{Txn}
use Rattle.hold_book.specs.declared.Hold.{Hold}
use Rattle.access_conflicts.specs.Blockers.{in_the_way}
use Rattle.teb_rules.specs.history.Ascending.{put_by}
use Rattle.teb_rules.specs.history.Live.{number_of}
use Rattle.sorted_multimap.specs.Multimap.{Shown, values_in}
use Rattle.sorted_multimap.specs.Keys.{txn_cmp}
use Rattle.runtime_pipeline.proofs.ListEdits.{IsPutting, edited, putting_in, putting_none}
use Rattle.runtime_pipeline.proofs.predecessors.put_holders.Goals as goal
use Rattle.runtime_pipeline.proofs.predecessors.put_holders.Goals.{then-is_in_the_way, else-is_in_the_way}

-- a value takes at most one place
one_more : (a b : ℕ) (added : Bool) → a ≡ b + cond added 1 0 → a ≤ b + 1
one_more a b true e = omega arith
one_more a b false e = omega arith

pub loop-hold-preserved : goal.loop-hold-preserved
loop-hold-preserved c =
    let p = in_the_way (setup_of c.args.facts.now) (events_of c.args.facts.now) c.args.node.0 c.args.t.0 c.args.write in
    let d : Hold = record { txn = record { 0 = 0 }; wrote = false } in
    let i = c.loop-hold.hold-index in
    let hs = c.args.holds.now in
    let f = λ (v : Txn). values_in txn_cmp c.loop-hold.lists v in
    let Next = λ (s : Bool) (b : Shown Txn Txn). IsPutting p c.args.t hs (drop (i + 1) hs) (i + 1) s c.args.lists.now b in
    let next : (s s' : Bool) (b b' : Shown Txn Txn) → s' ≡ s → b' ≡ b → Next s b → Next s' b' = λ s s' b b' e l h. subst (λ (s : Bool). Next s b') (sym e) (subst (Next s) (sym l) h) in
    elim c.if-is_in_the_way.branch [
      | then-is_in_the_way w ↦ next _ _ _ _ w.some-is w.lists-is
          (putting_in p c.args.t hs c.args.lists.now c.loop-hold.lists w.put_by_number.new.self i d c.loop-hold.some c.loop-hold-test.true c.loop-hold.invariant
          (sym c.is_in_the_way.ensures ∙ w.if-is_in_the_way.true)
          (λ v. w.put_by_number.ensures.values v ∙ edited f (λ (l : List Txn). put_by number_of (get_or hs i d).txn l) c.args.t v _ refl)
          (one_more _ _ w.put_by_number.result w.put_by_number.ensures.spare))
      | else-is_in_the_way w ↦ next _ _ _ _ w.some-is w.lists-is (putting_none p c.args.t hs c.args.lists.now c.loop-hold.lists i d c.loop-hold.some c.loop-hold-test.true c.loop-hold.invariant
          (sym c.is_in_the_way.ensures ∙ w.if-is_in_the_way.false))
    ]
