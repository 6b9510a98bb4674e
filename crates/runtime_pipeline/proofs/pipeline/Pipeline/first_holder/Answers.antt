use Rattle.std.proofs.Common.{◌≡◌, ◌∙◌, ◌&&◌, ℕ, List, not, find, get_or, sym, ap, true, false}
use Rattle.teb_rules.specs.declared.names.Node.{Node}
use Rattle.teb_rules.specs.Steps.{passed, rank_of_table}
use Rattle.hold_book.specs.declared.Hold.{Hold}
use Rattle.phase_api.specs.FactsView.{setup_of, events_of}
use Rattle.access_conflicts.specs.Blockers.{in_the_way}
use Rattle.access_conflicts.specs.Waits.{some_txn}
use Rattle.access_conflicts.proofs.Blockers.{holder, held_typed, find_here, find_end}
use Rattle.teb_rules.specs.Controls.{blocks}
use Rattle.teb_rules.specs.history.Phases.{txns}
use Rattle.runtime_pipeline.proofs.Said.{stops, first_stop}
use Rattle.runtime_pipeline.proofs.pipeline.Pipeline.first_holder.Goals as goal

pub is_in_the_way-requires-clause-holder : goal.is_in_the_way-requires-clause-holder
is_in_the_way-requires-clause-holder c = held_typed c.args.facts.now _ c.args.cell c.holds-hold-items.result.now c.loop-hold.hold-index _ c.requires.stands.register.book.orderly
    c.holds-hold-items.ensures c.loop-hold-test.true

pub has_passed-requires-clause-typed : goal.has_passed-requires-clause-typed
has_passed-requires-clause-typed c = held_typed c.args.facts.now _ c.args.cell c.holds-hold-items.result.now c.loop-hold.hold-index _ c.requires.stands.register.book.orderly c.holds-hold-items.ensures
    c.loop-hold-test.true

pub returns-then-not-has_passed : goal.returns-then-not-has_passed
returns-then-not-has_passed c =
    let S = setup_of c.args.facts.now in
    let H = events_of c.args.facts.now in
    let n = c.args.self.now.register.node.0 in
    let t = c.args.t.0 in
    let hs = c.holds-hold-items.result.now in
    let i = c.loop-hold.hold-index in
    let d : Hold = record { txn = record { 0 = 0 }; wrote = false } in
    let rank : c.rank-rank.result ≡ rank_of_table S n c.args.cell.table.0 = c.rank-rank.ensures ∙ c.requires.stands.ranks c.args.cell.table.0 in
    let p = stops S H n t c.args.write c.rank-rank.result in
    let met : in_the_way S H n t c.args.write (get_or hs i d) ≡ true = ap (λ (m : Node). in_the_way S H m.0 t c.args.write (get_or hs i d)) (sym c.node-node.ensures) ∙ sym c.is_in_the_way.ensures
    ∙ c.if-is_in_the_way.true in
    let free : passed S H n (get_or hs i d).txn.0 c.rank-rank.result ≡ false = sym c.has_passed.ensures ∙ c.if-not-has_passed.true in
    ap holder (find_here p hs i d c.loop-hold-test.true (λ j. met j && not (free j)) c.loop-hold.invariant)
    ∙ ap (λ (l : List Hold). holder (find p l)) c.holds-hold-items.ensures
    ∙ first_stop S H n t c.args.cell c.args.write c.rank-rank.result
    ∙ ap (λ (k : ℕ). some_txn (find (λ u. blocks S H n t c.args.cell c.args.write u && not (passed S H n u k)) (txns H))) rank

pub returns : goal.returns
returns c =
    let S = setup_of c.args.facts.now in
    let H = events_of c.args.facts.now in
    let n = c.args.self.now.register.node.0 in
    let t = c.args.t.0 in
    let rank : c.rank-rank.result ≡ rank_of_table S n c.args.cell.table.0 = c.rank-rank.ensures ∙ c.requires.stands.ranks c.args.cell.table.0 in
    let p = stops S H n t c.args.write c.rank-rank.result in
    ap holder (find_end p c.holds-hold-items.result.now c.loop-hold.hold-index c.loop-hold-test.false c.loop-hold.invariant)
    ∙ ap (λ (l : List Hold). holder (find p l)) c.holds-hold-items.ensures
    ∙ first_stop S H n t c.args.cell c.args.write c.rank-rank.result
    ∙ ap (λ (k : ℕ). some_txn (find (λ u. blocks S H n t c.args.cell c.args.write u && not (passed S H n u k)) (txns H))) rank
