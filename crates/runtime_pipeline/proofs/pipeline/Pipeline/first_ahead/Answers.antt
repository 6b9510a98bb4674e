use Rattle.std.proofs.Common.{◌∙◌, ap, sym, not, List, find}
use Rattle.teb_rules.specs.declared.names.Txn.{Txn}
use Rattle.phase_api.specs.FactsView.{setup_of, events_of}
use Rattle.access_conflicts.proofs.Blockers.{find_here, find_next, find_end}
use Rattle.runtime_pipeline.specs.Standing.{passed_some}
use Rattle.runtime_pipeline.proofs.Said.{first_up, ahead_typed}
use Rattle.runtime_pipeline.proofs.pipeline.Pipeline.first_ahead.Goals as goal

pub has_passed_some-requires-clause-typed : goal.has_passed_some-requires-clause-typed
has_passed_some-requires-clause-typed c =
    let d : Txn = record { 0 = 0 } in
    ahead_typed c.args.facts.now c.args.self.now.register.node.0 c.args.t.0 c.before-u-items.result.now c.loop-u.u-index d c.requires.stands.register.book.orderly c.before-u-items.ensures
    c.loop-u-test.true

pub loop-u-preserved : goal.loop-u-preserved
loop-u-preserved c =
    let p = λ (u : Txn). not (passed_some (setup_of c.args.facts.now) (events_of c.args.facts.now) c.args.self.now.register.node.0 u.0 c.args.rank) in
    let d : Txn = record { 0 = 0 } in
    find_next p c.before-u-items.result.now c.loop-u.u-index d c.loop-u-test.true (ap not (sym c.has_passed_some.ensures ∙ c.if-not-has_passed_some.false)) c.loop-u.invariant

pub returns-then-not-has_passed_some : goal.returns-then-not-has_passed_some
returns-then-not-has_passed_some c =
    let S = setup_of c.args.facts.now in
    let H = events_of c.args.facts.now in
    let n = c.args.self.now.register.node.0 in
    let p = λ (u : Txn). not (passed_some S H n u.0 c.args.rank) in
    let d : Txn = record { 0 = 0 } in
    find_here p c.before-u-items.result.now c.loop-u.u-index d c.loop-u-test.true (ap not (sym c.has_passed_some.ensures ∙ c.if-not-has_passed_some.true)) c.loop-u.invariant
    ∙ ap (λ (l : List Txn). find p l) c.before-u-items.ensures
    ∙ first_up S H n c.args.t.0 c.args.rank

pub returns : goal.returns
returns c =
    let S = setup_of c.args.facts.now in
    let H = events_of c.args.facts.now in
    let n = c.args.self.now.register.node.0 in
    let p = λ (u : Txn). not (passed_some S H n u.0 c.args.rank) in
    find_end p c.before-u-items.result.now c.loop-u.u-index c.loop-u-test.false c.loop-u.invariant
    ∙ ap (λ (l : List Txn). find p l) c.before-u-items.ensures
    ∙ first_up S H n c.args.t.0 c.args.rank
