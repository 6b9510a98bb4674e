use Rattle.std.proofs.Common.{◌≡◌, ℕ, true, refl, sym, subst, arith}
use Rattle.teb_rules.specs.Tree.{meets}
use Rattle.phase_api.specs.FactsView.{setup_of, events_of}
use Rattle.candidate_reads.proofs.Meets.{meets_there, meets_alone}
use Rattle.candidate_reads.proofs.node_control.control_between.Goals as goal

pub returns-then-controls-eq1-clause-meet : goal.returns-then-controls-eq1-clause-meet
returns-then-controls-eq1-clause-meet g c =
    let S = setup_of c.args.facts.now in
    let H = events_of c.args.facts.now in
    let t = c.args.t.0 in
    let u = c.args.u.0 in
    subst (λ (n : ℕ). meets S H n t u ≡ true) (sym c.control_at.ensures.node_number)
    (meets_alone S c.requires.tree H t u c.requires.lawful (omega (arith, c.requires.controls.one_each, c.if-controls-eq1)) c.requires.left.begun c.requires.right.begun c.requires.differ)

pub returns-clause-meet : goal.returns-clause-meet
returns-clause-meet g c =
    let S = setup_of c.args.facts.now in
    let H = events_of c.args.facts.now in
    let t = c.args.t.0 in
    let u = c.args.u.0 in
    subst (λ (n : ℕ). meets S H n t u ≡ true) (sym c.control_at-2.ensures.node_number)
    (meets_there S c.requires.tree H c.meet.result.0 t u c.requires.lawful c.requires.left.begun c.requires.right.begun c.requires.differ
    (c.meet.ensures.meet S H t u refl (sym c.in-Some-Some.ensures.spot) (sym c.in-Some-Some.ensures'.spot) c.requires.differ))
