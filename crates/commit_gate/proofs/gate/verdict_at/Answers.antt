use Rattle.std.proofs.Common.{◌≡◌, ℕ, ◌∙◌, ◌&&◌, ◌||◌, sym, ap, find}
use Rattle.teb_rules.specs.history.Phases.{txns, unfinished}
use Rattle.teb_rules.specs.history.Accesses.{read_from}
use Rattle.teb_rules.specs.Tree.{row, meets}
use Rattle.teb_rules.specs.Controls.{validate, gate}
use Rattle.teb_rules.specs.Stops.{on_commit}
use Rattle.teb_rules.specs.Verdicts.{wait_for, or_else}
use Rattle.teb_rules.specs.declared.Verdict.{Verdict}
use Rattle.phase_api.specs.FactsView.{setup_of, events_of}
use Rattle.commit_gate.specs.Ways.{first_wait}
use Rattle.commit_gate.proofs.CommitWaits.{stopped, commit_waits}
use Rattle.commit_gate.proofs.gate.verdict_at.Goals as goal

pub returns-in-Go : goal.returns-in-Go
unfolding on_commit
returns-in-Go g c =
    let S = setup_of c.args.facts.now in
    let H = events_of c.args.facts.now in
    let n = c.args.n.0 in
    let t = c.args.t in
    let at = c.control_at-control.ensures.node_number in
    let valid : validate (row S.tree n).control S H n t.0 ≡ c.validate.result = sym (c.validate.ensures ∙ ap (λ (m : ℕ). validate (row S.tree m).control S H m t.0) at) in
    let named = c.gate.ensures ∙ ap (λ (m : ℕ). wait_for (find (gate (row S.tree m).control S H m t.0) (txns H))) at in
    let source = c.unfinished_source.ensures in
    c.first_of.ensures ∙ (λ j. first_wait (named j) (source j))
    ∙ commit_waits S H n t c.requires.asked.orderly c.args.sources.now c.requires.asked.read_from (gate (row S.tree n).control S H n t.0)
    ∙ sym (ap (λ (v : Verdict). or_else v (wait_for (find (λ u. gate (row S.tree n).control S H n t.0 u || (unfinished H u && meets S H n t.0 u && read_from H t.0 u)) (txns H)))) (valid ∙ c.in-Go.is))

pub returns-in_default : goal.returns-in_default
unfolding on_commit
returns-in_default g c =
    let S = setup_of c.args.facts.now in
    let H = events_of c.args.facts.now in
    let n = c.args.n.0 in
    let t = c.args.t in
    let at = c.control_at-control.ensures.node_number in
    let valid : c.validate.result ≡ validate (row S.tree n).control S H n t.0 = c.validate.ensures ∙ ap (λ (m : ℕ). validate (row S.tree m).control S H m t.0) at in
    let rest = wait_for (find (λ u. gate (row S.tree n).control S H n t.0 u || (unfinished H u && meets S H n t.0 u && read_from H t.0 u)) (txns H)) in
    stopped c.validate.result rest c.in_default.not-Go ∙ ap (λ (v : Verdict). or_else v rest) valid
