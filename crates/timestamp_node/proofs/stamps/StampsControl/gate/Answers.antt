use Rattle.std.proofs.Common.{◌∙◌, List, None, find, sym, ap}
use Rattle.teb_rules.specs.declared.names.Txn.{Txn}
use Rattle.phase_api.specs.FactsView.{setup_of, events_of}
use Rattle.access_conflicts.proofs.Blockers.{find_here, find_end}
use Rattle.timestamp_node.proofs.Said.{holds_back, gate_open, gate_found}
use Rattle.timestamp_node.proofs.stamps.StampsControl.gate.Goals as goal

pub returns-then-not-self : goal.returns-then-not-self
returns-then-not-self c = gate_open (setup_of c.args.facts.now) (events_of c.args.facts.now) c.args.self.now.node.0 c.requires.stands.kind c.args.t.0
    (sym c.if-not-self.true ∙ c.requires.stands.ordered)

pub returns-then-holds_back : goal.returns-then-holds_back
returns-then-holds_back c =
    let S = setup_of c.args.facts.now in
    let H = events_of c.args.facts.now in
    let n = c.args.self.now.node.0 in
    let p = λ (u : Txn). holds_back S H n c.args.t.0 u.0 in
    let us = c.live-u-items.result.now in
    let found = find_here p us c.loop-u.u-index (record { 0 = 0 }) c.loop-u-test.true (sym c.holds_back.ensures ∙ c.if-holds_back.true) c.loop-u.invariant in
    gate_found S H n c.requires.stands.kind c.args.t.0 c.requires.stands.orderly (sym c.if-not-self.false ∙ c.requires.stands.ordered) _
    (found ∙ ap (λ (l : List Txn). find p l) c.live-u-items.ensures)

pub returns : goal.returns
returns c =
    let S = setup_of c.args.facts.now in
    let H = events_of c.args.facts.now in
    let n = c.args.self.now.node.0 in
    let p = λ (u : Txn). holds_back S H n c.args.t.0 u.0 in
    let none = find_end p c.live-u-items.result.now c.loop-u.u-index c.loop-u-test.false c.loop-u.invariant in
    gate_found S H n c.requires.stands.kind c.args.t.0 c.requires.stands.orderly (sym c.if-not-self.false ∙ c.requires.stands.ordered) None
    (none ∙ ap (λ (l : List Txn). find p l) c.live-u-items.ensures)
