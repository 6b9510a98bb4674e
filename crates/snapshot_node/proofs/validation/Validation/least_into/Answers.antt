use Rattle.std.proofs.Common.{◌∙◌, not, refl, sym, ap, subst}
use Rattle.phase_api.specs.FactsView.{setup_of, events_of}
use Rattle.snapshot_node.specs.Pivots.{IsLeast, Leads, Reaches}
use Rattle.snapshot_node.proofs.Middles.{least_none}
use Rattle.snapshot_node.proofs.Known.{into_with, into_without}
use Rattle.snapshot_node.proofs.validation.Validation.least_into.Goals as goal

pub returns-then-is_none : goal.returns-then-is_none
returns-then-is_none c =
    let v = c.args.self.now in
    let S = setup_of v.asked.facts.now in
    let H = events_of v.asked.facts.now in
    let n = v.asked.register.now.node.0 in
    into_without S H n v.t c.args.c.0 c.into_aside-known.result c.into_aside-known.ensures
    (λ u x. least_none (Leads S H n v.t.0 v.t.0) c.args.own.ahead _ refl (c.is_none.ensures ∙ ap not c.if-is_none.true) c.requires.own.ahead u x.into)

pub returns-in-Some : goal.returns-in-Some
returns-in-Some c =
    let v = c.args.self.now in
    let S = setup_of v.asked.facts.now in
    let H = events_of v.asked.facts.now in
    let n = v.asked.register.now.node.0 in
    subst (IsLeast (Reaches S H n v.t.0 c.args.c.0)) (sym c.lesser.ensures)
    (into_with S H n v.t c.args.c.0 c.into_aside-known.result _ c.into_aside-known.ensures c.in-Some.ensures)

pub returns-in-None : goal.returns-in-None
returns-in-None c =
    let v = c.args.self.now in
    into_without (setup_of v.asked.facts.now) (events_of v.asked.facts.now) v.asked.register.now.node.0 v.t c.args.c.0 c.into_aside-known.result c.into_aside-known.ensures c.in-None.ensures
