use Rattle.std.proofs.Common.{◌≡◌, ◌≤◌, ◌∙◌, ℕ, List, length, reverse, sym, ap, subst, arith}
use Rattle.std.proofs.lemmas.List.{length-reverse}
use Rattle.teb_rules.specs.declared.history.Event.{Event}
use Rattle.teb_rules.specs.declared.history.standing.Standing.{Standing}
use Rattle.teb_rules.specs.history.OwnEvents.{own_events, own_end, own_before, IsLinked}
use Rattle.teb_rules.specs.history.Written.{Written}
use Rattle.teb_rules.proofs.lemmas.history.Chains.{own_end-le, newest_own-end}
use Rattle.teb_rules.proofs.history.history.History.own_events.Goals as goal

pub new-requires : goal.new-requires
new-requires c =
    let events = c.deref.ensures.value in
    let previous = c.deref-2.ensures.value in
    let at : c.standing.result.end ≡ own_end (reverse c.self.inside.events.items) c.args.t.0 = ap (λ (r : Standing). r.end) c.standing.ensures ∙ ap (λ (w : Written). own_end w.events c.args.t.0)
    (sym c.self.view_is) in
    let short : c.standing.result.end ≤ length c.self.inside.events.items = omega (arith, at, own_end-le (reverse c.self.inside.events.items) c.args.t.0, length-reverse c.self.inside.events.items) in
    let linked : IsLinked c.self.inside.events.items c.self.inside.previous.items c.standing.result.end = record { links = c.self.invariant.kept.links; within = short } in
    subst (λ (es : List Event). IsLinked es c.deref-2.result.now c.standing.result.end) (sym events)
    (subst (λ (ps : List ℕ). IsLinked c.self.inside.events.items ps c.standing.result.end) (sym previous) linked)

pub returns : goal.returns
returns c =
    let at = ap (λ (r : Standing). r.end) c.standing.ensures ∙ ap (λ (w : Written). own_end w.events c.args.t.0) (sym c.self.view_is) in
    c.new.ensures ∙ (λ j. own_before (c.deref.ensures.value j) (at j)) ∙ newest_own-end (reverse c.self.inside.events.items) c.args.t.0
    ∙ ap (λ (w : Written). own_events w.events c.args.t.0) c.self.view_is
