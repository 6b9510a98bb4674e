use Rattle.std.proofs.Common.{sym, ◌∙◌, subst}
use Rattle.teb_rules.specs.declared.history.Event.{Event}
use Rattle.engine_core.specs.Keeping.{HasPlace}
use Rattle.engine_core.proofs.VersionSteps.{place_within, after_overwrite, after_place, after_removal, after_others}
use Rattle.engine_core.proofs.keeping.keep_versions.Goals as goal

pub overwrite-requires : goal.overwrite-requires
overwrite-requires g c =
    let p = subst (λ (e : Event). HasPlace (g.C.Chains.lists c.args.chains.now) e c.args.place) c.in-Put.is c.requires.place in
    place_within _ c.args.place.at c.in-Put.txn.0 (p.1 (sym p.2 ∙ c.if-place.true))

pub place-requires-clause-absent : goal.place-requires-clause-absent
place-requires-clause-absent g c =
    let p = subst (λ (e : Event). HasPlace (g.C.Chains.lists c.args.chains.now) e c.args.place) c.in-Put.is c.requires.place in
    sym p.2 ∙ c.if-place.false

pub returns-then-place-clause-versions : goal.returns-then-place-clause-versions
returns-then-place-clause-versions g c =
    λ S P a l h q.
    let p = subst (λ (e : Event). HasPlace (g.C.Chains.lists c.args.chains.now) e c.args.place) c.in-Put.is c.requires.place in
    after_overwrite c.args.event c.args.place _ _ S P a l h c.in-Put.txn c.in-Put.cell c.in-Put.value c.in-Put.is (p.1 (sym p.2 ∙ c.if-place.true)) c.overwrite.ensures.here
    c.overwrite.ensures.elsewhere

pub returns-else-place-clause-versions : goal.returns-else-place-clause-versions
returns-else-place-clause-versions g c = λ S P a l h q.
    let p = subst (λ (e : Event). HasPlace (g.C.Chains.lists c.args.chains.now) e c.args.place) c.in-Put.is c.requires.place in
    after_place c.args.event c.args.place _ _ S P a l h c.in-Put.txn c.in-Put.cell c.in-Put.value c.in-Put.is (sym p.2 ∙ c.if-place.false) q c.place.ensures.here c.place.ensures.elsewhere

pub returns-in-Gone-clause-versions : goal.returns-in-Gone-clause-versions
returns-in-Gone-clause-versions g c = λ S P a l h q. after_removal c.args.event c.args.place _ _ S P a l h c.in-Gone.txn c.in-Gone.cause c.in-Gone.is c.remove_all_of.ensures.lists

pub returns-in_default-clause-versions : goal.returns-in_default-clause-versions
returns-in_default-clause-versions g c = λ S P a l h q. after_others c.args.event _ S P a l h c.in_default.not-Put c.in_default.not-Gone
