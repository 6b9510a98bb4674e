use Rattle.std.proofs.Common.{ap, sym, subst, refl, ◌∙◌, arith, ◌≤◌, List, length, insert}
use Rattle.version_chain.specs.declared.sorted.Stored.{Stored}
use Rattle.version_chain.specs.Plain.{Plain}
use Rattle.version_chain.specs.Stored.{of_cell, IsSortedByCell, IsRange}
use Rattle.version_chain.proofs.Ranges.{of_cell-insert, of_cell-insert_other, sorted-insert, length-of_cell}
use Rattle.version_chain.proofs.plain.PlainChainsChains.place.Goals as goal

pub overflow_add-start : goal.overflow_add-start
overflow_add-start c =
    let r = subst (λ (l : List Stored). IsRange l c.args.cell c.range_of-start.result.0 c.range_of-start.result.1) c.deref.ensures.value c.range_of-start.ensures in
    let within = subst (λ (v : Plain). c.args.i ≤ length (of_cell c.args.cell v.versions)) (sym c.self.view_is) c.requires.within in
    let n = length-of_cell c.self.inside.versions.items c.args.cell _ _ r in
    omega (arith, r.within, within, n)

pub put_in-requires-clause-within : goal.put_in-requires-clause-within
put_in-requires-clause-within c =
    let r = subst (λ (l : List Stored). IsRange l c.args.cell c.range_of-start.result.0 c.range_of-start.result.1) c.deref.ensures.value c.range_of-start.ensures in
    let within = subst (λ (v : Plain). c.args.i ≤ length (of_cell c.args.cell v.versions)) (sym c.self.view_is) c.requires.within in
    let n = length-of_cell c.self.inside.versions.items c.args.cell _ _ r in
    omega (arith, r.within, within, n)

pub invariant_of-self : goal.invariant_of-self
invariant_of-self c =
    let r = subst (λ (l : List Stored). IsRange l c.args.cell c.range_of-start.result.0 c.range_of-start.result.1) c.deref.ensures.value c.range_of-start.ensures in
    let within = subst (λ (v : Plain). c.args.i ≤ length (of_cell c.args.cell v.versions)) (sym c.self.view_is) c.requires.within in
    let n = length-of_cell c.self.inside.versions.items c.args.cell _ _ r in
    record {
      sorted = subst IsSortedByCell (sym c.put_in.ensures.items) (sorted-insert c.self.inside.versions.items c.args.cell _ _ r c.self.invariant.sorted c.args.i _ refl (omega (arith, within, n)));
      room = omega (arith, c.self.invariant.room, c.put_in.ensures.len, c.put_in.ensures.capacity, ap (λ (v : Plain). v.spare) c.self.view_is, c.requires.room);
    }

pub returns-clause-here : goal.returns-clause-here
returns-clause-here c =
    let r = subst (λ (l : List Stored). IsRange l c.args.cell c.range_of-start.result.0 c.range_of-start.result.1) c.deref.ensures.value c.range_of-start.ensures in
    let within = subst (λ (v : Plain). c.args.i ≤ length (of_cell c.args.cell v.versions)) (sym c.self.view_is) c.requires.within in
    let n = length-of_cell c.self.inside.versions.items c.args.cell _ _ r in
    ap (of_cell c.args.cell) c.put_in.ensures.items
    ∙ (of_cell-insert c.self.inside.versions.items c.args.cell _ _ r c.args.i _ refl (omega (arith, within, n))
    ∙ ap (λ (v : Plain). insert (of_cell c.args.cell v.versions) c.args.i (c.args.t, c.args.value)) c.self.view_is)

pub returns-clause-elsewhere : goal.returns-clause-elsewhere
returns-clause-elsewhere c x other =
    ap (of_cell x) c.put_in.ensures.items
    ∙ (of_cell-insert_other x c.self.inside.versions.items _ _ other ∙ ap (λ (v : Plain). of_cell x v.versions) c.self.view_is)
