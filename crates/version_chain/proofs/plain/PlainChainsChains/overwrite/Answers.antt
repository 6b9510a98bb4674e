use Rattle.std.proofs.Common.{ap, sym, subst, ◌∙◌, arith, ◌≡◌, ◌<◌, List, length}
use Rattle.version_chain.specs.declared.sorted.Stored.{Stored}
use Rattle.version_chain.specs.Lists.{set_value}
use Rattle.version_chain.specs.Plain.{Plain}
use Rattle.version_chain.specs.Stored.{of_cell, IsRange}
use Rattle.version_chain.proofs.Ranges.{of_cell-set, of_cell-set_other, sorted-set, length-of_cell}
use Rattle.version_chain.proofs.plain.PlainChainsChains.overwrite.Goals as goal

pub overflow_add-start : goal.overflow_add-start
overflow_add-start c =
    let r = subst (λ (l : List Stored). IsRange l c.args.cell c.range_of-start.result.0 c.range_of-start.result.1) c.deref.ensures.value c.range_of-start.ensures in
    let within = subst (λ (v : Plain). c.args.i < length (of_cell c.args.cell v.versions)) (sym c.self.view_is) c.requires in
    let n = length-of_cell c.self.inside.versions.items c.args.cell _ _ r in
    omega (arith, r.within, within, n)

pub index_mut-requires : goal.index_mut-requires
index_mut-requires c =
    let r = subst (λ (l : List Stored). IsRange l c.args.cell c.range_of-start.result.0 c.range_of-start.result.1) c.deref.ensures.value c.range_of-start.ensures in
    let within = subst (λ (v : Plain). c.args.i < length (of_cell c.args.cell v.versions)) (sym c.self.view_is) c.requires in
    let n = length-of_cell c.self.inside.versions.items c.args.cell _ _ r in
    omega (arith, r.within, within, n)

pub invariant_of-self : goal.invariant_of-self
invariant_of-self c =
    let r = subst (λ (l : List Stored). IsRange l c.args.cell c.range_of-start.result.0 c.range_of-start.result.1) c.deref.ensures.value c.range_of-start.ensures in
    let within = subst (λ (v : Plain). c.args.i < length (of_cell c.args.cell v.versions)) (sym c.self.view_is) c.requires in
    let n = length-of_cell c.self.inside.versions.items c.args.cell _ _ r in
    let is = c.index_mut.ensures.value in
    record {
      sorted = sorted-set c.self.inside.versions.items _ _ c.index_mut.result.now (omega (arith, r.within, within, n)) (ap (λ (v : Stored). v.cell) (sym is)) c.self.invariant.sorted;
      room = c.self.invariant.room;
    }

pub returns-clause-here : goal.returns-clause-here
returns-clause-here c =
    let r = subst (λ (l : List Stored). IsRange l c.args.cell c.range_of-start.result.0 c.range_of-start.result.1) c.deref.ensures.value c.range_of-start.ensures in
    let within = subst (λ (v : Plain). c.args.i < length (of_cell c.args.cell v.versions)) (sym c.self.view_is) c.requires in
    let n = length-of_cell c.self.inside.versions.items c.args.cell _ _ r in
    let is = c.index_mut.ensures.value in
    of_cell-set c.self.inside.versions.items c.args.cell _ _ r c.args.i _ c.index_mut.result.now (ap (λ (v : Stored). v.cell) is ∙ r.here _ _ (omega arith) (omega (arith, within, n)))
    (ap (λ (v : Stored). v.writer) is) (omega (arith, within, n))
    ∙ ap (λ (v : Plain). set_value c.args.i c.args.value (of_cell c.args.cell v.versions)) c.self.view_is

pub returns-clause-elsewhere : goal.returns-clause-elsewhere
returns-clause-elsewhere c x other =
    let r = subst (λ (l : List Stored). IsRange l c.args.cell c.range_of-start.result.0 c.range_of-start.result.1) c.deref.ensures.value c.range_of-start.ensures in
    let within = subst (λ (v : Plain). c.args.i < length (of_cell c.args.cell v.versions)) (sym c.self.view_is) c.requires in
    let n = length-of_cell c.self.inside.versions.items c.args.cell _ _ r in
    let is = c.index_mut.ensures.value in
    let mine : c.index_mut.result.now.cell ≡ c.args.cell = ap (λ (v : Stored). v.cell) is ∙ r.here _ _ (omega arith) (omega (arith, within, n)) in
    of_cell-set_other x c.self.inside.versions.items _ _ c.index_mut.result.now (rw mine other) (ap (λ (v : Stored). v.cell) (sym is))
    ∙ ap (λ (v : Plain). of_cell x v.versions) c.self.view_is
