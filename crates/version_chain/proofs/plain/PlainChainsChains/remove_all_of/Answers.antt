use Rattle.std.proofs.Common.{ap, sym, subst, ◌∙◌, arith}
use Rattle.version_chain.specs.Lists.{without}
use Rattle.version_chain.specs.Plain.{Plain}
use Rattle.version_chain.specs.Stored.{of_cell, IsSortedByCell}
use Rattle.version_chain.proofs.Ranges.{of_cell-filter, sorted-filter}
use Rattle.version_chain.proofs.plain.PlainChainsChains.remove_all_of.Goals as goal

pub invariant_of-self : goal.invariant_of-self
invariant_of-self c = record {
  sorted = subst IsSortedByCell (sym c.keep_others.ensures.items) (sorted-filter _ c.self.inside.versions.items c.self.invariant.sorted);
  room = omega (arith, c.self.invariant.room, c.keep_others.ensures.len, c.keep_others.ensures.capacity);
}

pub returns-clause-lists : goal.returns-clause-lists
returns-clause-lists c x =
    ap (of_cell x) c.keep_others.ensures.items
    ∙ (of_cell-filter x c.args.t.0 c.self.inside.versions.items ∙ ap (λ (v : Plain). without c.args.t.0 (of_cell x v.versions)) c.self.view_is)
