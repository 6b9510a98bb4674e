use Rattle.std.proofs.Common.{subst, sym, ◌∙◌}
use Rattle.teb_rules.specs.Epochs.{IsDrained}
use Rattle.tebaldi_c.specs.Contents.{state_of}
use Rattle.tebaldi_c.specs.SetUp.{IsSetUp}
use Rattle.tebaldi_c.specs.Shelves.{ShelfState}
use Rattle.tebaldi_c.specs.declared.contents.Contents.{Contents}
use Rattle.tebaldi_c.proofs.shelf.Shelf.end_epoch.Goals as goal
use Rattle.tebaldi_c.proofs.shelf.Shelf.end_epoch.Goals.{in-Memory, in-File}

abbrev Whole : Contents → Type 0
Whole x = IsSetUp (state_of x).engine.store (state_of x).engine.names

pub invariant_of-self : goal.invariant_of-self
invariant_of-self c = elim c.match-self.branch [
  | in-Memory w ↦ subst (λ (s : _). Whole s.contents) (sym w.self-inside-is) (w.end_epoch.ensures.set_up (subst Whole w.in-Memory.is c.self.invariant))
  | in-File w ↦ subst (λ (s : _). Whole s.contents) (sym w.self-inside-is) (w.end_file_epoch.ensures.set_up (subst Whole w.in-File.is c.self.invariant))
]

abbrev Drained : ShelfState → Type 0
Drained s = IsDrained s.engine.events

pub returns-clause-drained_tables : goal.returns-clause-drained_tables
returns-clause-drained_tables c is = subst Drained c.self.view_is (elim c.match-self.branch [
  | in-Memory w ↦ subst (λ (x : Contents). Drained (state_of x)) (sym w.in-Memory.is) (w.end_epoch.ensures.drained_tables (sym w.result-is ∙ is))
  | in-File w ↦ subst (λ (x : Contents). Drained (state_of x)) (sym w.in-File.is) (w.end_file_epoch.ensures.drained_tables (sym w.result-is ∙ is))
])
