use Rattle.std.specs.Prelude.{◌≡◌}
use Rattle.shared_store.specs.Ending.{AddsNoCalls}
use Rattle.shared_store.specs.Lives.{taken_of}
use Rattle.shared_store.proofs.hosted.Hosted.end_all.Given as goal

abbrev pub invariant-loop-i : goal.invariant-loop-i
invariant-loop-i g l = AddsNoCalls l.fn.self.entries.items l.self.entries.items × (taken_of l.self.entries.items ≡ taken_of l.fn.self.entries.items) × (l.self.first ≡ l.fn.self.first)
