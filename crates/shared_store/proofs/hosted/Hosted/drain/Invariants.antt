use Rattle.std.specs.Prelude.{◌≡◌}
use Rattle.shared_store.specs.Turning.{AddsForOthers}
use Rattle.shared_store.proofs.hosted.Hosted.drain.Given as goal

abbrev pub invariant-loop : goal.invariant-loop
invariant-loop g l = AddsForOthers l.by.0 l.fn.self.entries.items l.self.entries.items × (l.self.first ≡ l.fn.self.first)
