use Rattle.std.proofs.Common.{◌≡◌, ◌<◌, ◌≤◌, [], ℕ, false, get_or}
use Rattle.teb_rules.specs.Setup.{among}
use Rattle.store_setup.proofs.profile.profile.Profile.cursor_after.Given as goal

abbrev pub invariant-loop-i : goal.invariant-loop-i
invariant-loop-i l = (k : ℕ) → l.cursor ≤ k → k < l.i → among l.table.0 (get_or l.self k []) ≡ false
