-- What a node shows follows from the answers of its control; a transaction with a version has put the cell and is not aborted.
use Rattle.std.proofs.Common.{◌≡◌, ℕ, Bool, true, false, List, sym, ◌∙◌, refl}
use Rattle.std.proofs.lemmas.Bool.{and_parts, not-true}
use Rattle.teb_rules.specs.declared.names.Cell.{Cell}
use Rattle.teb_rules.specs.declared.history.Event.{Event}
use Rattle.teb_rules.specs.history.Phases.{aborted}
use Rattle.teb_rules.specs.history.Accesses.{wrote}
use Rattle.teb_rules.specs.Setup.{Setup}
use Rattle.teb_rules.specs.Tree.{row, meets}
use Rattle.teb_rules.specs.Versions.{sees_by}
use Rattle.phase_api.specs.Versions.{has_version}
use Rattle.candidate_reads.specs.Shown.{shows}

pub shows_met : (S : Setup) (H : List Event) (n : ℕ) (x : Cell) (t w : ℕ) (m r : Bool) → m ≡ meets S H n t w → m ≡ true → r ≡ sees_by (row S.tree n).control S H n x t w → r ≡ shows S H n x t w
unfolding shows
shows_met S H n x t w m r e h k = rw (sym e ∙ h) k

pub shows_not : (S : Setup) (H : List Event) (n : ℕ) (x : Cell) (t w : ℕ) (m : Bool) → m ≡ meets S H n t w → m ≡ false → m ≡ shows S H n x t w
unfolding shows
shows_not S H n x t w m e h = h ∙ rw (sym e ∙ h) refl

pub version_parts : (H : List Event) (x : Cell) (w : ℕ) → has_version H x w ≡ true → (wrote H w x ≡ true) × (aborted H w ≡ false)
version_parts H x w h = let p = and_parts _ _ h in (p.0, not-true _ p.1)
