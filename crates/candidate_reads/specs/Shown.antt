-- What the nodes of a path show to a reader.
use Rattle.std.specs.Prelude.{ℕ, Bool, ◌&&◌, max, List, Option, Some, None}
use Rattle.teb_rules.specs.declared.names.Cell.{Cell}
use Rattle.teb_rules.specs.declared.history.Event.{Event}
use Rattle.teb_rules.specs.Setup.{Setup}
use Rattle.teb_rules.specs.Tree.{row, meets}
use Rattle.teb_rules.specs.Versions.{sees_by}

-- t meets w at n, and sees its version of x there
unfoldable pub shows : Setup → List Event → ℕ → Cell → ℕ → ℕ → Bool
shows S H n x t w = meets S H n t w && sees_by (row S.tree n).control S H n x t w

-- the later of two places
abbrev pub later : Option ℕ → Option ℕ → Option ℕ
later None q = q
later (Some i) None = Some i
later (Some i) (Some j) = Some (max i j)
