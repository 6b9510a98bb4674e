-- What it means that chains hold the versions of a history.
use Rattle.std.specs.Prelude.{◌≡◌, ◌⊎◌, ◌≤◌, ◌<◌, ℕ, Bool, true, false, not, ◌&&◌, eqb, List, [], ◌∷◌, length, slice_get, Option, Some, None, IsTrue, IsFalse}
use Rattle.std.specs.List.{list_any}
use Rattle.teb_rules.specs.declared.names.Cell.{Cell}
use Rattle.teb_rules.specs.names.Cells.{same_cell}
use Rattle.teb_rules.specs.declared.history.Event.{Event}
use Rattle.teb_rules.specs.declared.history.Event.TheVariants.{Got}
use Rattle.teb_rules.specs.history.Phases.{aborted}
use Rattle.teb_rules.specs.history.Accesses.{wrote, last_put}
use Rattle.teb_rules.specs.Setup.{Setup}
use Rattle.teb_rules.specs.Tree.{row, is_timestamp}
use Rattle.teb_rules.specs.Versions.{precedes}
use Rattle.teb_rules.specs.Serializes.{Pairs}
use Rattle.version_chain.specs.Lists.{Version, writers_of, is_writer}

-- w has a version of x: it has put x and is not aborted
abbrev pub has_version : List Event → Cell → ℕ → Bool
has_version H x w = wrote H w x && not (aborted H w)

-- each version has the value that its writer put last
abbrev pub HaveLastValues : List Event → Cell → List Version → Type 0
HaveLastValues H x [] = Unit {0}
HaveLastValues H x (v ∷ vs) = (last_put H v.0.0 x ≡ Some v.1) × HaveLastValues H x vs

-- the list of each cell has the writers that have a version, each once, in version order, each with its last value
pub record HoldsVersions (S : Setup) (H : List Event) (lists : Cell → List Version) : Type 0 where
  pub writers : (x : Cell) (w : ℕ) → is_writer (lists x) w ≡ has_version H x w
  pub values : (x : Cell) → HaveLastValues H x (lists x)
  pub order : (x : Cell) → Pairs (λ u w. (precedes S H x u w ≡ true) × (precedes S H x w u ≡ false)) (writers_of (lists x))

-- t's version of x, there or about to be, has place `at` among the writers ws: those before it precede t, and none from there on does
pub record IsPlaceOf (S : Setup) (H : List Event) (x : Cell) (t at : ℕ) (ws : List ℕ) : Type 0 where
  pub within : at ≤ length ws
  pub before : (i w : ℕ) → i < at → slice_get ws i ≡ Some w → precedes S H x w t ≡ true
  pub behind : (i w : ℕ) → at ≤ i → slice_get ws i ≡ Some w → precedes S H x w t ≡ false

-- what node n is told of the place of t's version of x: a timestamp node is told it
abbrev pub IsToldPlace : Setup → List Event → ℕ → Cell → ℕ → Option ℕ → List ℕ → Type 0
IsToldPlace S H n x t (Some at) ws = IsPlaceOf S H x t at ws
IsToldPlace S H n x t None ws = IsFalse (is_timestamp (row S.tree n).control)

-- the event is a Got of x by u, from w
abbrev pub reads_from : ℕ → Cell → ℕ → Event → Bool
reads_from u x w (Got s y v c) = eqb s.0 u && same_cell y x && eqb v.0 w
reads_from u x w _ = false

-- each transaction that is not aborted has read x from the starting row, or from a writer that has a version
abbrev pub SourcesStand : List Event → Cell → Type 0
SourcesStand H x = (u w : ℕ) → IsFalse (aborted H u) → IsTrue (list_any (reads_from u x w) H) → (w ≡ 0) ⊎ IsTrue (has_version H x w)
