-- What versions need to follow the history.
use Rattle.std.specs.Prelude.{◌≡◌, ◌≤◌, ℕ, List, length, slice_get, Some, IsTrue}
use Rattle.teb_rules.specs.declared.names.Cell.{Cell}
use Rattle.teb_rules.specs.declared.history.Event.{Event}
use Rattle.teb_rules.specs.declared.history.Event.TheVariants.{Put}
use Rattle.teb_rules.specs.Setup.{Setup}
use Rattle.version_chain.specs.Lists.{Version, writers_of, is_writer}
use Rattle.phase_api.specs.Versions.{IsPlaceOf}
use Rattle.candidate_reads.specs.declared.placing.Place.{Place}

-- if the event is a Put: the place is within the chain, it is that of the transaction's version, if it has one, and it tells whether it has
abbrev pub HasPlace : (Cell → List Version) → Event → Place → Type 0
HasPlace L (Put t x v) p = (p.at ≤ length (L x)) × (IsTrue (is_writer (L x) t.0) → slice_get (writers_of (L x)) p.at ≡ Some t.0) × (p.is_there ≡ is_writer (L x) t.0)
HasPlace L _ p = Unit {0}

-- and it is the place in version order
abbrev pub PutsAt : Setup → List Event → (Cell → List Version) → Event → Place → Type 0
PutsAt S P L (Put t x v) p = IsPlaceOf S P x t.0 p.at (writers_of (L x))
PutsAt S P L _ p = Unit {0}

-- the place that t's version of x has, or would have, in version order, and whether it is there
pub record IsPlaced (S : Setup) (H : List Event) (L : Cell → List Version) (t : ℕ) (x : Cell) (p : Place) : Type 0 where
  pub place : IsPlaceOf S H x t p.at (writers_of (L x))
  pub own : IsTrue (is_writer (L x) t) → slice_get (writers_of (L x)) p.at ≡ Some t
  pub there : p.is_there ≡ is_writer (L x) t
