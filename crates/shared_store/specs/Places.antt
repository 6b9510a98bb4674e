-- Which front turn a log belongs to, and where the life there begins.
use Rattle.std.specs.Prelude.{Option, None, []}
use Rattle.atomic_table.specs.Seated.{TableId}
use Rattle.shared_store.specs.Stages.{Stage}

pub record Place : Type 0 where
  pub table : TableId
  pub first : Option Stage

-- no turn
abbrev pub no_place : Place
no_place = record { table = record { words = 0; slots = 0; views_name = 0; atom = 0; block = 0; offset = 0; slot_names = [] }; first = None }
