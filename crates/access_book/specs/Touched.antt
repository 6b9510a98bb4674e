-- Accesses of transactions, each with its cell.
use Rattle.std.specs.Prelude.{ℕ, Bool, true, false, List, [], ◌∷◌}
use Rattle.std.specs.List.{count_by, list_any}
use Rattle.teb_rules.specs.declared.names.Cell.{Cell}
use Rattle.teb_rules.specs.names.Cells.{same_cell}
use Rattle.teb_rules.specs.declared.history.Event.{Event}
use Rattle.teb_rules.specs.declared.history.Event.TheVariants.{Got, Put}

-- an access: a read of a cell, or a put
pub data Touched : Type 0 where
  Reads : Cell → Touched
  Puts : Cell → Touched

-- it reads x, or it puts x
abbrev pub reads : Cell → Touched → Bool
reads x (Reads y) = same_cell y x
reads x (Puts y) = false

abbrev pub puts : Cell → Touched → Bool
puts x (Reads y) = false
puts x (Puts y) = same_cell y x

-- one of them reads x, or puts x
abbrev pub any_reads : Cell → List Touched → Bool
any_reads x zs = list_any (reads x) zs

abbrev pub any_puts : Cell → List Touched → Bool
any_puts x zs = list_any (puts x) zs

abbrev pub is_put : Touched → Bool
is_put (Reads y) = false
is_put (Puts y) = true

-- how many of them put something
abbrev pub puts_among : List Touched → ℕ
puts_among zs = count_by is_put zs

-- the accesses that events show, in their order
abbrev pub touched_in : List Event → List Touched
touched_in [] = []
touched_in (Got t x w v ∷ es) = Reads x ∷ touched_in es
touched_in (Put t x v ∷ es) = Puts x ∷ touched_in es
touched_in (_ ∷ es) = touched_in es
