-- Lists by number.
use Rattle.std.specs.Prelude.{ℕ, List, [], map, get_or}
use Rattle.arena_multimap.specs.declared.arena.Arena.{Arena}
use Rattle.arena_multimap.specs.Arenas.{values_at, IsArena, HasRoom}

-- what contracts see: the lists, and for how many more beginnings and values there is room
pub record Shown (V : Type 0) : Type 0 where
  pub lists : List (List V)
  pub spare : ℕ

-- list i; empty if there is no such list
abbrev pub list_in : {V : Type 0} → List (List V) → ℕ → List V
list_in ls i = get_or ls i []

-- the lists of an arena
abbrev pub all_lists : {V : Type 0} → Arena V → List (List V)
all_lists a = map (values_at a.values.items) a.segments.items

-- lists with room for n more beginnings and values
pub record IsNumbered {V : Type 0} (a : Arena V) (n : ℕ) : Type 0 where
  pub sound : IsArena a
  pub room : HasRoom a n
