-- What is kept by number: a mark, or a list of numbers.
use Rattle.std.specs.Prelude.{ℕ, Bool, false, List, [], map, slice_index_or, Vec}
use Rattle.std.specs.declared.alloc.Global.{Global}

-- no number is marked past the end
abbrev pub is_marked : List Bool → ℕ → Bool
is_marked marks n = slice_index_or marks n false

-- the list of a number, empty past the end
abbrev pub list_at : List (Vec ℕ Global) → ℕ → List ℕ
list_at lists n = slice_index_or (map (λ l. l.items) lists) n []
