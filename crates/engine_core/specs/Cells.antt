-- The cells of a scan.
use Rattle.std.specs.Prelude.{ℕ, ◌+◌, ◌^◌, ◌≤◌}
use Rattle.teb_rules.specs.declared.names.Cell.{Cell}

-- the cell whose key is i greater than that of x
abbrev pub cell_at : Cell → ℕ → Cell
cell_at x i = record { table = x.table; key = x.key + i }

-- the n cells from x on are at most 16, and each of them has a key
abbrev pub HasKeys : Cell → ℕ → Type 0
HasKeys x n = (n ≤ 16) × (x.key + n ≤ 2 ^ 32)
