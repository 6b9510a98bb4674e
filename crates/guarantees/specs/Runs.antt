-- Runs that show where a guarantee ends. All are over the stores of `Shapes`, without rows.
use Rattle.std.specs.Prelude.{ℕ, List, [], ◌∷◌, pos}
use Rattle.teb_rules.specs.declared.names.Cell.{Cell}
use Rattle.teb_rules.specs.declared.names.Session.{Session}
use Rattle.teb_rules.specs.declared.names.Request.{Request}
use Rattle.teb_rules.specs.declared.names.Request.TheVariants.{Begin, Read, Write, Commit}

-- session s asks r
abbrev pub asks : ℕ → Request → Session × Request
asks s r = (record { 0 = s }, r)

-- a transaction of type k begins
abbrev pub begins : ℕ → Request
begins k = Begin (record { kind = record { 0 = k }; instance = 0 })

-- the one cell of table a
abbrev pub cell : ℕ → Cell
cell a = record { table = record { 0 = a }; key = 1 }

-- 1 keeps a batch of its side open; 2, of the other side, writes and commits; 3 begins after that, joins the open batch, reads and commits
abbrev pub late_joiner : List (Session × Request)
late_joiner = asks 1 (begins 0) ∷ asks 2 (begins 1) ∷ asks 2 (Write (cell 0) (pos 7)) ∷ asks 2 Commit ∷ asks 3 (begins 0) ∷ asks 3 (Read (cell 0)) ∷ asks 3 Commit ∷ []

-- 2 reads what 1 wrote, which is not committed
abbrev pub early_reader : List (Session × Request)
early_reader = asks 1 (begins 0) ∷ asks 1 (Write (cell 0) (pos 7)) ∷ asks 1 (Write (cell 1) (pos 7)) ∷ asks 2 (begins 0) ∷ asks 2 (Read (cell 0)) ∷ []

-- 1 has written and may write on; 2 is about to read
abbrev pub writer_underway : List (Session × Request)
writer_underway = asks 1 (begins 0) ∷ asks 1 (Write (cell 0) (pos 7)) ∷ asks 2 (begins 0) ∷ []
