-- An engine whose commits wait for a journal elsewhere.
use Rattle.std.specs.Prelude.{ℕ, List}
use Rattle.record_journal.specs.Format.{Record}

-- what contracts see of it: the engine, the records of the commits that wait, the oldest first, and how many bytes of the journal's half are
-- left beside them
pub record Queue (E : Type 0) : Type 0 where
  pub engine : E
  pub waiting : List Record
  pub left : ℕ
