-- Squares of booleans over the tables, a row for each table, with its booleans as the bits of a number.
use Rattle.std.specs.Prelude.{ℕ, zero, suc, Bool, not, ◌&&◌, ◌||◌, eqb, List, length, get_or, filter, map}
use Rattle.std.specs.Int.{bit_at}
use Rattle.teb_rules.specs.Tree.{below}
use Rattle.teb_rules.specs.Steps.{greatest}

-- table a is in a set
unfoldable pub is_in : ℕ → ℕ → Bool
is_in set a = eqb (bit_at set a) 1

-- the row of a has b
unfoldable pub leads_in : List ℕ → ℕ → ℕ → Bool
leads_in rows a b = is_in (get_or rows a 0) b

-- a leads to b, through tables below m
unfoldable pub closure : (ℕ → ℕ → Bool) → ℕ → ℕ → ℕ → Bool
closure r zero a b = r a b
closure r (suc m) a b = closure r m a b || (closure r m a m && closure r m m b)

-- the row of a has b, and that of b does not have a
abbrev pub is_ahead : List ℕ → ℕ → ℕ → Bool
is_ahead rows b a = leads_in rows a b && not (leads_in rows b a)

unfoldable pub ahead_in : List ℕ → ℕ → List ℕ
ahead_in rows b = filter (is_ahead rows b) (below (length rows))

-- the length of the longest chain to b, of at most d links
unfoldable pub longest_in : List ℕ → ℕ → ℕ → ℕ
longest_in rows zero b = 0
longest_in rows (suc d) b = greatest (map (λ a. suc (longest_in rows d a)) (ahead_in rows b))
