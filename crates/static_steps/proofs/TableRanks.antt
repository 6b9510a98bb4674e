-- The longest chains in the closed rows of the arrows are the ranks of the tables.
use Rattle.std.proofs.Common.{◌≡◌, ℕ, ◌<◌, List, length, get_or, ◌∙◌, subst, arith}
use Rattle.teb_rules.specs.Steps.{arrow, reaches, table_rank}
use Rattle.static_steps.specs.Squares.{leads_in, closure, longest_in}
use Rattle.static_steps.proofs.Closures.{closure_reaches}
use Rattle.static_steps.proofs.LongestChains.{longest_in-is}

pub ranks_are : (ps : List (List (List ℕ))) (m : ℕ) (rows closed list : List ℕ) → length rows ≡ m → length closed ≡ m →
    ((a b : ℕ) → leads_in rows a b ≡ arrow ps a b) →
    ((a b : ℕ) → leads_in closed a b ≡ closure (leads_in rows) (length rows) a b) →
    length list ≡ length closed →
    ((b : ℕ) → b < length closed → get_or list b 0 ≡ longest_in closed (length closed) b) →
    (length list ≡ m) × ((a : ℕ) → a < m → get_or list a 0 ≡ table_rank ps m a)
unfolding table_rank
ranks_are ps m rows closed list rows_long closed_long arrows close list_long chains = (
  list_long ∙ closed_long,
  (λ a lt.
      let found : get_or list a 0 ≡ longest_in closed m a = subst (λ (n : ℕ). get_or list a 0 ≡ longest_in closed n a) closed_long (chains a (omega arith)) in
      found ∙ longest_in-is ps closed m closed_long reach m a),
)
  where
    reach : (a b : ℕ) → leads_in closed a b ≡ reaches ps m a b
    reach a b = subst (λ (n : ℕ). leads_in closed a b ≡ reaches ps n a b) rows_long (close a b ∙ closure_reaches ps (leads_in rows) arrows (length rows) a b)
