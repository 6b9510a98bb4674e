-- One round: the unfinished transactions that read from t or from one that fell in the round before.
use Rattle.std.specs.Prelude.{ℕ, Bool, cond, ◌||◌, eqb, List, [], ◌∷◌, find, map, Option, Some, None}
use Rattle.std.specs.List.{list_any}
use Rattle.teb_rules.specs.declared.names.Txn.{Txn}
use Rattle.teb_rules.specs.declared.history.Event.{Event}
use Rattle.teb_rules.specs.Cascade.{cascade, blamed, txn}
use Rattle.dependency_book.specs.Books.{Lists, sources_in}

-- u is among those that fell
abbrev pub is_member : List (Txn × Txn) → ℕ → Bool
is_member fell u = list_any (λ p. eqb p.0.0 u) fell

-- the transaction that u falls with: the first of its sources that is t or fell; t itself has none
abbrev pub culprit : Lists → ℕ → List (Txn × Txn) → Txn → Option Txn
culprit b t fell u = cond (eqb u.0 t) None (find (λ w. eqb w.0 t || is_member fell w.0) (sources_in b u))

-- u with its culprit, before the others that fall
abbrev pub with_culprit : Txn → Option Txn → List (Txn × Txn) → List (Txn × Txn)
with_culprit u None rest = rest
with_culprit u (Some w) rest = (u, w) ∷ rest

-- those of the transactions us that fall
abbrev pub round_of : Lists → ℕ → List (Txn × Txn) → List Txn → List (Txn × Txn)
round_of b t fell [] = []
round_of b t fell (u ∷ us) = with_culprit u (culprit b t fell u) (round_of b t fell us)

-- the cascade of t, each with the one that it is blamed on
abbrev pub blames : List Event → ℕ → List (Txn × Txn)
blames H t = map (λ u. (txn u, txn (blamed H t u))) (cascade H t)
