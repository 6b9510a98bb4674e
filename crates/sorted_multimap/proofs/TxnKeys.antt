-- Transactions as keys.
use Rattle.std.proofs.Common.{◌≡◌, ℕ, true, eqb, ap, arith}
use Rattle.std.proofs.lemmas.Bool.{eqb-true}
use Rattle.std.proofs.lemmas.Bool.Decides.{nat_tests}
use Rattle.std.specs.Ordering.{is_eq, nat_cmp}
use Rattle.teb_rules.specs.declared.names.Txn.{Txn}

-- two numbers tie if and only if they are equal
pub eqb-is_eq : (m n : ℕ) → eqb m n ≡ is_eq (nat_cmp m n)
eqb-is_eq m n = grind (arith, nat_tests)

pub one_txn : (t u : Txn) → eqb t.0 u.0 ≡ true → t ≡ u
one_txn t u h = ap (λ (n : ℕ). record { 0 = n }) (eqb-true t.0 u.0 h)
