use Rattle.std.proofs.Common.{◌≡◌, ◌≤◌, ℕ, replicate, get_or, inl, inr, sym, subst}
use Rattle.std.proofs.lemmas.Bool.{cases_lt}
use Rattle.std.proofs.lemmas.List.{get_or-replicate, length-replicate}
use Rattle.std.proofs.Math.ListN.{get_or-eq_default}
use Rattle.teb_rules.specs.declared.names.Txn.{Txn}
use Rattle.engine_core.specs.Latest.{latest_txn}
use Rattle.engine_core.proofs.latest_txns.LatestTxns.new.Goals as goal

-- every element of a replicated list is the transaction that was replicated
alike : (n : ℕ) (t : Txn) (s : ℕ) → get_or (replicate n t) s t ≡ t
alike n t s = elim (cases_lt s n) [
  | inl l ↦ get_or-replicate n s t t l
  | inr l ↦ get_or-eq_default (replicate n t) t (subst (λ (k : ℕ). k ≤ s) (sym (length-replicate n t)) l)
]

pub returns : goal.returns
unfolding latest_txn
returns c = λ s. alike 256 (record { 0 = 0 }) s
