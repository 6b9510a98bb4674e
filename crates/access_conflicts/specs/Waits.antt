-- A transaction that was found, and a wait for it.
use Rattle.std.specs.Prelude.{ℕ, Option, Some, None}
use Rattle.teb_rules.specs.declared.names.Txn.{Txn}
use Rattle.teb_rules.specs.declared.Verdict.{Verdict}
use Rattle.teb_rules.specs.declared.Verdict.TheVariants.{Go, Wait}

abbrev pub some_txn : Option ℕ → Option Txn
some_txn None = None
some_txn (Some u) = Some (record { 0 = u })

abbrev pub wait_for_txn : Option Txn → Verdict
wait_for_txn None = Go
wait_for_txn (Some u) = Wait u
