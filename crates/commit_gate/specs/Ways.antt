-- Ways down a tree, and the lesser of two waits.
use Rattle.std.specs.Prelude.{ℕ, ◌<◌, cond, ltb, List, [], ◌∷◌, length, Option, Some, None}
use Rattle.teb_rules.specs.declared.names.Txn.{Txn}
use Rattle.teb_rules.specs.declared.Verdict.{Verdict}
use Rattle.teb_rules.specs.declared.Verdict.TheVariants.{Go, Wait, Break}
use Rattle.phase_api.specs.declared.facts.Facts.{Facts}
use Rattle.phase_api.specs.Calls.{IsHere}

-- each node is one of the tree's, and on t's path
abbrev pub IsWay : Facts → ℕ → List ℕ → Type 0
IsWay f t [] = Unit {0}
IsWay f t (n ∷ ns) = (n < length f.tree.now.rows) × IsHere f n t × IsWay f t ns

-- the wait for the lower-numbered of the transaction that a verdict names and another
abbrev pub first_wait : Verdict → Option Txn → Verdict
first_wait v None = v
first_wait Go (Some w) = Wait w
first_wait (Wait u) (Some w) = Wait (cond (ltb u.0 w.0) u w)
first_wait (Break b) (Some w) = Break b
