-- A read that makes a write too late.
use Rattle.std.specs.Prelude.{ℕ, Bool, cond, ◌&&◌, ◌||◌, eqb, ltb, List, Option, Some, None}
use Rattle.teb_rules.specs.declared.names.Txn.{Txn}
use Rattle.teb_rules.specs.declared.names.Cell.{Cell}
use Rattle.teb_rules.specs.declared.history.Event.{Event}
use Rattle.teb_rules.specs.Setup.{Setup}
use Rattle.teb_rules.specs.Tree.{meets}
use Rattle.teb_rules.specs.Batches.{start}
use Rattle.teb_rules.specs.Versions.{precedes}

-- the reader meets t at n and starts later, and read t's version of x or one before it
abbrev pub is_after : Setup → List Event → ℕ → ℕ → Cell → Txn × Txn → Bool
is_after S H n t x r = meets S H n t r.0.0 && ltb (start S H n t) (start S H n r.0.0) && (eqb r.1.0 t || precedes S H x r.1.0 t)

-- the lesser of two, of which the first may be missing
abbrev pub lesser_txn : Option Txn → Txn → Txn
lesser_txn None t = t
lesser_txn (Some u) t = cond (ltb u.0 t.0) u t
