-- The order of transactions as keys, and the spreads of keys: keys that tie have the same.
use Rattle.std.specs.Prelude.{◌≡◌, ℕ, true, eqb}
use Rattle.std.proofs.Common.{◌∙◌}
use Rattle.std.specs.Ordering.{nat_cmp, is_eq}
use Rattle.std.specs.declared.cmp.Ordering.{Ordering}
use Rattle.std.proofs.lemmas.Bool.{and_parts, eqb-true}
use Rattle.teb_rules.specs.declared.names.Cell.{Cell}
use Rattle.teb_rules.specs.declared.names.Txn.{Txn}
use Rattle.teb_rules.specs.names.Cells.{cell_cmp}
use Rattle.teb_rules.proofs.lemmas.names.CellOrder.{same_cell-cell_cmp}

abbrev pub txn_cmp : Txn → Txn → Ordering
txn_cmp t u = nat_cmp t.0 u.0

abbrev pub cell_spread : Cell → ℕ
cell_spread x = x.key

abbrev pub txn_spread : Txn → ℕ
txn_spread t = t.0

pub cell_agrees : (x y : Cell) → is_eq (cell_cmp x y) ≡ true → cell_spread x ≡ cell_spread y
cell_agrees x y h = eqb-true x.key y.key (and_parts (eqb x.table.0 y.table.0) (eqb x.key y.key) (same_cell-cell_cmp x y ∙ h)).1
