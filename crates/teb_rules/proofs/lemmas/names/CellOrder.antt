-- The order of cells is total, and cells that tie in it are the same.
use Rattle.std.proofs.Common.{◌≡◌, ℕ, true, eqb, ◌&&◌, refl, sym, ap, ◌∙◌, arith}
use Rattle.std.specs.Cmp.{IsTotalOrder, tied_then}
use Rattle.std.specs.Ordering.{nat_cmp, is_eq, is_lt}
use Rattle.std.specs.declared.cmp.Ordering.TheVariants.{Less, Equal, Greater}
use Rattle.std.proofs.lemmas.Bool.Decides.{nat_tests}
use Rattle.std.proofs.lemmas.Cmp.{nat_cmp_total, on_total, then_total, alike_right}
use Rattle.teb_rules.specs.names.Cells.{same_cell, cell_cmp, is_before}
use Rattle.teb_rules.specs.declared.names.Cell.{Cell}

pub cell_cmp_total : IsTotalOrder cell_cmp
cell_cmp_total = then_total (on_total (λ (x : Cell). x.table.0) nat_cmp_total) (on_total (λ (x : Cell). x.key) nat_cmp_total)

eqb-nat_cmp : (m n : ℕ) → eqb m n ≡ is_eq (nat_cmp m n)
eqb-nat_cmp m n = grind (arith, nat_tests)

pub same_cell-cell_cmp : (x y : Cell) → same_cell x y ≡ is_eq (cell_cmp x y)
same_cell-cell_cmp x y = ap (λ b. b && eqb x.key y.key) (eqb-nat_cmp x.table.0 y.table.0)
    ∙ ap (λ b. is_eq (nat_cmp x.table.0 y.table.0) && b) (eqb-nat_cmp x.key y.key)
    ∙ tied_then (nat_cmp x.table.0 y.table.0) (nat_cmp x.key y.key)

-- a cell before one that ties with x is before x
pub before_tied : (r s x : Cell) → cell_cmp s x ≡ Equal → cell_cmp r s ≡ Less → cell_cmp r x ≡ Less
before_tied r s x tie less = sym (alike_right cell_cmp_total s x r tie) ∙ less

pub before_less : (x y : Cell) → is_before x y ≡ true → cell_cmp x y ≡ Less
before_less x y h = elim (cell_cmp x y) as (λ o. is_lt o ≡ true → o ≡ Less) [ Less ↦ λ _. refl | Equal ↦ λ k. cc | Greater ↦ λ k. cc ] h
