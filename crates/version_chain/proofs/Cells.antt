-- The order of cells is total, and cells that compare as equal are equal.
use Rattle.std.proofs.Common.{◌≡◌, ℕ, true, false, refl, sym, ap, ◌∙◌, eq-eqb, eqb-true}
use Rattle.std.specs.declared.cmp.Ordering.{Ordering}
use Rattle.std.specs.declared.cmp.Ordering.TheVariants.{Less, Equal, Greater}
use Rattle.std.specs.Ordering.{nat_cmp, ordering_then}
use Rattle.std.specs.Cmp.{IsTotalOrder}
use Rattle.std.proofs.lemmas.Bool.{and_parts, and_from, false_from_ne_true}
use Rattle.std.proofs.lemmas.Cmp.{nat_cmp_total, on_total, then_total, ranked, tied_itself}
use Rattle.teb_rules.specs.declared.names.Cell.{Cell}
use Rattle.teb_rules.specs.names.Cells.{same_cell}
use Rattle.version_chain.specs.CellOrder.{cell_cmp}

pub cells_total : IsTotalOrder cell_cmp
cells_total = then_total (on_total (λ (x : Cell). x.table.0) nat_cmp_total) (on_total (λ (x : Cell). x.key) nat_cmp_total)

both_equal : (a b : Ordering) → ordering_then a b ≡ Equal → (a ≡ Equal) × (b ≡ Equal)
both_equal Less b e = absurd (let z : Less ≡ Equal = e in cc)
both_equal Equal b e = (refl, e)
both_equal Greater b e = absurd (let z : Greater ≡ Equal = e in cc)

same_parts : (x y : Cell) → x.table.0 ≡ y.table.0 → x.key ≡ y.key → x ≡ y
same_parts x y tables keys =
    let made : ℕ → ℕ → Cell = λ a b. record { table = record { 0 = a }; key = b } in
    ap (λ a. made a x.key) tables ∙ ap (λ b. made y.table.0 b) keys

pub cells_exact : (x y : Cell) → cell_cmp x y ≡ Equal → x ≡ y
cells_exact x y e =
    let two = both_equal (nat_cmp x.table.0 y.table.0) (nat_cmp x.key y.key) e in
    same_parts x y (ranked _ _ Equal (sym two.0)) (ranked _ _ Equal (sym two.1))

pub same_cell-itself : (x : Cell) → same_cell x x ≡ true
same_cell-itself x = and_from _ _ (eq-eqb x.table.0 x.table.0 refl) (eq-eqb x.key x.key refl)

pub same_cell-exact : (x y : Cell) → same_cell x y ≡ true → x ≡ y
same_cell-exact x y e = let two = and_parts _ _ e in same_parts x y (eqb-true _ _ two.0) (eqb-true _ _ two.1)

tied : (x y : Cell) → same_cell x y ≡ true → cell_cmp x y ≡ Equal
tied x y e = ap (cell_cmp x) (sym (same_cell-exact x y e)) ∙ tied_itself cells_total x

pub same_cell-less : (x y : Cell) → cell_cmp x y ≡ Less → same_cell x y ≡ false
same_cell-less x y less = false_from_ne_true _ (λ e. let z : Less ≡ Equal = sym less ∙ tied x y e in cc)

pub same_cell-greater : (x y : Cell) → cell_cmp x y ≡ Greater → same_cell x y ≡ false
same_cell-greater x y greater = false_from_ne_true _ (λ e. let z : Greater ≡ Equal = sym greater ∙ tied x y e in cc)

pub same_cell-other : (x y : Cell) → same_cell x y ≡ false → same_cell y x ≡ false
same_cell-other x y other = false_from_ne_true _ (λ e. let z : true ≡ false = sym (same_cell-itself x) ∙ (ap (same_cell x) (sym (same_cell-exact y x e)) ∙ other) in cc)
