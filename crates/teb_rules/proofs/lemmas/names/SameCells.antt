-- Sameness of cells is an equivalence, and same cells are equal.
use Rattle.std.proofs.Common.{◌≡◌, Bool, true, false, eqb, refl, sym, ◌∙◌, ap}
use Rattle.std.specs.Cmp.{IsEquivalence}
use Rattle.std.specs.Ordering.{is_eq}
use Rattle.std.proofs.lemmas.Bool.{and_parts, eqb-true}
use Rattle.std.proofs.lemmas.Cmp.{tied_itself}
use Rattle.teb_rules.specs.declared.names.Cell.{Cell}
use Rattle.teb_rules.specs.names.Cells.{same_cell}
use Rattle.teb_rules.proofs.lemmas.names.CellOrder.{cell_cmp_total, same_cell-cell_cmp}

pub same_cell-true : (x y : Cell) → same_cell x y ≡ true → x ≡ y
same_cell-true x y h = let p = and_parts (eqb x.table.0 y.table.0) (eqb x.key y.key) h in cell_path (eqb-true x.table.0 y.table.0 p.0) (eqb-true x.key y.key p.1)
  where
    cell_path : x.table.0 ≡ y.table.0 → x.key ≡ y.key → x ≡ y
    cell_path a b = λ i. record { table = record { 0 = a i }; key = b i }

pub same_itself : (x : Cell) → same_cell x x ≡ true
same_itself x = same_cell-cell_cmp x x ∙ ap is_eq (tied_itself cell_cmp_total x)

either_way : (x y : Cell) → same_cell x y ≡ same_cell y x
either_way x y = go (same_cell x y) refl (same_cell y x) refl
  where
    go : (a : Bool) → same_cell x y ≡ a → (b : Bool) → same_cell y x ≡ b → same_cell x y ≡ same_cell y x
    go true h b k = ap (λ (z : Cell). same_cell x z) (sym (same_cell-true x y h)) ∙ ap (λ (z : Cell). same_cell z x) (same_cell-true x y h)
    go false h true k = ap (λ (z : Cell). same_cell z y) (sym (same_cell-true y x k)) ∙ ap (λ (z : Cell). same_cell y z) (same_cell-true y x k)
    go false h false k = h ∙ sym k

pub same_laws : IsEquivalence same_cell
same_laws = record { refl = same_itself; symm = either_way; congr = λ x y z h. ap (λ (w : Cell). same_cell w z) (same_cell-true x y h) }
