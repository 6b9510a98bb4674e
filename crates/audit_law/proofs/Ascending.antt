-- Rows in ascending order: each cell has at most one, and their order does not matter.
use Rattle.std.proofs.Common.{◌≡◌, Bool, true, false, cond, List, [], ◌∷◌, ◌++◌, reverse, Option, Some, None, refl, ap, ◌∙◌, inl, inr, ◌⊎◌}
use Rattle.std.specs.Prelude.{ℤ}
use Rattle.std.specs.List.{All, list_all}
use Rattle.std.specs.Option.{option_or}
use Rattle.std.proofs.lemmas.Bool.{and_parts, cases_Bool, both_ways, false_from_ne_true}
use Rattle.std.proofs.lemmas.List.Elements.{All-nil, All-cons, All-head, All-tail}
use Rattle.std.proofs.lemmas.List.{reverse-append}
use Rattle.teb_rules.specs.declared.names.Cell.{Cell}
use Rattle.std.specs.Ordering.{is_lt, is_eq}
use Rattle.std.specs.declared.cmp.Ordering.{Ordering}
use Rattle.std.specs.declared.cmp.Ordering.TheVariants.{Less, Equal, Greater}
use Rattle.teb_rules.specs.names.Cells.{same_cell, cell_cmp, is_before}
use Rattle.teb_rules.specs.names.Rows.{row_of, is_ascending}
use Rattle.teb_rules.proofs.lemmas.names.CellOrder.{same_cell-cell_cmp}
use Rattle.teb_rules.proofs.lemmas.names.SameCells.{same_cell-true, same_itself}

-- no row is of cell x
abbrev pub OthersThan : Cell → List (Cell × ℤ) → Type 0
OthersThan x [] = Unit {0}
OthersThan x (s ∷ ss) = (same_cell x s.0 ≡ false) × OthersThan x ss

-- no two rows are of the same cell
abbrev pub Apart : List (Cell × ℤ) → Type 0
Apart [] = Unit {0}
Apart (r ∷ rs) = OthersThan r.0 rs × Apart rs

before_other : (x y : Cell) → is_before x y ≡ true → same_cell x y ≡ false
before_other x y h = same_cell-cell_cmp x y ∙ go (cell_cmp x y) h
  where
    go : (o : Ordering) → is_lt o ≡ true → is_eq o ≡ false
    go Less h = refl
    go Equal h = absurd (cc)
    go Greater h = refl

others_before : (x : Cell) (rs : List (Cell × ℤ)) → list_all (λ s. is_before x s.0) rs ≡ true → OthersThan x rs
others_before x [] h = tt
others_before x (s ∷ ss) h =
    let (here, more) = and_parts (is_before x s.0) (list_all (λ s. is_before x s.0) ss) h in
    (before_other x s.0 here, others_before x ss more)

pub ascending_apart : (rs : List (Cell × ℤ)) → is_ascending rs ≡ true → Apart rs
ascending_apart [] h = tt
ascending_apart (r ∷ rs) h =
    let (here, more) = and_parts (list_all (λ s. is_before r.0 s.0) rs) (is_ascending rs) h in
    (others_before r.0 rs here, ascending_apart rs more)

row_append : (xs ys : List (Cell × ℤ)) (x : Cell) → row_of (xs ++ ys) x ≡ option_or (row_of xs x) (row_of ys x)
row_append [] ys x = refl
row_append (r ∷ xs) ys x = rw (row_append xs ys x) (chosen (same_cell r.0 x) (row_of xs x))
  where
    chosen : (b : Bool) (o : Option ℤ) → cond b (Some r.1) (option_or o (row_of ys x)) ≡ option_or (cond b (Some r.1) o) (row_of ys x)
    chosen true o = refl
    chosen false o = refl

apart_from : (y x z : Cell) → same_cell y x ≡ true → same_cell y z ≡ false → same_cell z x ≡ false
apart_from y x z same other = false_from_ne_true (same_cell z x) (λ e. both_ways (same_cell y z) other (ap (same_cell y) (same_cell-true z x e) ∙ same))

no_row : (y x : Cell) (rs : List (Cell × ℤ)) → same_cell y x ≡ true → OthersThan y rs → row_of rs x ≡ None
no_row y x [] same h = refl
no_row y x (s ∷ ss) same h =
    let other : same_cell s.0 x ≡ false = apart_from y x s.0 same h.0 in
    rw other (no_row y x ss same h.1)

-- a lookup of the row's cell gives the row's value
abbrev pub HasRow : List (Cell × ℤ) → (Cell × ℤ) → Type 0
HasRow rows r = row_of rows r.0 ≡ Some r.1

or_none : (o : Option ℤ) → option_or o None ≡ o
or_none None = refl
or_none (Some v) = refl

-- a lookup gives the same result in the reversed list
pub row_reverse : (rs : List (Cell × ℤ)) (x : Cell) → Apart rs → row_of (reverse rs) x ≡ row_of rs x
row_reverse [] x h = refl
row_reverse (r ∷ rs) x h =
    ap (λ (l : List (Cell × ℤ)). row_of l x) (reverse-append (r ∷ []) rs)
    ∙ row_append (reverse rs) (r ∷ []) x
    ∙ ap (λ o. option_or o (row_of (r ∷ []) x)) (row_reverse rs x h.1)
    ∙ either (cases_Bool (same_cell r.0 x))
  where
    either : (same_cell r.0 x ≡ true) ⊎ (same_cell r.0 x ≡ false) → option_or (row_of rs x) (row_of (r ∷ []) x) ≡ row_of (r ∷ rs) x
    either (inl same) = rw (no_row r.0 x rs same h.0, same)
    either (inr other) = rw other (or_none (row_of rs x))

has_under : (r : Cell × ℤ) (rows : List (Cell × ℤ)) (ss : List (Cell × ℤ)) → OthersThan r.0 ss → All (HasRow rows) ss → All (HasRow (r ∷ rows)) ss
has_under r rows [] others has = All-nil (HasRow (r ∷ rows))
has_under r rows (s ∷ ss) others has =
    let here : HasRow (r ∷ rows) s = rw (others.0) (All-head (HasRow rows) s ss has) in
    All-cons (HasRow (r ∷ rows)) s ss here (has_under r rows ss others.1 (All-tail (HasRow rows) s ss has))

pub rows_stand : (rs : List (Cell × ℤ)) → Apart rs → All (HasRow rs) rs
rows_stand [] h = All-nil (HasRow [])
rows_stand (r ∷ rs) h =
    let own : same_cell r.0 r.0 ≡ true = same_itself r.0 in
    let here : HasRow (r ∷ rs) r = rw own in
    All-cons (HasRow (r ∷ rs)) r rs here (has_under r rs rs h.0 (rows_stand rs h.1))
