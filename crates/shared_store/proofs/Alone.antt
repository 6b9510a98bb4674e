-- Two ascending lists of rows are equal if each cell has the same value in both.
use Rattle.std.proofs.Common.{◌≡◌, Bool, true, false, cond, List, [], ◌∷◌, Option, Some, None, refl, sym, ap, subst, ◌∙◌, ℤ}
use Rattle.std.specs.List.{list_all}
use Rattle.std.proofs.lemmas.Bool.{and_parts, and_from, false_from_ne_true}
use Rattle.std.proofs.lemmas.Cmp.{tied_itself}
use Rattle.std.specs.Ordering.{is_lt, is_eq, ordering_reverse}
use Rattle.std.specs.declared.cmp.Ordering.{Ordering}
use Rattle.std.specs.declared.cmp.Ordering.TheVariants.{Less, Equal, Greater}
use Rattle.teb_rules.specs.declared.names.Cell.{Cell}
use Rattle.teb_rules.specs.names.Cells.{same_cell, cell_cmp, is_before}
use Rattle.teb_rules.specs.names.Rows.{row_of, is_ascending}
use Rattle.teb_rules.proofs.lemmas.names.CellOrder.{same_cell-cell_cmp, cell_cmp_total, before_less}
use Rattle.teb_rules.proofs.lemmas.names.SameCells.{same_cell-true, same_itself}

abbrev Row : Type 0
Row = Cell × ℤ

abbrev all_behind : Cell → List Row → Bool
all_behind x rs = list_all (λ s. is_before x s.0) rs

not_itself : (x : Cell) → is_before x x ≡ true → ⊥
not_itself x h = let e : Equal ≡ Less = sym (tied_itself cell_cmp_total x) ∙ before_less x x h in cc

apart : (x y : Cell) → is_before x y ≡ true → same_cell y x ≡ false
apart x y h = false_from_ne_true (same_cell y x) (λ e. not_itself x (subst (λ (z : Cell). is_before x z ≡ true) (same_cell-true y x e) h))

before_all : (x y : Cell) (rs : List Row) → is_before x y ≡ true → all_behind y rs ≡ true → all_behind x rs ≡ true
before_all x y [] h a = refl
before_all x y (s ∷ ss) h a =
    let p = and_parts (is_before y s.0) (all_behind y ss) a in
    and_from (is_before x s.0) (all_behind x ss) (ap is_lt (cell_cmp_total.trans x y s.0 (before_less x y h) (before_less y s.0 p.0))) (before_all x y ss h p.1)

not_there : (x : Cell) (rs : List Row) → all_behind x rs ≡ true → row_of rs x ≡ None
not_there x [] a = refl
not_there x (s ∷ ss) a =
    let p = and_parts (is_before x s.0) (all_behind x ss) a in
    ap (λ b. cond b (Some s.1) (row_of ss x)) (apart x s.0 p.0) ∙ not_there x ss p.1

there : (r : Row) (rs : List Row) → row_of (r ∷ rs) r.0 ≡ Some r.1
there r rs = ap (λ b. cond b (Some r.1) (row_of rs r.0)) (same_itself r.0)

not_some : (o : Option ℤ) (v : ℤ) → o ≡ None → o ≡ Some v → ⊥
not_some o v n s = let e : None ≡ Some v = sym n ∙ s in cc

some_is : (v w : ℤ) → Some v ≡ Some w → v ≡ w
some_is v w e = ap (λ (o : Option ℤ). value o) e
  where
    value : Option ℤ → ℤ
    value None = v
    value (Some u) = u

module _ (r s : Row) (rs ss : List Row) (a : is_ascending (r ∷ rs) ≡ true) (b : is_ascending (s ∷ ss) ≡ true) (same : (x : Cell) → row_of (r ∷ rs) x ≡ row_of (s ∷ ss) x) where
  p : (all_behind r.0 rs ≡ true) × (is_ascending rs ≡ true)
  p = and_parts (all_behind r.0 rs) (is_ascending rs) a

  q : (all_behind s.0 ss ≡ true) × (is_ascending ss ≡ true)
  q = and_parts (all_behind s.0 ss) (is_ascending ss) b

  not_first : is_before r.0 s.0 ≡ true → ⊥
  not_first h = not_some (row_of (s ∷ ss) r.0) r.1 (not_there r.0 (s ∷ ss) (and_from (is_before r.0 s.0) (all_behind r.0 ss) h (before_all r.0 s.0 ss h q.0))) (sym (same r.0) ∙ there r rs)

  not_second : is_before s.0 r.0 ≡ true → ⊥
  not_second h = not_some (row_of (r ∷ rs) s.0) s.1 (not_there s.0 (r ∷ rs) (and_from (is_before s.0 r.0) (all_behind s.0 rs) h (before_all s.0 r.0 rs h p.0))) (same s.0 ∙ there s ss)

  cells : (o : Ordering) → cell_cmp r.0 s.0 ≡ o → r.0 ≡ s.0
  cells Less e = absurd (not_first (ap is_lt e))
  cells Equal e = same_cell-true r.0 s.0 (same_cell-cell_cmp r.0 s.0 ∙ ap is_eq e)
  cells Greater e = absurd (not_second (ap is_lt (cell_cmp_total.antisymm s.0 r.0 ∙ ap ordering_reverse e)))

  cell : r.0 ≡ s.0
  cell = cells (cell_cmp r.0 s.0) refl

  first : r ≡ s
  first = let v : r.1 ≡ s.1 = some_is r.1 s.1 (sym (there r rs) ∙ (same r.0 ∙ (ap (row_of (s ∷ ss)) cell ∙ there s ss))) in λ i. (cell i, v i)

  rest_at : (x : Cell) (c : Bool) → same_cell r.0 x ≡ c → row_of rs x ≡ row_of ss x
  rest_at x true e =
      let is = same_cell-true r.0 x e in
      subst (λ (y : Cell). row_of rs y ≡ row_of ss y) is (not_there r.0 rs p.0 ∙ sym (not_there r.0 ss (subst (λ (y : Cell). all_behind y ss ≡ true) (sym cell) q.0)))
  rest_at x false e =
      sym (ap (λ c. cond c (Some r.1) (row_of rs x)) e) ∙ (same x ∙ ap (λ c. cond c (Some s.1) (row_of ss x)) (ap (λ (y : Cell). same_cell y x) (sym cell) ∙ e))

  rest : (x : Cell) → row_of rs x ≡ row_of ss x
  rest x = rest_at x (same_cell r.0 x) refl

pub one_list : (rs ss : List Row) → is_ascending rs ≡ true → is_ascending ss ≡ true → ((x : Cell) → row_of rs x ≡ row_of ss x) → rs ≡ ss
one_list [] [] a b same = refl
one_list [] (s ∷ ss) a b same = absurd (not_some (row_of [] s.0) s.1 refl (same s.0 ∙ there s ss))
one_list (r ∷ rs) [] a b same = absurd (not_some (row_of [] r.0) r.1 refl (sym (same r.0) ∙ there r rs))
one_list (r ∷ rs) (s ∷ ss) a b same =
    let f = first r s rs ss a b same in
    let more = one_list rs ss (p r s rs ss a b same).1 (q r s rs ss a b same).1 (rest r s rs ss a b same) in λ i. f i ∷ more i
