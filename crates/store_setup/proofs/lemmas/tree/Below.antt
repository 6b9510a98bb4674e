-- Rows by their numbers, and tests over the numbers below a bound.
use Rattle.std.proofs.Common.{◌≡◌, ℕ, zero, suc, ◌+◌, ◌<◌, ◌≤◌, Bool, true, false, cond, ◌||◌, eqb, List, [], ◌∷◌, ◌++◌, length}
use Rattle.std.proofs.Common.{get_or, map, take, unwrap_or, Option, Some, None, refl, sym, ◌∙◌, ap, inl, inr, arith, le_refl}
use Rattle.std.proofs.lemmas.Bool.{cases_lt}
use Rattle.std.specs.List.{list_any, find}
use Rattle.std.proofs.lemmas.List.{get_or-map, length-map, map-append, take_more, take_all, take-map}
use Rattle.std.proofs.lemmas.List.Folds.{list_any-append, find-append}
use Rattle.std.specs.Option.{option_or}
use Rattle.teb_rules.proofs.lemmas.laws.TableRanks.{In-below}
use Rattle.teb_rules.specs.declared.names.Kind.{Kind}
use Rattle.teb_rules.specs.Setup.{NodeRow, among}
use Rattle.teb_rules.specs.Tree.{below, houses, leaf, row, no_row}
use Rattle.teb_rules.specs.declared.names.Spot.{Spot}
use Rattle.teb_rules.specs.Accepted.{Fault, first_at, or_fault, is_child_of, has_children, is_twice, repeats}
use Rattle.store_setup.specs.declared.tree.rows.NodeRow.{NodeRow as Row}
use Rattle.store_setup.specs.tree.Grown.{kind_numbers, row_of, rows_of}
use Rattle.store_setup.specs.tree.Rows.{clash}
use Rattle.teb_rules.proofs.lemmas.laws.Lists.{list_any_from}

-- a type is in a list of types if and only if its number is among theirs
pub among_kinds : (k : Kind) (ks : List Kind) → among k.0 (kind_numbers ks) ≡ list_any (λ m. eqb m.0 k.0) ks
among_kinds k [] = refl
among_kinds k (m ∷ ms) = ap (λ b. eqb m.0 k.0 || b) (among_kinds k ms)

-- the row at an index
pub row_at : (rs : List Row) (n : ℕ) (r : Row) → n < length rs → r ≡ get_or rs n r → row (rows_of rs) n ≡ row_of r
row_at rs n r h e = get_or-map row_of rs n r no_row h ∙ ap row_of (sym e)

pub houses_at : (rs : List Row) (s : Spot) (n m : ℕ) (r : Row) → m ≡ n → m < length rs → r ≡ get_or rs m r → houses (row (rows_of rs) n) s ≡ houses (row_of r) s
houses_at rs s n m r e h i = ap (λ (z : ℕ). houses (row (rows_of rs) z) s) (sym e) ∙ ap (λ (z : NodeRow). houses z s) (row_at rs m r h i)

-- the rows of the numbers below a bound are the first rows
pub rows_below : (T : List NodeRow) (n : ℕ) → n ≤ length T → map (row T) (below n) ≡ take n T
unfolding below
rows_below T zero h = refl
rows_below T (suc n) h =
    map-append (row T) (below n) (n ∷ []) ∙ ap (λ (z : List NodeRow). z ++ row T n ∷ []) (rows_below T n (omega arith)) ∙ sym (take_more T n no_row (omega arith))
    ∙ ap (λ (z : ℕ). take z T) (let z : n + 1 ≡ suc n = omega arith in z)

any_map : (f : NodeRow → Bool) (T : List NodeRow) (ns : List ℕ) → list_any (λ m. f (row T m)) ns ≡ list_any f (map (row T) ns)
any_map f T [] = refl
any_map f T (n ∷ ns) = ap (λ b. f (row T n) || b) (any_map f T ns)

pub any_below : (f : NodeRow → Bool) (T : List NodeRow) (n : ℕ) → n ≤ length T → list_any (λ m. f (row T m)) (below n) ≡ list_any f (take n T)
any_below f T n h = any_map f T (below n) ∙ ap (list_any f) (rows_below T n h)

pub has_children_is : (T : List NodeRow) (n : ℕ) → has_children T n ≡ list_any (λ r. is_child_of n r.parent) T
has_children_is T n = any_below (λ r. is_child_of n r.parent) T (length T) (le_refl _) ∙ ap (list_any (λ r. is_child_of n r.parent)) (take_all (length T) T (le_refl _))

-- `is_twice` holds for a node that repeats a type or clashes with an earlier node
pub is_twice_is : (rs : List Row) (n : ℕ) (r : Row) (es : List Row) → n < length rs → r ≡ get_or rs n r → es ≡ take n rs →
    is_twice (rows_of rs) n ≡ (repeats (kind_numbers r.types.items) || list_any (λ q. clash q (row_of r)) (rows_of es))
is_twice_is rs n r es h e t =
    let z : n ≤ length (rows_of rs) = omega (arith, length-map rs row_of) in
    ap (λ (q : NodeRow). repeats q.types || list_any (λ m. clash (row (rows_of rs) m) q) (below n)) (row_at rs n r h e) ∙
    ap (λ (b : Bool). repeats (kind_numbers r.types.items) || b)
    (any_below (λ q. clash q (row_of r)) (rows_of rs) n z ∙ ap (list_any (λ q. clash q (row_of r))) (take-map row_of n rs ∙ ap (map row_of) (sym t)))

-- the first fault of two lists appended
first_append : (f : ℕ → Option Fault) (xs ys : List ℕ) → first_at f (xs ++ ys) ≡ or_fault (first_at f xs) (first_at f ys)
first_append f [] ys = refl
first_append f (x ∷ xs) ys = go (f x) (first_append f xs ys)
  where
    go : (o : Option Fault) → first_at f (xs ++ ys) ≡ or_fault (first_at f xs) (first_at f ys) →
        elim o as (λ z. Option (ℕ × Fault)) [ Some w ↦ Some (x, w) | None ↦ first_at f (xs ++ ys) ] ≡ or_fault (elim o as (λ z. Option (ℕ × Fault)) [ Some w ↦ Some (x, w) | None ↦ first_at f xs ])
        (first_at f ys)
    go (Some w) ih = refl
    go None ih = ih

-- the first fault of a list of one
first_one : (f : ℕ → Option Fault) (n : ℕ) (o : Option Fault) → f n ≡ o → first_at f (n ∷ []) ≡ elim o as (λ z. Option (ℕ × Fault)) [ Some w ↦ Some (n, w) | None ↦ None ]
first_one f n o e = ap (λ (z : Option Fault). elim z as (λ z. Option (ℕ × Fault)) [ Some w ↦ Some (n, w) | None ↦ None ]) e

pub none_below : (f : ℕ → Option Fault) → first_at f (below 0) ≡ None
unfolding below
none_below f = refl

-- if there is no fault below n and none at n, there is none below n + 1
pub none_more : (f : ℕ → Option Fault) (n : ℕ) → first_at f (below n) ≡ None → f n ≡ None → first_at f (below (n + 1)) ≡ None
unfolding below
none_more f n h e = ap (λ (z : ℕ). first_at f (below z)) (let z : n + 1 ≡ suc n = omega arith in z) ∙ first_append f (below n) (n ∷ [])
    ∙ ap (λ (o : Option (ℕ × Fault)). or_fault o (first_at f (n ∷ []))) h ∙ first_one f n None e

-- a fault at n with none below it is the first fault
pub first_below : (f : ℕ → Option Fault) (n m : ℕ) (w : Fault) → first_at f (below n) ≡ None → n < m → f n ≡ Some w → first_at f (below m) ≡ Some (n, w)
unfolding below
first_below f n zero w h l e = absurd (omega arith)
first_below f n (suc m) w h l e = first_append f (below m) (m ∷ []) ∙ elim (cases_lt n m) [
  | inl k ↦ ap (λ (o : Option (ℕ × Fault)). or_fault o (first_at f (m ∷ []))) (first_below f n m w h k e)
  | inr k ↦ (let z : m ≡ n = omega arith in rw z (ap (λ (o : Option (ℕ × Fault)). or_fault o (first_at f (n ∷ []))) h ∙ first_one f n (Some w) e))
]

-- a list that is built number by number, from 0
pub map_none : {X Y : Type 0} (g : X → Y) (f : ℕ → Y) (xs : List X) → xs ≡ [] → map g xs ≡ map f (below 0)
unfolding below
map_none g f xs e = ap (map g) e

pub map_step : {X Y : Type 0} (g : X → Y) (f : ℕ → Y) (n : ℕ) (xs ys : List X) (x : X) → ys ≡ xs ++ x ∷ [] → map g xs ≡ map f (below n) → g x ≡ f n → map g ys ≡ map f (below (n + 1))
unfolding below
map_step {X} {Y} g f n xs ys x e h i =
    ap (map g) e ∙ map-append g xs (x ∷ []) ∙ ap (λ (zs : List Y). zs ++ g x ∷ []) h ∙ ap (λ (z : Y). map f (below n) ++ z ∷ []) i ∙ sym (map-append f (below n) (n ∷ [])) ∙
    ap (λ (z : ℕ). map f (below z)) (let z : suc n ≡ n + 1 = omega arith in z)

-- a search among the numbers below a bound
pub any_zero : (p : ℕ → Bool) → list_any p (below 0) ≡ false
unfolding below
any_zero p = refl

pub any_more : (p : ℕ → Bool) (n : ℕ) → list_any p (below n) ≡ false → p n ≡ false → list_any p (below (n + 1)) ≡ false
unfolding below
any_more p n h e = ap (λ (z : ℕ). list_any p (below z)) (let z : n + 1 ≡ suc n = omega arith in z) ∙ list_any-append p (below n) (n ∷ []) ∙ ap (λ (b : Bool). b || (p n || false)) h
    ∙ ap (λ (b : Bool). b || false) e

pub any_found : (p : ℕ → Bool) (n m : ℕ) → n < m → p n ≡ true → list_any p (below m) ≡ true
any_found p n m l e = list_any_from p (below m) n (In-below m n l) e

pub find_zero : (p : ℕ → Bool) → find p (below 0) ≡ None
unfolding below
find_zero p = refl

pub find_more : (p : ℕ → Bool) (n : ℕ) → find p (below n) ≡ None → p n ≡ false → find p (below (n + 1)) ≡ None
unfolding below
find_more p n h e = ap (λ (z : ℕ). find p (below z)) (let z : n + 1 ≡ suc n = omega arith in z) ∙ find-append p (below n) (n ∷ []) ∙ ap (λ (o : Option ℕ). option_or o (find p (n ∷ []))) h
    ∙ ap (λ (b : Bool). cond b (Some n) None) e

pub find_found : (p : ℕ → Bool) (n m : ℕ) → find p (below n) ≡ None → n < m → p n ≡ true → find p (below m) ≡ Some n
unfolding below
find_found p n zero h l e = absurd (omega arith)
find_found p n (suc m) h l e = find-append p (below m) (m ∷ []) ∙ elim (cases_lt n m) [
  | inl k ↦ ap (λ (o : Option ℕ). option_or o (find p (m ∷ []))) (find_found p n m h k e)
  | inr k ↦ (let z : m ≡ n = omega arith in ap (λ (i : ℕ). option_or (find p (below i)) (find p (i ∷ []))) z ∙ ap (λ (o : Option ℕ). option_or o (find p (n ∷ []))) h
      ∙ ap (λ (b : Bool). cond b (Some n) None) e)
]

-- the first node that houses a spot is its leaf
pub leaf_found : (rs : List Row) (s : Spot) (n : ℕ) → find (λ n. houses (row (rows_of rs) n) s) (below n) ≡ None → n < length rs → houses (row (rows_of rs) n) s ≡ true → n ≡ leaf (rows_of rs) s
unfolding leaf
leaf_found rs s n h l e =
    let z : n < length (rows_of rs) = omega (arith, length-map rs row_of) in
    sym (ap (λ (o : Option ℕ). unwrap_or o 0) (find_found (λ n. houses (row (rows_of rs) n) s) n (length (rows_of rs)) h z e))

pub leaf_none : (rs : List Row) (s : Spot) (n : ℕ) → find (λ n. houses (row (rows_of rs) n) s) (below n) ≡ None → n ≡ length rs → 0 ≡ leaf (rows_of rs) s
unfolding leaf
leaf_none rs s n h e =
    let z : n ≡ length (rows_of rs) = omega (arith, length-map rs row_of) in
    sym (ap (λ (o : Option ℕ). unwrap_or o 0) (ap (λ (m : ℕ). find (λ n. houses (row (rows_of rs) n) s) (below m)) (sym z) ∙ h))
