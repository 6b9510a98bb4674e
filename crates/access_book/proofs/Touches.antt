-- The accesses that are stored by the places of their cells: what they show, and the effect of a new cell or a new access.
use Rattle.std.proofs.Common.{◌≡◌, ℕ, suc, zero, ◌<◌, ◌≤◌, ◌+◌, ◌-◌, Bool, true, false, cond, eqb, ◌||◌, List, [], ◌∷◌, ◌++◌, length}
use Rattle.std.proofs.Common.{map, reverse, get_or, take, set, inl, inr, refl, sym, ◌∙◌, ap, subst, arith, if◌then◌else◌, eq-eqb}
use Rattle.std.specs.List.{list_any, count_by, IsDistinct}
use Rattle.std.proofs.lemmas.Bool.{ne_eqb}
use Rattle.std.proofs.lemmas.Bool.Decides.{eqb_tells}
use Rattle.std.proofs.lemmas.List.{map-append, map-set, reverse-append, length-map, drop_all, take-append-drop}
use Rattle.std.proofs.Math.Seq.{drop-cons}
use Rattle.std.proofs.lemmas.List.Folds.{list_any-append}
use Rattle.std.proofs.lemmas.List.Sums.{sum_by-append, sum_by-cons}
use Rattle.std.proofs.Math.ListN.{get_or-append, get_or-map}
use Rattle.teb_rules.specs.declared.names.Cell.{Cell}
use Rattle.teb_rules.specs.names.Cells.{same_cell}
use Rattle.cell_index.specs.Cells.{place_in, with_cell}
use Rattle.teb_rules.proofs.lemmas.names.SameCells.{same_cell-true}
use Rattle.cell_index.proofs.Places.{decided, place_tells, put_place, put_length}
use Rattle.cell_index.proofs.Lists.{set_tells, with_empty}
use Rattle.cell_index.proofs.ListEdits.{distinct-with_cell}
use Rattle.arena_multimap.specs.NumberedLists.{list_in}
use Rattle.access_book.specs.declared.accesses.Touch.{Touch}
use Rattle.access_book.specs.declared.accesses.Touch.TheVariants as touch
use Rattle.access_book.specs.Books.{list_by}
use Rattle.access_book.specs.Touched.{Touched, Reads, Puts, any_reads, any_puts, is_put, puts_among}
use Rattle.access_book.specs.Places.{cell_at, touch_place, touched_at, all_touched, reads_at, puts_at, holds_put, puts_held, AreKnown}

or_swap : (a b : Bool) → (a || (b || false)) ≡ (b || a)
or_swap true true = refl
or_swap true false = refl
or_swap false true = refl
or_swap false false = refl

any_reverse : {A : Type 0} (q : A → Bool) (xs : List A) → list_any q (reverse xs) ≡ list_any q xs
any_reverse q [] = refl
any_reverse q (x ∷ xs) = ap (list_any q) (reverse-append (x ∷ []) xs) ∙ list_any-append q (reverse xs) (x ∷ []) ∙ ap (λ (b : Bool). b || (q x || false)) (any_reverse q xs)
    ∙ or_swap (list_any q xs) (q x)

count_reverse : {A : Type 0} (q : A → Bool) (xs : List A) → count_by q (reverse xs) ≡ count_by q xs
count_reverse q [] = refl
count_reverse q (x ∷ xs) =
    let e = ap (count_by q) (reverse-append (x ∷ []) xs) in
    let f = sum_by-append (λ x. cond (q x) 1 0) (reverse xs) (x ∷ []) in
    let ih = count_reverse q xs in
    let g = sum_by-cons (λ x. cond (q x) 1 0) x xs in
    let k = sum_by-cons (λ x. cond (q x) 1 0) x [] in
    e ∙ f ∙ omega (arith, ih, g, k)

-- what stored accesses show of a cell x
module _ (cells : List Cell) (unique : IsDistinct same_cell cells) (x : Cell) where
  -- an access's place is that of x if and only if its cell is x
  told : (p : ℕ) → p < length cells → eqb (place_in cells x) p ≡ same_cell (cell_at cells p) x
  told p lt = place_tells cells p _ x unique lt

  reads_shown : (zs : List Touch) → AreKnown (length cells) zs → any_reads x (map (touched_at cells) zs) ≡ reads_at (place_in cells x) zs
  reads_shown [] k = refl
  reads_shown (touch.Read p ∷ zs) k = λ j. sym (told p k.0) j || reads_shown zs k.1 j
  reads_shown (touch.Put p ∷ zs) k = reads_shown zs k.1

  puts_shown : (zs : List Touch) → AreKnown (length cells) zs → any_puts x (map (touched_at cells) zs) ≡ puts_at (place_in cells x) zs
  puts_shown [] k = refl
  puts_shown (touch.Read p ∷ zs) k = puts_shown zs k.1
  puts_shown (touch.Put p ∷ zs) k = λ j. sym (told p k.0) j || puts_shown zs k.1 j

  pub any_reads-is : (zs : List Touch) → AreKnown (length cells) zs → any_reads x (all_touched cells zs) ≡ reads_at (place_in cells x) zs
  any_reads-is zs k = any_reverse _ (map (touched_at cells) zs) ∙ reads_shown zs k

  pub any_puts-is : (zs : List Touch) → AreKnown (length cells) zs → any_puts x (all_touched cells zs) ≡ puts_at (place_in cells x) zs
  any_puts-is zs k = any_reverse _ (map (touched_at cells) zs) ∙ puts_shown zs k

counted : (cells : List Cell) (zs : List Touch) → puts_among (map (touched_at cells) zs) ≡ puts_held zs
counted cells [] = refl
counted cells (z ∷ zs) = sum_by-cons (λ y. cond (is_put y) 1 0) (touched_at cells z) (map (touched_at cells) zs) ∙ (λ j. cond (is_put-is z j) 1 0 + counted cells zs j)
    ∙ sym (sum_by-cons (λ y. cond (holds_put y) 1 0) z zs)
  where
    is_put-is : (z : Touch) → is_put (touched_at cells z) ≡ holds_put z
    is_put-is (touch.Read p) = refl
    is_put-is (touch.Put p) = refl

pub puts_among-is : (cells : List Cell) (zs : List Touch) → puts_among (all_touched cells zs) ≡ puts_held zs
puts_among-is cells zs = count_reverse is_put (map (touched_at cells) zs) ∙ counted cells zs

last_apart : {A : Type 0} (xs : List A) (d : A) → 1 ≤ length xs → xs ≡ take (length xs - 1) xs ++ get_or xs (length xs - 1) d ∷ []
last_apart xs d le =
    let n : suc (length xs - 1) ≡ length xs = omega (arith, le) in
    sym (take-append-drop (length xs - 1) xs) ∙ ap (λ (l : List _). take (length xs - 1) xs ++ l)
    (drop-cons xs (length xs - 1) d (omega (arith, le)) ∙ ap (λ (l : List _). get_or xs (length xs - 1) d ∷ l) (drop_all (suc (length xs - 1)) xs (omega (arith, n))))

-- the newest access is the last that is stored
pub newest_first : (cells : List Cell) (zs : List Touch) (d : Touch) → 1 ≤ length zs → all_touched cells zs ≡ touched_at cells (get_or zs (length zs - 1) d) ∷ all_touched cells
    (take (length zs - 1) zs)
newest_first cells zs d le =
    let ys = take (length zs - 1) zs in
    let y = get_or zs (length zs - 1) d in
    ap (all_touched cells) (last_apart zs d le) ∙ ap reverse (map-append (touched_at cells) ys (y ∷ [])) ∙ reverse-append (map (touched_at cells) ys) (touched_at cells y ∷ [])

-- the list of a transaction
pub list_by-number : (ls : List (List Touched)) (n : ℕ) → 0 < n → list_by ls n ≡ list_in ls (n - 1)
unfolding list_by
list_by-number ls zero lt = absurd (omega arith)
list_by-number ls (suc i) lt = ap (list_in ls) (let e : i ≡ suc i - 1 = omega arith in e)

pub accesses_are : (cells : List Cell) (ls : List (List Touch)) (n : ℕ) → 0 < n → list_by (map (all_touched cells) ls) n ≡ all_touched cells (list_in ls (n - 1))
accesses_are cells ls n lt = list_by-number (map (all_touched cells) ls) n lt ∙ get_or-map (all_touched cells) ls (n - 1) []

pub nothing_by : (n : ℕ) → list_by [] n ≡ []
unfolding list_by
nothing_by zero = refl
nothing_by (suc n) = refl

same_by : (ks ls : List (List Touched)) → ((i : ℕ) → list_in ks i ≡ list_in ls i) → (n : ℕ) → list_by ks n ≡ list_by ls n
unfolding list_by
same_by ks ls h zero = refl
same_by ks ls h (suc n) = h n

pub begun_by : (cells : List Cell) (ls ls' : List (List Touch)) → ls' ≡ ls ++ [] ∷ [] → (n : ℕ) → list_by (map (all_touched cells) ls') n ≡ list_by (map (all_touched cells) ls) n
begun_by cells ls ls' e n =
    ap (λ (l : List (List Touch)). list_by (map (all_touched cells) l) n) e ∙ ap (λ (l : List (List Touched)). list_by l n) (map-append (all_touched cells) ls ([] ∷ []))
    ∙ same_by (map (all_touched cells) ls ++ [] ∷ []) (map (all_touched cells) ls) (with_empty (map (all_touched cells) ls)) n

known_more : (m n : ℕ) (zs : List Touch) → m ≤ n → AreKnown m zs → AreKnown n zs
known_more m n [] le k = tt
known_more m n (z ∷ zs) le k = (omega (arith, k.0, le), known_more m n zs le k.1)

pub known_all : (m n : ℕ) (ls : List (List Touch)) → m ≤ n → ((i : ℕ) → AreKnown m (list_in ls i)) → (i : ℕ) → AreKnown n (list_in ls i)
known_all m n ls le k i = known_more m n (list_in ls i) le (k i)

known_push : (n : ℕ) (zs : List Touch) (z : Touch) → AreKnown n zs → touch_place z < n → AreKnown n (zs ++ z ∷ [])
known_push n [] z k lt = (lt, tt)
known_push n (y ∷ zs) z k lt = (k.0, known_push n zs z k.1 lt)

-- Z is put at the front of the list of t
by_set : (ls : List (List Touched)) (i t : ℕ) (Z : Touched) → t ≡ suc i → i < length ls → (u : ℕ) → list_by (set ls i (Z ∷ list_in ls i)) u ≡ cond (eqb t u) (Z ∷ list_by ls u) (list_by ls u)
unfolding list_by
by_set ls i t Z e lt zero = sym (ap (λ (b : Bool). cond b (Z ∷ []) []) (ne_eqb t 0 (λ q. omega (arith, q, e))))
by_set ls i t Z e lt (suc j) = set_tells ls i j (Z ∷ list_in ls i) lt ∙ elim (eqb_tells j i) [
  | inl p ↦ ap (λ (b : Bool). cond b (Z ∷ list_in ls i) (list_in ls j)) p.0 ∙ ap (λ (k : ℕ). Z ∷ list_in ls k) (sym p.1)
      ∙ sym (ap (λ (b : Bool). cond b (Z ∷ list_in ls j) (list_in ls j)) (eq-eqb t (suc j) (omega (arith, e, p.1))))
  | inr p ↦ ap (λ (b : Bool). cond b (Z ∷ list_in ls i) (list_in ls j)) p.0 ∙ sym (ap (λ (b : Bool). cond b (Z ∷ list_in ls j) (list_in ls j)) (ne_eqb t (suc j) (λ q. p.1 (omega (arith, e, q)))))
]

-- a cell gets a place if it has none
module _ (cells : List Cell) (c : Cell) where
  cell_kept : (p : ℕ) → p < length cells → cell_at (with_cell cells c) p ≡ cell_at cells p
  cell_kept p lt = elim (decided (list_any (same_cell c) cells)) [
    | inl e ↦ ap (λ (b : Bool). cell_at (if b then cells else cells ++ c ∷ []) p) e
    | inr e ↦ ap (λ (b : Bool). cell_at (if b then cells else cells ++ c ∷ []) p) e ∙ get_or-append cells (c ∷ []) _ p lt
  ]

  touched_kept : (zs : List Touch) → AreKnown (length cells) zs → map (touched_at (with_cell cells c)) zs ≡ map (touched_at cells) zs
  touched_kept [] k = refl
  touched_kept (touch.Read p ∷ zs) k = λ j. Reads (cell_kept p k.0 j) ∷ touched_kept zs k.1 j
  touched_kept (touch.Put p ∷ zs) k = λ j. Puts (cell_kept p k.0 j) ∷ touched_kept zs k.1 j

  all_kept : (ls : List (List Touch)) → ((i : ℕ) → AreKnown (length cells) (list_in ls i)) → map (all_touched (with_cell cells c)) ls ≡ map (all_touched cells) ls
  all_kept [] k = refl
  all_kept (zs ∷ ls) k = λ j. reverse (touched_kept zs (k zero) j) ∷ all_kept ls (λ i. k (suc i)) j

  -- the cell at its own place
  pub own_cell : IsDistinct same_cell cells → (p : ℕ) → p ≡ place_in cells c → cell_at (with_cell cells c) p ≡ c
  own_cell d p e =
      let cells' = with_cell cells c in
      let own = put_place cells c in
      let m = put_length cells c in
      let tells = place_tells cells' p _ c (distinct-with_cell cells c d) (omega (arith, e, m)) in
      same_cell-true (cell_at cells' p) c (sym tells ∙ eq-eqb (place_in cells' c) p (omega (arith, own, e)))

  -- t makes an access, which shows Z
  module _ (ls ls' : List (List Touch)) (cells' : List Cell) (t i : ℕ) (z : Touch) (Z : Touched) (e : cells' ≡ with_cell cells c) (put : ls' ≡ set ls i (list_in ls i ++ z ∷ []))
      (number : t ≡ suc i) (lt : i < length ls) (known : (j : ℕ) → AreKnown (length cells) (list_in ls j)) where
    pub pushed_by : touched_at (with_cell cells c) z ≡ Z → (u : ℕ) → list_by (map (all_touched cells') ls') u ≡ cond (eqb t u) (Z ∷ list_by (map (all_touched cells) ls) u)
        (list_by (map (all_touched cells) ls) u)
    pushed_by shows u =
        let f' = all_touched (with_cell cells c) in
        let L = map (all_touched cells) ls in
        let n = length-map ls (all_touched cells) in
        let newest : f' (list_in ls i ++ z ∷ []) ≡ Z ∷ list_in L i =
        ap reverse (map-append (touched_at (with_cell cells c)) (list_in ls i) (z ∷ [])) ∙ reverse-append (map (touched_at (with_cell cells c)) (list_in ls i)) (touched_at (with_cell cells c) z ∷ [])
        ∙ (λ j. shows j ∷ reverse (touched_kept (list_in ls i) (known i) j)) ∙ ap (λ (l : List Touched). Z ∷ l) (sym (get_or-map (all_touched cells) ls i [])) in
        (λ j. list_by (map (all_touched (e j)) (put j)) u)
        ∙ ap (λ (l : List (List Touched)). list_by l u) (map-set f' ls i (list_in ls i ++ z ∷ []) ∙ (λ j. set (all_kept ls known j) i (newest j)))
        ∙ by_set L i t Z number (omega (arith, lt, n)) u

    pub known_pushed : touch_place z ≡ place_in cells c → (j : ℕ) → AreKnown (length cells') (list_in ls' j)
    known_pushed here j =
        let m = put_length cells c in
        let n = ap length e in
        let le : length cells ≤ length cells' = omega (arith, m, n) in
        let all = known_all (length cells) (length cells') ls le known in
        subst (AreKnown (length cells')) (sym (ap (λ (l : List (List Touch)). list_in l j) put ∙ set_tells ls i j (list_in ls i ++ z ∷ []) lt))
        (go (eqb j i) all (known_push (length cells') (list_in ls i) z (all i) (omega (arith, here, m, n))))
      where
        go : (b : Bool) → ((j : ℕ) → AreKnown (length cells') (list_in ls j)) → AreKnown (length cells') (list_in ls i ++ z ∷ [])
            → AreKnown (length cells') (cond b (list_in ls i ++ z ∷ []) (list_in ls j))
        go true all own = own
        go false all own = all j
