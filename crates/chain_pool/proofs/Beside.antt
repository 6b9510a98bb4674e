-- Chains stored beside cells: a cell's chain is at the cell's place.
use Rattle.std.proofs.Common.{true, false, Bool, cond, not, ◌≡◌, ◌⊎◌, ℕ, zero, suc, ◌+◌, ◌<◌, ◌≤◌, List, [], ◌∷◌, ◌++◌, length, get_or, set, refl}
use Rattle.std.proofs.Common.{sym, ◌∙◌, ap, subst, inl, inr, arith, length-append, if◌then◌else◌, ◌||◌, ◌==◌, Option, Some, None, unwrap_or}
use Rattle.std.proofs.lemmas.Bool.{eq-eqb, ne_eqb}
use Rattle.std.proofs.lemmas.List.{get_or_read_under}
use Rattle.std.proofs.Math.ListN.{get_or-eq_default}
use Rattle.std.specs.List.{zip, list_any}
use Rattle.std.specs.Map.{lookup}
use Rattle.teb_rules.specs.declared.names.Cell.{Cell}
use Rattle.teb_rules.specs.names.Cells.{same_cell}
use Rattle.version_chain.proofs.Cells.{same_cell-itself, same_cell-exact, same_cell-other}
use Rattle.cell_index.specs.Cells.{place_in, with_cell}
use Rattle.chain_pool.specs.declared.places.Chain.{Chain}
use Rattle.chain_pool.specs.Heads.{no_chain, with_next, chain_at, chain_head}

add-one : (n : ℕ) → suc n ≡ 1 + n
add-one n = omega arith

pub chain_read : (x : Cell) (cells : List Cell) (chains : List Chain) → length chains ≡ length cells → chain_at (zip cells chains) x ≡ get_or chains (place_in cells x) no_chain
chain_read x [] [] n = refl
chain_read x [] (h ∷ chains) n = absurd (omega (arith, n))
chain_read x (c ∷ cells) [] n = absurd (omega (arith, n))
chain_read x (c ∷ cells) (h ∷ chains) n = at (same_cell x c) (chain_read x cells chains (omega (arith, n)))
  where
    at : (b : Bool) → chain_at (zip cells chains) x ≡ get_or chains (place_in cells x) no_chain
        → unwrap_or (cond b (Some h) (lookup (same_cell x) (zip cells chains))) no_chain ≡ get_or (h ∷ chains) (cond (not b) (1 + place_in cells x) 0) no_chain
    at true rest = refl
    at false rest = rest ∙ ap (λ k. get_or (h ∷ chains) k no_chain) (add-one (place_in cells x))

same_cell-sym : (x y : Cell) → same_cell x y ≡ same_cell y x
same_cell-sym x y = at (same_cell x y) refl
  where
    at : (b : Bool) → same_cell x y ≡ b → b ≡ same_cell y x
    at true e = sym (subst (λ (z : Cell). same_cell z x ≡ true) (same_cell-exact x y e) (same_cell-itself x))
    at false e = sym (same_cell-other x y e)

-- the lookups after another chain is written at a cell's place
pub replaced : (x : Cell) (h : Chain) (cells : List Cell) (chains : List Chain) → length chains ≡ length cells → place_in cells x < length cells
    → (y : Cell) → chain_at (zip cells (set chains (place_in cells x) h)) y ≡ (if same_cell x y then h else chain_at (zip cells chains) y)
replaced x h [] chains n lt y = absurd (omega (arith, lt))
replaced x h (c ∷ cells) [] n lt y = absurd (omega (arith, n))
replaced x h (c ∷ cells) (g ∷ chains) n lt y = at (same_cell x c) refl lt (λ less. replaced x h cells chains (omega (arith, n)) less y)
  where
    here : (b : Bool) (o : Option Chain) → unwrap_or (cond b (Some h) o) no_chain ≡ (if b then h else unwrap_or (cond b (Some g) o) no_chain)
    here true o = refl
    here false o = refl

    behind : (b : Bool) → same_cell x c ≡ false → same_cell y c ≡ b → (o p : Option Chain) → unwrap_or o no_chain ≡ (if same_cell x y then h else unwrap_or p no_chain)
        → unwrap_or (cond b (Some g) o) no_chain ≡ (if same_cell x y then h else unwrap_or (cond b (Some g) p) no_chain)
    behind true off e o p rest = ap (λ (b : Bool). if b then h else g) (sym (ap (same_cell x) (same_cell-exact y c e) ∙ off))
    behind false off e o p rest = rest

    at : (b : Bool) → same_cell x c ≡ b → cond (not b) (1 + place_in cells x) 0 < length (c ∷ cells)
        → (place_in cells x < length cells → chain_at (zip cells (set chains (place_in cells x) h)) y ≡ (if same_cell x y then h else chain_at (zip cells chains) y))
        → chain_at (zip (c ∷ cells) (set (g ∷ chains) (cond (not b) (1 + place_in cells x) 0) h)) y ≡ (if same_cell x y then h else chain_at (zip (c ∷ cells) (g ∷ chains)) y)
    at true e lt rest =
        let o = lookup (same_cell y) (zip cells chains) in
        let same : same_cell y c ≡ same_cell x y = ap (same_cell y) (sym (same_cell-exact x c e)) ∙ same_cell-sym y x in
        subst (λ (b : Bool). unwrap_or (cond b (Some h) o) no_chain ≡ (if same_cell x y then h else unwrap_or (cond b (Some g) o) no_chain)) (sym same) (here (same_cell x y) o)
    at false e lt rest =
        ap (λ k. chain_at (zip (c ∷ cells) (set (g ∷ chains) k h)) y) (sym (add-one (place_in cells x)))
        ∙ behind (same_cell y c) e refl (lookup (same_cell y) (zip cells (set chains (place_in cells x) h))) (lookup (same_cell y) (zip cells chains)) (rest (omega (arith, lt)))

-- a cell has a place, or its place is the next one
pub place_cases : (x : Cell) (cells : List Cell) → (list_any (same_cell x) cells ≡ true) × (place_in cells x < length cells) ⊎ (list_any (same_cell x) cells ≡ false)
    × (place_in cells x ≡ length cells)
place_cases x [] = inr (refl, refl)
place_cases x (c ∷ cells) = at (same_cell x c) (place_cases x cells)
  where
    at : (b : Bool) → (list_any (same_cell x) cells ≡ true) × (place_in cells x < length cells) ⊎ (list_any (same_cell x) cells ≡ false) × (place_in cells x ≡ length cells)
        → (b || list_any (same_cell x) cells ≡ true) × (cond (not b) (1 + place_in cells x) 0 < length (c ∷ cells)) ⊎ (b || list_any (same_cell x) cells ≡ false)
        × (cond (not b) (1 + place_in cells x) 0 ≡ length (c ∷ cells))
    at true rest = inl (refl, omega arith)
    at false (inl some) = inl (some.0, omega (arith, some.1))
    at false (inr none) = inr (none.0, omega (arith, none.1))

-- a cell with an empty chain is appended
place_pushed : (x : Cell) (cells : List Cell) → place_in (cells ++ x ∷ []) x ≡ place_in cells x
place_pushed x [] = ap (λ (b : Bool). cond (not b) 1 0) (same_cell-itself x)
place_pushed x (c ∷ cells) = ap (λ n. cond (not (same_cell x c)) (1 + n) 0) (place_pushed x cells)

chain_pushed : (x : Cell) (cells : List Cell) (chains : List Chain) → length chains ≡ length cells → (y : Cell) → chain_at (zip (cells ++ x ∷ []) (chains ++ no_chain ∷ [])) y ≡ chain_at
    (zip cells chains) y
chain_pushed x [] [] n y = at (same_cell y x)
  where
    at : (b : Bool) → unwrap_or (cond b (Some no_chain) None) no_chain ≡ no_chain
    at true = refl
    at false = refl
chain_pushed x [] (h ∷ chains) n y = absurd (omega (arith, n))
chain_pushed x (c ∷ cells) [] n y = absurd (omega (arith, n))
chain_pushed x (c ∷ cells) (h ∷ chains) n y = at (same_cell y c) _ _ (chain_pushed x cells chains (omega (arith, n)) y)
  where
    at : (b : Bool) (o p : Option Chain) → unwrap_or o no_chain ≡ unwrap_or p no_chain → unwrap_or (cond b (Some h) o) no_chain ≡ unwrap_or (cond b (Some h) p) no_chain
    at true o p rest = refl
    at false o p rest = rest

-- the cells and the chains after a cell is added
module _ (x : Cell) (cells : List Cell) (chains : List Chain) (n : length chains ≡ length cells) where
  abbrev cells' : List Cell
  cells' = with_cell cells x

  abbrev chains' : List Chain
  chains' = with_next chains (place_in cells x)

  abbrev Grown : List Cell → List Chain → Type 0
  Grown cs hs = (length hs ≡ length cs) × (place_in cs x ≡ place_in cells x) × (place_in cells x < length cs) × ((y : Cell) → chain_at (zip cs hs) y ≡ chain_at (zip cells chains) y)

  pub grown : Grown cells' chains'
  grown = elim (place_cases x cells) [
    | inl some ↦
        let stay : (place_in cells x == length chains) ≡ false = ne_eqb _ _ (λ e. omega (arith, e, n, some.1)) in
        rw (some.0, stay) (n, refl, some.1, λ y. refl)
    | inr none ↦
        let next : (place_in cells x == length chains) ≡ true = eq-eqb _ _ (none.1 ∙ sym n) in
        rw (none.0, next) (
          length-append chains (no_chain ∷ []) ∙ (ap (λ k. k + 1) n ∙ sym (length-append cells (x ∷ []))),
          place_pushed x cells,
          omega (arith, none.1, length-append cells (x ∷ [])),
          chain_pushed x cells chains n,
        )
  ]

  pub next_within : place_in cells x < length chains'
  next_within = let g = grown in omega (arith, g.0, g.2)

  -- the element at the cell's place is its chain
  pub read : get_or chains' (place_in cells x) no_chain ≡ chain_at (zip cells chains) x
  read = let g = grown in ap (λ k. get_or chains' k no_chain) (sym g.1) ∙ (sym (chain_read x cells' chains' g.0) ∙ g.3 x)

  -- the lookups after another chain is written there
  pub written : (h : Chain) (y : Cell) → chain_at (zip cells' (set chains' (place_in cells x) h)) y ≡ (if same_cell x y then h else chain_at (zip cells chains) y)
  written h y =
      let g = grown in
      ap (λ k. chain_at (zip cells' (set chains' k h)) y) (sym g.1)
      ∙ (replaced x h cells' chains' g.0 (subst (λ k. k < length cells') (sym g.1) g.2) y
      ∙ ap (λ (was : Chain). if same_cell x y then h else was) (g.3 y))

  -- the same if the entries, the place, the cells and the chains were read
  module _ (entries : List (Cell × Chain)) (seen : zip cells chains ≡ entries) (at : ℕ) (at_is : at ≡ place_in cells x) (hs : List Chain) (hs_are : hs ≡ with_next chains at) where
    chains_are : hs ≡ chains'
    chains_are = hs_are ∙ ap (with_next chains) at_is

    pub at_within : at < length hs
    at_within = omega (arith, next_within, at_is, ap length chains_are)

    pub was_chain : (was : Chain) → was ≡ get_or hs at was → was ≡ chain_at entries x
    was_chain was was_is =
        get_or_read_under hs at (length hs) was no_chain was_is at_within refl
        ∙ (ap (λ k. get_or hs k no_chain) at_is
        ∙ (ap (λ (l : List Chain). get_or l (place_in cells x) no_chain) chains_are
        ∙ (read ∙ ap (λ (es : List (Cell × Chain)). chain_at es x) seen)))

    pub lengthened : (cs : List Cell) → cs ≡ cells' → (h : Chain) (y : Cell) → chain_at (zip cs (set hs at h)) y ≡ (if same_cell x y then h else chain_at entries y)
    lengthened cs cs_are h y =
        ap (λ (l : List Cell). chain_at (zip l (set hs at h)) y) cs_are
        ∙ (ap (λ k. chain_at (zip cells' (set hs k h)) y) at_is
        ∙ (ap (λ (l : List Chain). chain_at (zip cells' (set l (place_in cells x) h)) y) chains_are
        ∙ (written h y ∙ ap (λ (es : List (Cell × Chain)). if same_cell x y then h else chain_at es y) seen)))

-- a cell whose chain is not empty has a place
pub busy_within : (x : Cell) (cells : List Cell) (chains : List Chain) → length chains ≡ length cells → 0 < (chain_head (zip cells chains) x).len → place_in cells x < length cells
busy_within x cells chains n some = elim (place_cases x cells) [
  | inl has ↦ has.1
  | inr none ↦ let e = chain_read x cells chains n in absurd (omega (arith, some, ap (λ (h : Chain). h.head.len) e, none_at chains (place_in cells x) (omega (arith, n, none.1))))
]
  where
    none_at : (hs : List Chain) (i : ℕ) → length hs ≤ i → (get_or hs i no_chain).head.len ≡ 0
    none_at [] i le = refl
    none_at (h ∷ hs) zero le = absurd (omega (arith, le))
    none_at (h ∷ hs) (suc i) le = none_at hs i (omega (arith, le))

-- the chain at a cell's place, if the entries and the place were read
module _ (x : Cell) (cells : List Cell) (chains : List Chain) (n : length chains ≡ length cells) (entries : List (Cell × Chain)) (seen : zip cells chains ≡ entries) (at : ℕ)
    (at_is : at ≡ place_in cells x) where
  pub chain_here : (h : Chain) → at < length chains → h ≡ get_or chains at h → h ≡ chain_at entries x
  chain_here h lt is =
      get_or_read_under chains at (length chains) h no_chain is lt refl
      ∙ (ap (λ k. get_or chains k no_chain) at_is ∙ (sym (chain_read x cells chains n) ∙ ap (λ (es : List (Cell × Chain)). chain_at es x) seen))

  pub chain_none : length chains ≤ at → no_chain ≡ chain_at entries x
  chain_none le =
      sym (get_or-eq_default chains no_chain le)
      ∙ (ap (λ k. get_or chains k no_chain) at_is ∙ (sym (chain_read x cells chains n) ∙ ap (λ (es : List (Cell × Chain)). chain_at es x) seen))

  pub busy_at : 0 < (chain_head entries x).len → at < length chains
  busy_at some =
      let lt = busy_within x cells chains n (subst (λ (es : List (Cell × Chain)). 0 < (chain_head es x).len) (sym seen) some) in
      omega (arith, lt, n, at_is)

  pub shortened : at < length chains → (h : Chain) (y : Cell) → chain_at (zip cells (set chains at h)) y ≡ (if same_cell x y then h else chain_at entries y)
  shortened lt h y =
      ap (λ k. chain_at (zip cells (set chains k h)) y) at_is
      ∙ (replaced x h cells chains n (omega (arith, lt, n, at_is)) y ∙ ap (λ (es : List (Cell × Chain)). if same_cell x y then h else chain_at es y) seen)

-- a field of a chain that is chosen from two
pub field_chosen : {X : Type 0} (f : Chain → X) (b : Bool) (c g h : Chain) → c ≡ (if b then g else h) → f c ≡ (if b then f g else f h)
field_chosen f true c g h is = ap f is
field_chosen f false c g h is = ap f is
