-- The types under a node, found row by row.
use Rattle.std.proofs.Common.{◌≡◌, ℕ, zero, suc, ◌+◌, Bool, true, false, cond, ◌||◌, eqb, List, [], ◌∷◌, ◌++◌, filter, Option, Some, None, refl, sym, ◌∙◌, ap, arith, append-nil}
use Rattle.std.specs.List.{list_any}
use Rattle.teb_rules.specs.declared.names.Kind.{Kind}
use Rattle.teb_rules.proofs.lemmas.names.Bools.{or_true, or_false}
use Rattle.store_setup.specs.tree.Grown.{kind_numbers}
use Rattle.teb_rules.specs.Setup.{NodeRow, among}
use Rattle.teb_rules.specs.Tree.{below, climb, row}

or_assoc : (a b c : Bool) → (a || (b || c)) ≡ ((a || b) || c)
or_assoc true b c = refl
or_assoc false b c = refl

-- among the nodes of a climb with a given list are those of the climb and those of the list
climb_lower : (T : List NodeRow) (m d n : ℕ) (l : List ℕ) → among m (climb T d n l) ≡ (among m (climb T d n []) || among m l)
unfolding climb
climb_lower T m zero n l = or_assoc (eqb n m) false (among m l)
climb_lower T m (suc d) n l = go (row T n).parent (λ p. climb_lower T m d p)
  where
    go : (o : Option ℕ) → ((p : ℕ) (l : List ℕ) → among m (climb T d p l) ≡ (among m (climb T d p []) || among m l))
        → among m (elim o as (λ z. List ℕ) [ None ↦ n ∷ l | Some p ↦ climb T d p (n ∷ l) ]) ≡ (among m (elim o as (λ z. List ℕ) [ None ↦ n ∷ [] | Some p ↦ climb T d p (n ∷ []) ]) || among m l)
    go None ih = or_assoc (eqb n m) false (among m l)
    go (Some p) ih = ih p (n ∷ l) ∙ or_assoc (among m (climb T d p [])) (eqb n m) (among m l)
        ∙ ap (λ (b : Bool). b || among m l) (ap (λ (b : Bool). among m (climb T d p []) || b) (sym (or_false (eqb n m))) ∙ sym (ih p (n ∷ [])))

-- a climb that starts at a node other than m and has no levels left
pub climb_stops : (T : List NodeRow) (m d n : ℕ) → eqb n m ≡ false → d ≡ 0 → among m (climb T d n []) ≡ false
unfolding climb
climb_stops T m zero n e z = ap (λ (b : Bool). b || false) e
climb_stops T m (suc d) n e z = absurd (omega arith)

pub climb_here : (T : List NodeRow) (m d n : ℕ) → eqb n m ≡ true → among m (climb T d n []) ≡ true
unfolding climb
climb_here T m zero n e = ap (λ (b : Bool). b || false) e
climb_here T m (suc d) n e = go (row T n).parent
  where
    go : (o : Option ℕ) → among m (elim o as (λ z. List ℕ) [ None ↦ n ∷ [] | Some p ↦ climb T d p (n ∷ []) ]) ≡ true
    go None = ap (λ (b : Bool). b || false) e
    go (Some p) = climb_lower T m d p (n ∷ []) ∙ ap (λ (b : Bool). among m (climb T d p []) || (b || false)) e ∙ or_true (among m (climb T d p []))

pub climb_root : (T : List NodeRow) (m d n : ℕ) → eqb n m ≡ false → (row T n).parent ≡ None → among m (climb T d n []) ≡ false
unfolding climb
climb_root T m zero n e r = ap (λ (b : Bool). b || false) e
climb_root T m (suc d) n e r = ap (λ (o : Option ℕ). among m (elim o as (λ z. List ℕ) [ None ↦ n ∷ [] | Some p ↦ climb T d p (n ∷ []) ])) r ∙ ap (λ (b : Bool). b || false) e

pub climb_up : (T : List NodeRow) (m d c n p : ℕ) → eqb n m ≡ false → (row T n).parent ≡ Some p → d ≡ c + 1 → among m (climb T d n []) ≡ among m (climb T c p [])
unfolding climb
climb_up T m zero c n p e r z = absurd (omega arith)
climb_up T m (suc d) c n p e r z =
    let same : d ≡ c = omega arith in
    ap (λ (o : Option ℕ). among m (elim o as (λ z. List ℕ) [ None ↦ n ∷ [] | Some p ↦ climb T d p (n ∷ []) ])) r
    ∙ climb_lower T m d p (n ∷ []) ∙ ap (λ (b : Bool). among m (climb T d p []) || (b || false)) e ∙ or_false (among m (climb T d p [])) ∙ ap (λ (k : ℕ). among m (climb T k p [])) same

-- a test of one more number
any_append : (p : ℕ → Bool) (xs ys : List ℕ) → list_any p (xs ++ ys) ≡ (list_any p xs || list_any p ys)
any_append p [] ys = refl
any_append p (x ∷ xs) ys = ap (λ (b : Bool). p x || b) (any_append p xs ys) ∙ or_assoc (p x) (list_any p xs) (list_any p ys)

pub any_below : (p : ℕ → Bool) (n m : ℕ) → n ≡ m + 1 → list_any p (below n) ≡ (list_any p (below m) || p m)
unfolding below
any_below p zero m e = absurd (omega arith)
any_below p (suc n) m e =
    let same : n ≡ m = omega arith in
    any_append p (below n) (n ∷ []) ∙ ap (λ (b : Bool). list_any p (below n) || b) (or_false (p n)) ∙ ap (λ (k : ℕ). list_any p (below k) || p k) same

pub any_none : (p : ℕ → Bool) (n : ℕ) → n ≡ 0 → list_any p (below n) ≡ false
unfolding below
any_none p zero e = refl
any_none p (suc n) e = absurd (omega arith)

filter_append : (p : ℕ → Bool) (xs : List ℕ) (y : ℕ) → filter p (xs ++ y ∷ []) ≡ filter p xs ++ cond (p y) (y ∷ []) []
filter_append p [] y = refl
filter_append p (x ∷ xs) y = go (p x) (filter_append p xs y)
  where
    go : (b : Bool) → filter p (xs ++ y ∷ []) ≡ filter p xs ++ cond (p y) (y ∷ []) [] → cond b (x ∷ filter p (xs ++ y ∷ [])) (filter p (xs ++ y ∷ [])) ≡ cond b (x ∷ filter p xs) (filter p xs)
        ++ cond (p y) (y ∷ []) []
    go true ih = ap (λ (l : List ℕ). x ∷ l) ih
    go false ih = ih

pub filter_below : (p : ℕ → Bool) (n : ℕ) → filter p (below (n + 1)) ≡ filter p (below n) ++ cond (p n) (n ∷ []) []
filter_below p n = let e : n + 1 ≡ suc n = omega arith in ap (λ (k : ℕ). filter p (below k)) e ∙ (unfold below in filter_append p (below n) n)

pub has_among : (kinds : List Kind) (k : ℕ) → list_any (λ (j : Kind). eqb j.0 k) kinds ≡ among k (kind_numbers kinds)
has_among [] k = refl
has_among (j ∷ kinds) k = ap (λ (b : Bool). eqb j.0 k || b) (has_among kinds k)

-- one more type, which is under the node
pub kinds_more : (p : ℕ → Bool) (n : ℕ) (kinds : List Kind) → kind_numbers kinds ≡ filter p (below n) → p n ≡ true → kind_numbers (kinds ++ record { 0 = n } ∷ []) ≡ filter p (below (n + 1))
kinds_more p n kinds h q = map_more kinds n ∙ ap (λ (l : List ℕ). l ++ n ∷ []) h ∙ sym (filter_below p n ∙ ap (λ (b : Bool). filter p (below n) ++ cond b (n ∷ []) []) q)
  where
    map_more : (kinds : List Kind) (n : ℕ) → kind_numbers (kinds ++ record { 0 = n } ∷ []) ≡ kind_numbers kinds ++ n ∷ []
    map_more [] n = refl
    map_more (k ∷ kinds) n = ap (λ (l : List ℕ). k.0 ∷ l) (map_more kinds n)

pub kinds_same : (p : ℕ → Bool) (n : ℕ) (kinds : List Kind) → kind_numbers kinds ≡ filter p (below n) → p n ≡ false → kind_numbers kinds ≡ filter p (below (n + 1))
kinds_same p n kinds h q = h ∙ sym (filter_below p n ∙ ap (λ (b : Bool). filter p (below n) ++ cond b (n ∷ []) []) q ∙ append-nil (filter p (below n)))

pub any_found : (p : ℕ → Bool) (n m : ℕ) → n ≡ m + 1 → list_any p (below m) ≡ true → true ≡ list_any p (below n)
any_found p n m e h = sym (any_below p n m e ∙ ap (λ (b : Bool). b || p m) h)

pub any_last : (p : ℕ → Bool) (n m : ℕ) (b : Bool) → n ≡ m + 1 → list_any p (below m) ≡ false → p m ≡ b → b ≡ list_any p (below n)
any_last p n m b e h q = sym (any_below p n m e ∙ ap (λ (c : Bool). c || p m) h ∙ q)
