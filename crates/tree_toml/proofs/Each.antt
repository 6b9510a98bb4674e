-- A loop over the values of an array that have made `a` so far: a value with a fault, one more value, the end.
use Rattle.std.proofs.Common.{◌≡◌, ℕ, ◌+◌, ◌<◌, ◌≤◌, List, ◌∷◌, drop, length, get_or, map, Result, Ok, Err, sym, ◌∙◌, drop_of_length-le}
use Rattle.std.proofs.lemmas.List.{drop_more}
use Rattle.toml.specs.Data.{Data}
use Rattle.toml.specs.View.{view}
use Rattle.toml.specs.declared.value.Value.{Value}
use Rattle.tree_toml.specs.Reading.{each, UnlessMemory}
use Rattle.tree_toml.specs.declared.fault.TreeTextError.{TreeTextError}
use Rattle.tree_toml.specs.declared.fault.TreeTextError.TheVariants.{NotToml, Field, Shape, Misplaced, OutOfMemory}

-- the values from an index on are the one there and those after it
here : (vs : List Value) (k : ℕ) (x : Value) → x ≡ get_or vs k x → k < length vs → map view (drop k vs) ≡ view x ∷ map view (drop (k + 1) vs)
here vs k x is h = rw (drop_more vs k x h, ← is)

pub each_fault : {A : Type 0} (f : ℕ → A → Data → Result A TreeTextError) (i : ℕ) (a : A) (vs : List Value) (k : ℕ) (x : Value) (e : TreeTextError) (whole : Result A TreeTextError)
    → each f i a (map view (drop k vs)) ≡ whole → x ≡ get_or vs k x → k < length vs → f i a (view x) ≡ Err e → whole ≡ Err e
unfolding each
each_fault f i a vs k x e whole so_far is h bad = sym so_far ∙ rw (here vs k x is h, bad)

pub unless_map : (e : TreeTextError) {P Q : Type 0} → (P → Q) → UnlessMemory e P → UnlessMemory e Q
unless_map NotToml f h = f h
unless_map (Field p w) f h = f h
unless_map (Shape n w) f h = f h
unless_map (Misplaced n r) f h = f h
unless_map OutOfMemory f h = tt

pub each_unless : {A : Type 0} (f : ℕ → A → Data → Result A TreeTextError) (i : ℕ) (a : A) (vs : List Value) (k : ℕ) (x : Value) (e : TreeTextError) (whole : Result A TreeTextError)
    → each f i a (map view (drop k vs)) ≡ whole → x ≡ get_or vs k x → k < length vs → UnlessMemory e (f i a (view x) ≡ Err e) → UnlessMemory e (whole ≡ Err e)
each_unless f i a vs k x e whole so_far is h bad = unless_map e (each_fault f i a vs k x e whole so_far is h) bad

pub each_more : {A : Type 0} (f : ℕ → A → Data → Result A TreeTextError) (i : ℕ) (a b : A) (vs : List Value) (k : ℕ) (x : Value) (whole : Result A TreeTextError)
    → each f i a (map view (drop k vs)) ≡ whole → x ≡ get_or vs k x → k < length vs → f i a (view x) ≡ Ok b → each f (i + 1) b (map view (drop (k + 1) vs)) ≡ whole
unfolding each
each_more f i a b vs k x whole so_far is h good = rw (here vs k x is h, good) at so_far

pub each_end : {A : Type 0} (f : ℕ → A → Data → Result A TreeTextError) (i : ℕ) (a : A) (vs : List Value) (k : ℕ) (whole : Result A TreeTextError)
    → each f i a (map view (drop k vs)) ≡ whole → length vs ≤ k → whole ≡ Ok a
unfolding each
each_end f i a vs k whole so_far h = sym so_far ∙ rw (drop_of_length-le vs {i = k} h)
