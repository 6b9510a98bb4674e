-- Steps of which each was made.
use Rattle.std.proofs.Common.{◌≡◌, ℕ, ◌+◌, List, [], ◌∷◌, length, Result, Ok, Err, refl, subst, arith}
use Rattle.toml.specs.Data.{Data}
use Rattle.tree_toml.specs.Reading.{each, at, ◌>>=◌}
use Rattle.tree_toml.specs.declared.fault.Place.{Place}
use Rattle.tree_toml.specs.declared.fault.FieldWhy.{FieldWhy}
use Rattle.tree_toml.specs.declared.fault.TreeTextError.{TreeTextError}

-- both steps were made
pub bind_ok : {A B E : Type 0} (r : Result A E) (f : A → Result B E) (b : B) → (r >>= f) ≡ Ok b → (c : A) × (r ≡ Ok c) × (f c ≡ Ok b)
bind_ok (Ok c) f b e = (c, refl, e)
bind_ok (Err w) f b e = absurd (cc)

pub at_ok : {A : Type 0} (p : Place) (r : Result A FieldWhy) (x : A) → at p r ≡ Ok x → r ≡ Ok x
at_ok p (Ok y) x e = (cc)
at_ok p (Err w) x e = absurd (cc)

pub ok_is : {A E : Type 0} (r : Result A E) (x y : A) → r ≡ Ok x → r ≡ Ok y → x ≡ y
ok_is r x y is e = (cc)

-- a property that each step keeps
pub each_keeps : {A : Type 0} (P : A → Type 0) (f : ℕ → A → Data → Result A TreeTextError) → ((i : ℕ) (a : A) (d : Data) (b : A) → P a → f i a d ≡ Ok b → P b)
    → (i : ℕ) (a : A) (ds : List Data) (b : A) → P a → each f i a ds ≡ Ok b → P b
unfolding each
each_keeps P f step i a [] b p e = subst P (ok_is _ _ _ refl e) p
each_keeps P f step i a (d ∷ ds) b p e =
    let h = bind_ok (f i a d) _ b e in
    each_keeps P f step (i + 1) h.0 ds b (step i a d h.0 p h.1) h.2

-- each step adds one
pub each_count : {A : Type 0} (size : A → ℕ) (f : ℕ → A → Data → Result A TreeTextError) → ((i : ℕ) (a : A) (d : Data) (b : A) → f i a d ≡ Ok b → size b ≡ size a + 1)
    → (i : ℕ) (a : A) (ds : List Data) (b : A) → each f i a ds ≡ Ok b → size b ≡ size a + length ds
unfolding each
each_count size f step i a [] b e = let same : a ≡ b = ok_is _ _ _ refl e in rw (← same) (omega arith)
each_count size f step i a (d ∷ ds) b e =
    let h = bind_ok (f i a d) _ b e in
    omega (arith, step i a d h.0 h.1, each_count size f step (i + 1) h.0 ds b h.2)
