-- Steps that may fail, one after another, and what a call answers of them.
use Rattle.std.specs.Prelude.{◌≡◌, ℕ, ◌+◌, List, [], ◌∷◌, Result, Ok, Err, Option, Some, None}
use Rattle.toml.specs.Data.{Data}
use Rattle.tree_toml.specs.declared.fault.Place.{Place}
use Rattle.tree_toml.specs.declared.fault.FieldWhy.{FieldWhy}
use Rattle.tree_toml.specs.declared.fault.FieldWhy.TheVariants.{Missing, Form}
use Rattle.tree_toml.specs.declared.fault.TreeTextError.{TreeTextError}
use Rattle.tree_toml.specs.declared.fault.TreeTextError.TheVariants.{NotToml, Field, Shape, Misplaced, OutOfMemory}

-- the next step, where the first was made
infixl 10 ◌>>=◌
abbrev pub ◌>>=◌ : {A B E : Type 0} → Result A E → (A → Result B E) → Result B E
(Ok x) >>= f = f x
(Err e) >>= f = Err e

abbrev pub required : {A : Type 0} → Option A → Result A FieldWhy
required None = Err Missing
required (Some x) = Ok x

abbrev pub formed : {A : Type 0} → Option A → Result A FieldWhy
formed None = Err Form
formed (Some x) = Ok x

abbrev pub fault_at : Place → FieldWhy → TreeTextError
fault_at p w = Field p w

abbrev pub at : {A : Type 0} → Place → Result A FieldWhy → Result A TreeTextError
at p (Ok x) = Ok x
at p (Err w) = Err (fault_at p w)

-- the values of an array one after another, numbered, each with what those before it made
unfoldable pub each : {A : Type 0} → (ℕ → A → Data → Result A TreeTextError) → ℕ → A → List Data → Result A TreeTextError
each f i a [] = Ok a
each f i a (d ∷ ds) = f i a d >>= (λ b. each f (i + 1) b ds)

-- what was returned, seen by view, is this
abbrev pub Gives : {X Y E : Type 0} → (X → Y) → Result X E → Result Y E → Type 0
Gives view (Ok x) read = read ≡ Ok (view x)
Gives view (Err e) read = read ≡ Err e

-- the same, out of memory aside
abbrev pub UnlessMemory : TreeTextError → Type 0 → Type 0
UnlessMemory OutOfMemory P = Unit {0}
UnlessMemory NotToml P = P
UnlessMemory (Field p w) P = P
UnlessMemory (Shape n w) P = P
UnlessMemory (Misplaced n r) P = P

abbrev pub Answers : {X Y : Type 0} → (X → Y) → Result X TreeTextError → Result Y TreeTextError → Type 0
Answers view (Ok x) read = read ≡ Ok (view x)
Answers view (Err e) read = UnlessMemory e (read ≡ Err e)
