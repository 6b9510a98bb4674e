-- The parts of an input, between its separator lines.
use Rattle.std.specs.Prelude.{◌≡◌, ℕ, List, [], ◌∷◌, map, Some, None}
use Rattle.std.specs.Borrow.{Bor}
use Rattle.script_text.specs.Input.{parts_of}

-- these are the parts of the bytes: each but the last one stands before the first separator line, and the later ones are those of what stands behind it
abbrev pub AreParts : List ℕ → List (List ℕ) → Type 0
AreParts bytes [] = ⊥
AreParts bytes (p ∷ []) = (parts_of bytes ≡ None) × (p ≡ bytes)
AreParts bytes (p ∷ q ∷ more) = (rest : List ℕ) × (parts_of bytes ≡ Some (p, rest)) × AreParts rest (q ∷ more)

-- a tree part, and the script part behind it
abbrev pub Pair : Type 0
Pair = List ℕ × List ℕ

abbrev pub pairs_of : List (List ℕ) → List Pair
pairs_of (tree ∷ script ∷ more) = (tree, script) ∷ pairs_of more
pairs_of _ = []

-- what these references point to
abbrev pub texts : List (Bor (List ℕ)) → List (List ℕ)
texts parts = map (λ p. p.now) parts
