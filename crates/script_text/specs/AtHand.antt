-- Names with their numbers.
use Rattle.std.specs.Prelude.{◌≡◌, ℕ, ◌<◌, List, [], Some, get_or, length, true}
use Rattle.teb_rules.specs.names.Names.{is_name, number_of}

-- each of these that is not empty is a name, and its number is its place
unfoldable pub AreNumbered : List (List ℕ) → List (List ℕ) → Type 0
AreNumbered names ws = (i : ℕ) → 0 < length (get_or ws i []) → (is_name (get_or ws i []) ≡ true) × (number_of names (get_or ws i []) ≡ Some i)
