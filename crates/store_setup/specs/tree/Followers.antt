-- What follows each node on a path.
use Rattle.std.specs.Prelude.{◌≡◌, ℕ, ◌<◌, cond, eqb, List, [], ◌∷◌, length, get_or}
use Rattle.teb_rules.specs.declared.names.Node.{Node}
use Rattle.store_setup.specs.declared.tree.path.Follower.{Follower}
use Rattle.store_setup.specs.declared.tree.path.Follower.TheVariants.{Absent, Nobody, Child}

abbrev pub first_of : List Node → Follower
first_of [] = Nobody
first_of (m ∷ ms) = Child m

-- what follows node n; a node that is not on the path has no follower
abbrev pub follower_in : ℕ → List Node → Follower
follower_in n [] = Absent
follower_in n (m ∷ ms) = cond (eqb m.0 n) (first_of ms) (follower_in n ms)

-- fs has the followers of the first nodes of the tree, by their numbers
abbrev pub AreFollowers : List Follower → List Node → Type 0
AreFollowers fs ns = (i : ℕ) → i < length fs → get_or fs i Absent ≡ follower_in i ns
