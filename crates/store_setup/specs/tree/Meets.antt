-- The node at which two paths part.
use Rattle.std.specs.Prelude.{◌≡◌, ◌≢◌, ℕ, cond, eqb, List, [], ◌∷◌, IsTrue}
use Rattle.teb_rules.specs.declared.names.Spot.{Spot}
use Rattle.teb_rules.specs.declared.history.Event.{Event}
use Rattle.teb_rules.specs.history.Phases.{spot_of}
use Rattle.teb_rules.specs.Setup.{NodeRow, Setup, among}
use Rattle.teb_rules.specs.Tree.{on_path, way, meet}

-- the last of the nodes that two lists share from their beginning on, or else the node above them
abbrev pub last_shared : ℕ → List ℕ → List ℕ → ℕ
last_shared above [] ns = above
last_shared above (m ∷ ms) [] = above
last_shared above (m ∷ ms) (n ∷ ns) = let r = last_shared m ms ns in cond (eqb m n) r above

-- the lowest node on the paths of a and b: each other node on both is on the way to it
pub record IsLowest (T : List NodeRow) (a b : Spot) (n : ℕ) : Type 0 where
  pub on_first : IsTrue (on_path T n a)
  pub on_second : IsTrue (on_path T n b)
  pub lowest : (m : ℕ) → IsTrue (on_path T m a) → IsTrue (on_path T m b) → IsTrue (among m (way T n))

-- the node at which two transactions with these spots meet, whatever the history
abbrev pub IsMeet : List NodeRow → Spot → Spot → ℕ → Type 0
IsMeet T a b n = (S : Setup) (H : List Event) (t u : ℕ) → S.tree ≡ T → spot_of H t ≡ a → spot_of H u ≡ b → t ≢ u → meet S H t u ≡ n
