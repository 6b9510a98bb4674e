-- What the laws use of an accepted tree.
use Rattle.std.specs.Prelude.{◌≡◌, ℕ, ◌<◌, ◌≢◌, [], length, Some, None, IsTrue}
use Rattle.teb_rules.specs.declared.names.Spot.{Spot}
use Rattle.teb_rules.specs.Setup.{Setup, among}
use Rattle.teb_rules.specs.Tree.{row, leaf, way, is_locks, is_pipeline, is_timestamp, is_snapshot}

-- m is an ancestor of n
abbrev pub IsAbove : Setup → ℕ → ℕ → Type 0
IsAbove S m n = IsTrue (among m (way S.tree n)) × (m ≢ n)

pub record TreeFacts (S : Setup) : Type 0 where
  pub some : 0 < length S.tree
  pub root : (row S.tree 0).parent ≡ None
  pub rooted : (n : ℕ) → n < length S.tree → (row S.tree n).parent ≡ None → n ≡ 0
  pub parents : (n p : ℕ) → (row S.tree n).parent ≡ Some p → p < n
  pub leaves : (n p : ℕ) → (row S.tree n).parent ≡ Some p → (row S.tree p).types ≡ []
  pub housed : (s : Spot) → s.kind.0 < S.types → (leaf S.tree s < length S.tree) × IsTrue (among s.kind.0 (row S.tree (leaf S.tree s)).types)
  pub snapshots : (n : ℕ) → IsTrue (is_snapshot (row S.tree n).control) → n ≡ 0
  pub timestamps : (m n : ℕ) → IsAbove S m n → IsTrue (is_locks (row S.tree m).control) → IsTrue (is_timestamp (row S.tree n).control) → IsTrue (row S.tree n).ordered
  pub pipelines : (m n : ℕ) → IsAbove S m n → IsTrue (is_pipeline (row S.tree m).control) → IsTrue (is_timestamp (row S.tree n).control) → ⊥
