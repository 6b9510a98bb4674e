-- What holds of each tree, for its callers.
use Rattle.std.specs.Prelude.{◌≡◌, ℕ, ◌<◌, ◌≤◌, length, Some, None, IsTrue}
use Rattle.teb_rules.specs.Setup.{among}
use Rattle.teb_rules.specs.Tree.{row}
use Rattle.teb_rules.specs.Accepted.{tree_fault}
use Rattle.store_setup.specs.tree.Grown.{Grown}

-- 1 to 64 nodes for fewer than 256 types, without a fault: each part below its number of parts, each batch 1 to 1,024, each parent an earlier node, each type below the number of types
pub record IsAccepted (T : Grown) : Type 0 where
  pub some : 0 < length T.rows
  pub few : length T.rows ≤ 64
  pub few_types : T.types < 256
  pub faultless : tree_fault T.rows T.types ≡ None
  pub parts : (n : ℕ) → n < length T.rows → (row T.rows n).part < (row T.rows n).parts
  pub batches : (n : ℕ) → n < length T.rows → (1 ≤ (row T.rows n).batch) × ((row T.rows n).batch ≤ 1024)
  pub parents : (n p : ℕ) → (row T.rows n).parent ≡ Some p → p < n
  pub kinds : (n k : ℕ) → n < length T.rows → IsTrue (among k (row T.rows n).types) → k < T.types
