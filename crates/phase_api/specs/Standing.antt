-- The controls of all nodes of a tree.
use Rattle.std.specs.Prelude.{◌≡◌, ℕ, List, length, slice_get, Some}
use Rattle.teb_rules.specs.declared.history.Event.{Event}
use Rattle.teb_rules.specs.Setup.{Setup}

-- there is a control for each node; that of node n is the n-th, and stands for the history
pub record StandAll {K : Type 0} (node_number : K → ℕ) (stands : K → Setup → List Event → Type 0) (controls : List K) (S : Setup) (H : List Event) : Type 0 where
  pub one_each : length controls ≡ length S.tree
  pub each_numbered : (n : ℕ) (c : K) → slice_get controls n ≡ Some c → node_number c ≡ n
  pub each_stands : (n : ℕ) (c : K) → slice_get controls n ≡ Some c → stands c S H
