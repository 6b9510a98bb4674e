-- The shop, on whose store the generated load runs.
use Rattle.std.specs.Prelude.{ℕ, ℤ, pos, false, List, [], ◌∷◌, ◌++◌, map, codes, Option, Some, None}
use Rattle.teb_rules.specs.declared.names.Cell.{Cell}
use Rattle.teb_rules.specs.declared.names.ControlKind.{ControlKind}
use Rattle.teb_rules.specs.declared.names.ControlKind.TheVariants.{Locks, Pipeline, Snapshot}
use Rattle.teb_rules.specs.history.Phases.{numbers}
use Rattle.teb_rules.specs.Setup.{NodeRow}
use Rattle.store_setup.specs.SetupView.{SetupView}

-- a node that takes all instances of its types
abbrev pub node : ControlKind → Option ℕ → List ℕ → ℕ → NodeRow
node control parent types batch = record { control = control; parent = parent; types = types; batch = batch; ordered = false; part = 0; parts = 1 }

-- reports stand in `view`; new orders and payments in `sales`, and deliveries in `ship`, both under `upd`
abbrev pub shop_nodes : List NodeRow
shop_nodes =
    node Snapshot None [] 16 ∷
    node Locks (Some 0) (0 ∷ []) 64 ∷
    node Locks (Some 0) [] 64 ∷
    node Pipeline (Some 2) (1 ∷ 2 ∷ []) 64 ∷
    node Pipeline (Some 2) (3 ∷ []) 64 ∷ []

-- a table with this value under each key from 1 to the last
abbrev pub filled : ℕ → ℤ → ℕ → List (Cell × ℤ)
filled table value last = map (λ key. (record { table = record { 0 = table }; key = key }, value)) (numbers last)

abbrev pub shop_rows : List (Cell × ℤ)
shop_rows = filled 0 (pos 100) 16 ++ filled 1 (pos 0) 16 ++ filled 2 (pos 1000) 16

-- a report has one step, which uses all tables; a new order goes from the stock to the orders, a payment from an account to the
-- orders, and a delivery from the orders to an account
abbrev pub shop_profiles : List (List (List ℕ))
shop_profiles = ((0 ∷ 1 ∷ 2 ∷ []) ∷ []) ∷ ((0 ∷ []) ∷ (1 ∷ []) ∷ []) ∷ ((2 ∷ []) ∷ (1 ∷ []) ∷ []) ∷ ((1 ∷ []) ∷ (2 ∷ []) ∷ []) ∷ []

abbrev pub shop : SetupView
shop = record {
  tables = codes "stock" ∷ codes "orders" ∷ codes "acct" ∷ [];
  types = codes "report" ∷ codes "new_order" ∷ codes "payment" ∷ codes "delivery" ∷ [];
  nodes = codes "root" ∷ codes "view" ∷ codes "upd" ∷ codes "sales" ∷ codes "ship" ∷ [];
  profiles = shop_profiles;
  tree = record { rows = shop_nodes; types = 4 };
  rows = shop_rows;
  format = 1;
}
