-- The setup of the shop is whole, and its nodes form a tree.
use Rattle.std.proofs.Common.{◌≡◌, ℕ, zero, suc, ◌+◌, ◌<◌, ◌≤◌, List, [], ◌∷◌, ◌++◌, length, map, ℤ, pos, refl, subst, arith, None, Err}
use Rattle.std.specs.Prelude.{All}
use Rattle.std.specs.List.{IsDistinct}
use Rattle.std.proofs.lemmas.List.Elements.{All-nil, All-cons, All-append, All-map}
use Rattle.std.proofs.lemmas.List.{length-map, get_or-map, map-append}
use Rattle.teb_rules.specs.names.Names.{is_name}
use Rattle.teb_rules.specs.declared.names.Cell.{Cell}
use Rattle.teb_rules.specs.declared.names.Kind.{Kind}
use Rattle.teb_rules.specs.names.Rows.{IsAscending}
use Rattle.teb_rules.specs.history.Phases.{numbers}
use Rattle.teb_rules.specs.Setup.{NodeRow}
use Rattle.teb_rules.specs.Tree.{no_row, below, climb, way}
use Rattle.teb_rules.specs.Accepted.{IsSound, tree_fault, homes}
use Rattle.store_setup.specs.tree.Answers.{Answers}
use Rattle.store_setup.specs.tree.Grown.{Grown, row_of, rows_of}
use Rattle.store_setup.specs.declared.tree.fault.TreeError.{TreeError}
use Rattle.store_setup.specs.declared.tree.fault.TreeError.TheVariants.{Shape, Misplaced, OutOfMemory}
use Rattle.store_setup.specs.declared.tree.rows.NodeRow.{NodeRow as Row}
use Rattle.store_setup.specs.Sound.{IsWhole, IsNamed, HasNames, rules_of}
use Rattle.shop_load.specs.Shop.{shop, shop_nodes, shop_rows, shop_profiles, filled}

no_fault : tree_fault shop_nodes 4 ≡ None
unfolding tree_fault homes below way climb
no_fault = refl

-- the properties of each node
abbrev IsType : ℕ → Type 0
IsType k = k < 4

abbrev Fits : NodeRow → Type 0
Fits r = (1 ≤ r.batch) × (r.batch ≤ 1024) × (1 ≤ r.parts) × (r.parts ≤ 16) × (r.part < r.parts)

types_below : All (λ (r : NodeRow). All IsType r.types) shop_nodes
types_below zero d h = All-nil IsType
types_below (suc zero) d h = All-cons IsType 0 [] (omega arith) (All-nil IsType)
types_below (suc (suc zero)) d h = All-nil IsType
types_below (suc (suc (suc zero))) d h = All-cons IsType 1 (2 ∷ []) (omega arith) (All-cons IsType 2 [] (omega arith) (All-nil IsType))
types_below (suc (suc (suc (suc zero)))) d h = All-cons IsType 3 [] (omega arith) (All-nil IsType)
types_below (suc (suc (suc (suc (suc n))))) d h = absurd (omega (arith, h))

nodes_fit : All Fits shop_nodes
nodes_fit zero d h = (omega arith, omega arith, omega arith, omega arith, omega arith)
nodes_fit (suc zero) d h = (omega arith, omega arith, omega arith, omega arith, omega arith)
nodes_fit (suc (suc zero)) d h = (omega arith, omega arith, omega arith, omega arith, omega arith)
nodes_fit (suc (suc (suc zero))) d h = (omega arith, omega arith, omega arith, omega arith, omega arith)
nodes_fit (suc (suc (suc (suc zero)))) d h = (omega arith, omega arith, omega arith, omega arith, omega arith)
nodes_fit (suc (suc (suc (suc (suc n))))) d h = absurd (omega (arith, h))

-- each step has a table
abbrev Filled : List ℕ → Type 0
Filled step = 0 < length step

one_filled : (step : List ℕ) → Filled step → All Filled (step ∷ [])
one_filled step f = All-cons Filled step [] f (All-nil Filled)

two_filled : (a b : List ℕ) → Filled a → Filled b → All Filled (a ∷ b ∷ [])
two_filled a b f g = All-cons Filled a (b ∷ []) f (one_filled b g)

steps_filled : All (λ (steps : List (List ℕ)). All Filled steps) shop_profiles
steps_filled zero d h = one_filled (0 ∷ 1 ∷ 2 ∷ []) (omega arith)
steps_filled (suc zero) d h = two_filled (0 ∷ []) (1 ∷ []) (omega arith) (omega arith)
steps_filled (suc (suc zero)) d h = two_filled (2 ∷ []) (1 ∷ []) (omega arith) (omega arith)
steps_filled (suc (suc (suc zero))) d h = two_filled (1 ∷ []) (2 ∷ []) (omega arith) (omega arith)
steps_filled (suc (suc (suc (suc n)))) d h = absurd (omega (arith, h))

shop_sound : IsSound (rules_of shop)
shop_sound = record {
  some = omega arith;
  parts = λ n h. (nodes_fit n no_row h).4;
  accepted = no_fault;
  profiles = record { filled = λ k i h j. steps_filled k [] h i [] j };
}

-- the rows
filled_cells : (table : ℕ) (value : ℤ) (last : ℕ) → table < 3 → All (λ (r : Cell × ℤ). r.0.table.0 < 3) (filled table value last)
filled_cells table value last h = All-map (λ (r : Cell × ℤ). r.0.table.0 < 3) (λ (key : ℕ). (record { table = record { 0 = table }; key = key }, value)) (numbers last) (λ k d low. h)

cells_below : All (λ (r : Cell × ℤ). r.0.table.0 < 3) shop_rows
cells_below =
    let P = λ (r : Cell × ℤ). r.0.table.0 < 3 in
    All-append P (filled 0 (pos 100) 16 ++ filled 1 (pos 0) 16) (filled 2 (pos 1000) 16)
    (All-append P (filled 0 (pos 100) 16) (filled 1 (pos 0) 16) (filled_cells 0 (pos 100) 16 (omega arith)) (filled_cells 1 (pos 0) 16 (omega arith)))
    (filled_cells 2 (pos 1000) 16 (omega arith))

pub filled_none : (table : ℕ) (value : ℤ) → filled table value 0 ≡ []
unfolding numbers
filled_none table value = refl

-- one more key
pub filled_more : (table : ℕ) (value : ℤ) (last : ℕ) → filled table value (last + 1) ≡ filled table value last ++ (record { table = record { 0 = table }; key = last + 1 }, value) ∷ []
unfolding numbers
filled_more table value last =
    let e : last + 1 ≡ suc last = omega arith in
    rw e (map-append (λ (key : ℕ). (record { table = record { 0 = table }; key = key }, value)) (numbers last) (suc last ∷ []))

rows_ascend : IsAscending shop_rows
unfolding numbers
rows_ascend = refl

shop_whole : IsWhole shop
shop_whole = record {
  sound = shop_sound;
  profiles = refl;
  types = refl;
  few_nodes = omega arith;
  few_tables = omega arith;
  ranked = omega arith;
  cells = cells_below;
}

pub ascends : (rows : List (Cell × ℤ)) → rows ≡ shop_rows → IsAscending rows
ascends rows e = rw e rows_ascend

-- rows of nodes that are those of the shop
unmapped : {X Y : Type 0} (P : Y → Type 0) (f : X → Y) (xs : List X) → All P (map f xs) → All (λ x. P (f x)) xs
unmapped P f xs all k d h = subst P (get_or-map f xs k d (f d) h) (all k (f d) (rw length-map h))

module _ (rows : List Row) (are : rows_of rows ≡ shop_nodes) where
  of_each : (P : NodeRow → Type 0) → All P shop_nodes → All (λ (r : Row). P (row_of r)) rows
  of_each P all = unmapped P row_of rows (rw are all)

  pub kinds_of : All (λ (r : Row). All (λ (k : Kind). k.0 < 4) r.types.items) rows
  kinds_of = λ k d h. unmapped IsType (λ (x : Kind). x.0) _ (of_each (λ (r : NodeRow). All IsType r.types) types_below k d h)

  fit : All (λ (r : Row). Fits (row_of r)) rows
  fit = of_each Fits nodes_fit

  pub batches_of : All (λ (r : Row). (1 ≤ r.batch) × (r.batch ≤ 1024)) rows
  batches_of = λ k d h. ((fit k d h).0, (fit k d h).1)

  pub parts_of : All (λ (r : Row). (1 ≤ r.of) × (r.of ≤ 16) × (r.part < r.of)) rows
  parts_of = λ k d h. ((fit k d h).2, (fit k d h).3, (fit k d h).4)

-- they form a tree, so the only error is out of memory
pub no_error : (rows : List Row) (e : TreeError) → rows_of rows ≡ shop_nodes → Answers (Err e) (rows_of rows) 4 → e ≡ OutOfMemory
no_error rows (Shape n w) are a = absurd (let z : tree_fault (rows_of rows) 4 ≡ None = rw are no_fault in cc)
no_error rows (Misplaced n w) are a = absurd (let z : tree_fault (rows_of rows) 4 ≡ None = rw are no_fault in cc)
no_error rows OutOfMemory are a = refl

-- the parts make up the shop
pub whole_of : (tables types nodes : List (List ℕ)) (profiles : List (List (List ℕ))) (tree : Grown) (rows : List (Cell × ℤ)) → tables ≡ shop.tables → types ≡ shop.types → nodes ≡ shop.nodes
    → profiles ≡ shop.profiles → tree ≡ shop.tree → rows ≡ shop.rows
    → IsWhole (record { tables = tables; types = types; nodes = nodes; profiles = profiles; tree = tree; rows = rows; format = 1 })
whole_of tables types nodes profiles tree rows a b c d e f = rw (a, b, c, d, e, f) shop_whole

-- and each node has a name
pub named_of : (tables types nodes : List (List ℕ)) (profiles : List (List (List ℕ))) (tree : Grown) (rows : List (Cell × ℤ)) → nodes ≡ shop.nodes → tree ≡ shop.tree
    → IsNamed (record { tables = tables; types = types; nodes = nodes; profiles = profiles; tree = tree; rows = rows; format = 1 })
named_of tables types nodes profiles tree rows a b = rw (a, b) (let named : IsNamed shop = refl in named)

shop_names : HasNames shop
unfolding IsDistinct is_name
shop_names = record { tables = refl; types = refl; nodes = refl; tables_differ = ((refl, (refl, tt)), ((refl, tt), (tt, tt))) }

pub names_of : (tables types nodes : List (List ℕ)) (profiles : List (List (List ℕ))) (tree : Grown) (rows : List (Cell × ℤ)) → tables ≡ shop.tables → types ≡ shop.types → nodes ≡ shop.nodes
    → HasNames (record { tables = tables; types = types; nodes = nodes; profiles = profiles; tree = tree; rows = rows; format = 1 })
names_of tables types nodes profiles tree rows a b c =
    rw (a, b, c) (record { tables = shop_names.tables; types = shop_names.types; nodes = shop_names.nodes; tables_differ = shop_names.tables_differ })
