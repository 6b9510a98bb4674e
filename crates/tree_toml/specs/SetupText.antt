-- What a text of a tree is: a setup, or its first fault.
use Rattle.std.specs.Prelude.{ℕ, Bool, false, ◌||◌, ◌==◌, if◌then◌else◌, List, [], ◌∷◌, length, codes, Result, Ok, Err, Option, Some, None}
use Rattle.std.specs.List.{list_all}
use Rattle.std.specs.Str.{is_utf8}
use Rattle.teb_rules.specs.declared.names.ControlKind.TheVariants.{Locks}
use Rattle.teb_rules.specs.Setup.{NodeRow}
use Rattle.teb_rules.specs.Accepted.{Fault, tree_fault}
use Rattle.teb_rules.specs.Accepted as fault
use Rattle.store_setup.specs.tree.Grown.{Grown}
use Rattle.store_setup.specs.declared.tree.fault.Rule.TheVariants as rule
use Rattle.store_setup.specs.declared.tree.fault.ShapeWhy.TheVariants as shape
use Rattle.store_setup.specs.SetupView.{SetupView}
use Rattle.toml.specs.Data.{Members}
use Rattle.toml.specs.Parse.{parse_document}
use Rattle.tree_toml.specs.declared.fault.ListName.TheVariants as list
use Rattle.tree_toml.specs.declared.fault.Key.TheVariants as key
use Rattle.tree_toml.specs.declared.fault.FieldWhy.TheVariants.{Unknown}
use Rattle.tree_toml.specs.declared.fault.TreeTextError.{TreeTextError}
use Rattle.tree_toml.specs.declared.fault.TreeTextError.TheVariants.{NotToml, Shape, Misplaced}
use Rattle.tree_toml.specs.Reading.{◌>>=◌, fault_at, at}
use Rattle.tree_toml.specs.Fields.{at_top, all_known}
use Rattle.tree_toml.specs.Tables.{format_of, tables_of}
use Rattle.tree_toml.specs.Types.{types_of}
use Rattle.tree_toml.specs.Nodes.{nodes_of}
use Rattle.tree_toml.specs.Rows.{rows_of}

abbrev pub shape_text : ℕ → Fault → TreeTextError
shape_text n fault.Root = Shape (record { 0 = n }) shape.Root
shape_text n fault.Parent = Shape (record { 0 = n }) shape.Parent
shape_text n fault.Depth = Shape (record { 0 = n }) shape.Depth
shape_text n fault.Mixed = Shape (record { 0 = n }) shape.Mixed
shape_text n fault.Empty = Shape (record { 0 = n }) shape.Empty
shape_text n fault.Twice = Shape (record { 0 = n }) shape.Twice
shape_text n fault.Homeless = Shape (record { 0 = n }) shape.Homeless
shape_text n fault.P1 = Misplaced (record { 0 = n }) rule.P1
shape_text n fault.P2 = Misplaced (record { 0 = n }) rule.P2
shape_text n fault.P3 = Misplaced (record { 0 = n }) rule.P3

-- the tree of these rows, for so many types, or its first fault
abbrev pub grown : List NodeRow → ℕ → Result Grown TreeTextError
grown rows types = elim (tree_fault rows types) [ None ↦ Ok (record { rows = rows; types = types }) | Some w ↦ Err (shape_text w.0 w.1) ]

-- the lists, one after another, and then the tree
unfoldable pub lists_in : ℕ → Members → Result SetupView TreeTextError
lists_in format ms =
    tables_of ms >>= (λ tables.
    types_of tables ms >>= (λ types.
    nodes_of format types.names ms >>= (λ nodes.
    rows_of tables ms >>= (λ rows.
    grown nodes.rows (length types.names) >>= (λ tree.
    Ok (record { tables = tables; types = types.names; nodes = nodes.names; profiles = types.profiles; tree = tree; rows = rows; format = format }))))))

unfoldable pub setup_in : Members → Result SetupView TreeTextError
setup_in ms =
    if all_known list.Top 1 ms then at (at_top key.Format) (format_of ms) >>= (λ format. lists_in format ms)
    else Err (fault_at (at_top key.Whole) Unknown)

-- spaces, tabs, carriage returns and line feeds
abbrev pub is_blank_byte : ℕ → Bool
is_blank_byte b = b == 32 || b == 9 || b == 13 || b == 10

abbrev pub is_blank : List ℕ → Bool
is_blank text = list_all is_blank_byte text

-- one table, and one type in one locks leaf
abbrev pub plain_row : NodeRow
plain_row = record { control = Locks; parent = None; types = 0 ∷ []; batch = 64; ordered = false; part = 0; parts = 1 }

abbrev pub plain : SetupView
plain = record {
  tables = codes "t" ∷ [];
  types = codes "any" ∷ [];
  nodes = codes "root" ∷ [];
  profiles = ((0 ∷ []) ∷ []) ∷ [];
  tree = record { rows = plain_row ∷ []; types = 1 };
  rows = [];
  format = 1;
}

abbrev pub document_in : Option Members → Result SetupView TreeTextError
document_in None = Err NotToml
document_in (Some ms) = setup_in ms

unfoldable pub document_of : List ℕ → Result SetupView TreeTextError
document_of text = if is_utf8 text then document_in (parse_document text) else Err NotToml

-- the setup that a text is, or why it is none
unfoldable pub setup_of_text : List ℕ → Result SetupView TreeTextError
setup_of_text text = if is_blank text then Ok plain else document_of text
