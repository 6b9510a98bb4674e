-- The tree text of a setup.
use Rattle.std.specs.Prelude.{ℕ, ℤ, Bool, true, false, if◌then◌else◌, ◌==◌, ◌||◌, List, [], ◌∷◌, ◌++◌, length, map, get_or, codes, decimal, Option, Some, None}
use Rattle.std.specs.List.{flat_map}
use Rattle.std.specs.Fmt.{signed_decimal}
use Rattle.teb_rules.specs.declared.names.Cell.{Cell}
use Rattle.teb_rules.specs.declared.names.ControlKind.{ControlKind}
use Rattle.teb_rules.specs.Setup.{NodeRow}
use Rattle.teb_rules.specs.Tree.{below, is_snapshot, is_timestamp, row}
use Rattle.script_text.specs.Texts.{Words, name_of}
use Rattle.line_words.specs.Words.{control_word}
use Rattle.teb_rules.specs.declared.names.naming.NameBook.{NameBook}

-- a line with a key and its value
abbrev pub setting : List ℕ → List ℕ → List ℕ
setting key value = key ++ codes " = " ++ value ++ codes "\n"

abbrev pub quoted : List ℕ → List ℕ
quoted s = codes "\"" ++ s ++ codes "\""

-- what begins an entry of a list
abbrev pub header : List ℕ → List ℕ
header word = codes "\n[[" ++ word ++ codes "]]\n"

abbrev pub separator : Bool → List ℕ
separator is_first = if is_first then [] else codes ", "

-- items with commas between them
abbrev pub items_text : Bool → Words → List ℕ
items_text is_first [] = []
items_text is_first (item ∷ items) = (separator is_first ++ item) ++ items_text false items

abbrev pub array : Words → List ℕ
array items = codes "[" ++ items_text true items ++ codes "]"

-- the names with these numbers
abbrev pub names_array : Words → List ℕ → List ℕ
names_array names ns = array (map (λ n. quoted (name_of names n)) ns)

abbrev pub tables_array : Words → List ℕ
tables_array tables = array (map quoted tables)

abbrev pub steps_array : Words → List (List ℕ) → List ℕ
steps_array tables steps = array (map (names_array tables) steps)

abbrev pub table_field : List ℕ → List ℕ
table_field table = codes "    { table = " ++ quoted table

abbrev pub key_field : ℕ → List ℕ
key_field key = codes ", key = " ++ decimal key

abbrev pub value_field : ℤ → List ℕ
value_field value = codes ", value = " ++ signed_decimal value ++ codes " },\n"

abbrev pub row_item : Words → Cell × ℤ → List ℕ
row_item tables r = table_field (name_of tables r.0.table.0) ++ key_field r.0.key ++ value_field r.1

-- the rows, a line for each
abbrev pub rows_setting : Words → List (Cell × ℤ) → List ℕ
rows_setting tables [] = []
rows_setting tables (r ∷ rs) = codes "row = [\n" ++ flat_map (row_item tables) (r ∷ rs) ++ codes "]\n"

abbrev pub parent_setting : Words → Option ℕ → List ℕ
parent_setting nodes None = []
parent_setting nodes (Some p) = setting (codes "parent") (quoted (name_of nodes p))

abbrev pub types_setting : Words → List ℕ → List ℕ
types_setting types [] = []
types_setting types (k ∷ ks) = setting (codes "types") (names_array types (k ∷ ks))

abbrev pub has_batches : ControlKind → Bool
has_batches c = is_timestamp c || is_snapshot c

abbrev pub batch_setting : NodeRow → List ℕ
batch_setting r = if has_batches r.control then setting (codes "batch") (decimal r.batch) else []

abbrev pub order_setting : Bool → List ℕ
order_setting ordered = if ordered then setting (codes "commit") (quoted (codes "ordered")) else []

abbrev pub part_settings : ℕ → ℕ → List ℕ
part_settings part parts = if parts == 1 then [] else setting (codes "of") (decimal parts) ++ setting (codes "part") (decimal part)

abbrev pub parameter_settings : NodeRow → List ℕ
parameter_settings r = batch_setting r ++ order_setting r.ordered ++ part_settings r.part r.parts

module _ (names : NameBook) where
  abbrev pub node_settings : NodeRow → List ℕ
  node_settings r = setting (codes "control") (quoted (control_word r.control)) ++ parent_setting names.nodes r.parent ++ types_setting names.types r.types ++ parameter_settings r

  abbrev pub node_text : List NodeRow → ℕ → List ℕ
  node_text T n = header (codes "node") ++ setting (codes "name") (quoted (name_of names.nodes n)) ++ node_settings (row T n)

  abbrev pub nodes_text : List NodeRow → List ℕ
  nodes_text T = flat_map (node_text T) (below (length T))

  abbrev pub type_text : List (List (List ℕ)) → ℕ → List ℕ
  type_text profiles k = header (codes "type") ++ setting (codes "name") (quoted (name_of names.types k)) ++ setting (codes "steps") (steps_array names.tables (get_or profiles k []))

  abbrev pub types_text : List (List (List ℕ)) → List ℕ
  types_text profiles = flat_map (type_text profiles) (below (length names.types))

abbrev pub head_text : ℕ → Words → List (Cell × ℤ) → List ℕ
head_text format tables rows = setting (codes "format") (decimal format) ++ setting (codes "tables") (tables_array tables) ++ rows_setting tables rows

-- the text of this format, with these names, profiles, nodes and rows
abbrev pub tree_text : ℕ → NameBook → List (List (List ℕ)) → List NodeRow → List (Cell × ℤ) → List ℕ
tree_text format names profiles T rows = head_text format names.tables rows ++ types_text names profiles ++ nodes_text names T
