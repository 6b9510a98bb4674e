-- The lines that tell of a bad tree.
use Rattle.std.specs.Prelude.{ℕ, ◌++◌, List, [], ◌∷◌, codes, decimal}
use Rattle.store_setup.specs.declared.tree.fault.Rule.{Rule}
use Rattle.store_setup.specs.declared.tree.fault.Rule.TheVariants as rule
use Rattle.store_setup.specs.declared.tree.fault.ShapeWhy.{ShapeWhy}
use Rattle.store_setup.specs.declared.tree.fault.ShapeWhy.TheVariants as shape
use Rattle.tree_toml.specs.declared.fault.ListName.{ListName}
use Rattle.tree_toml.specs.declared.fault.ListName.TheVariants as list
use Rattle.tree_toml.specs.declared.fault.Key.{Key}
use Rattle.tree_toml.specs.declared.fault.Key.TheVariants as key
use Rattle.tree_toml.specs.declared.fault.FieldWhy.{FieldWhy}
use Rattle.tree_toml.specs.declared.fault.FieldWhy.TheVariants as why
use Rattle.tree_toml.specs.declared.fault.TreeTextError.{TreeTextError}
use Rattle.tree_toml.specs.declared.fault.TreeTextError.TheVariants.{NotToml, Field, Shape, Misplaced, OutOfMemory}
use Rattle.tree_toml.specs.declared.text.Piece.{Piece}
use Rattle.tree_toml.specs.declared.text.Piece.TheVariants as piece

abbrev pub piece_text : Piece → List ℕ
piece_text (piece.Text s) = s.now
piece_text (piece.Number n) = decimal n

abbrev pub pieces_text : List Piece → List ℕ
pieces_text [] = []
pieces_text (p ∷ ps) = piece_text p ++ pieces_text ps

abbrev pub joined : List (List ℕ) → List ℕ
joined [] = []
joined (w ∷ ws) = w ++ joined ws

abbrev pub list_word : ListName → List ℕ
list_word list.Top = codes "top"
list_word list.Tables = codes "tables"
list_word list.Types = codes "type"
list_word list.Nodes = codes "node"
list_word list.Rows = codes "row"

abbrev pub key_word : Key → List ℕ
key_word key.Whole = []
key_word key.Format = codes "format"
key_word key.Tables = codes "tables"
key_word key.Types = codes "type"
key_word key.Nodes = codes "node"
key_word key.Rows = codes "row"
key_word key.Name = codes "name"
key_word key.Steps = codes "steps"
key_word key.Control = codes "control"
key_word key.Parent = codes "parent"
key_word key.Members = codes "types"
key_word key.Batch = codes "batch"
key_word key.Commit = codes "commit"
key_word key.Of = codes "of"
key_word key.Part = codes "part"
key_word key.Table = codes "table"
key_word key.CellKey = codes "key"
key_word key.Value = codes "value"

-- the key of the top, or the top itself
abbrev pub top_word : Key → List ℕ
top_word key.Whole = codes "top"
top_word k = key_word k

-- a key stands behind its entry and a dot
abbrev pub dot_word : Key → List ℕ
dot_word key.Whole = []
dot_word k = codes "."

abbrev pub why_word : FieldWhy → List ℕ
why_word why.Unknown = codes "unknown"
why_word why.Missing = codes "missing"
why_word why.Form = codes "form"
why_word why.Name = codes "name"
why_word why.Repeated = codes "repeated"
why_word why.NoSuch = codes "nosuch"
why_word why.Range = codes "range"
why_word why.Many = codes "many"

abbrev pub shape_word : ShapeWhy → List ℕ
shape_word shape.Root = codes "root"
shape_word shape.Parent = codes "parent"
shape_word shape.Depth = codes "depth"
shape_word shape.Mixed = codes "mixed"
shape_word shape.Empty = codes "empty"
shape_word shape.Twice = codes "twice"
shape_word shape.Homeless = codes "homeless"

abbrev pub rule_word : Rule → List ℕ
rule_word rule.P1 = codes "P1"
rule_word rule.P2 = codes "P2"
rule_word rule.P3 = codes "P3"

abbrev pub entry_parts : ListName → ℕ → Key → List (List ℕ) → List (List ℕ)
entry_parts l i k more = list_word l ∷ codes "[" ∷ decimal i ∷ codes "]" ∷ dot_word k ∷ key_word k ∷ more

abbrev pub field_parts : ListName → ℕ → Key → FieldWhy → List (List ℕ)
field_parts list.Top i k w = codes "bad tree: " ∷ top_word k ∷ codes " " ∷ why_word w ∷ codes "\n" ∷ []
field_parts l i k w = codes "bad tree: " ∷ entry_parts l i k (codes " " ∷ why_word w ∷ codes "\n" ∷ [])

-- the line of a fault; out of memory has none
abbrev pub fault_text : TreeTextError → List ℕ
fault_text NotToml = joined (codes "bad tree: not toml\n" ∷ [])
fault_text (Field p w) = joined (field_parts p.list p.index p.key w)
fault_text (Shape n w) = joined (codes "bad tree: node[" ∷ decimal n.0 ∷ codes "] shape " ∷ shape_word w ∷ codes "\n" ∷ [])
fault_text (Misplaced n r) = joined (codes "bad tree: node[" ∷ decimal n.0 ∷ codes "] breaks " ∷ rule_word r ∷ codes "\n" ∷ [])
fault_text OutOfMemory = []
