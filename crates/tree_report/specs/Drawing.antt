-- A tree drawn as text: a line for each node, below its parent, behind lines and corners.
use Rattle.std.specs.Prelude.{◌≡◌, ℕ, zero, suc, Bool, true, false, if◌then◌else◌, ◌&&◌, ◌||◌, ◌==◌, not, List, [], ◌∷◌, ◌++◌, length, map, codes, decimal}
use Rattle.std.specs.List.{flat_map}
use Rattle.teb_rules.specs.declared.names.naming.NameBook.{NameBook}
use Rattle.teb_rules.specs.Accepted.{is_child_of}
use Rattle.teb_rules.specs.Setup.{NodeRow}
use Rattle.teb_rules.specs.Tree.{below, is_snapshot, is_timestamp, row}
use Rattle.script_text.specs.Texts.{Words, line_text, name_of}
use Rattle.line_words.specs.Words.{control_word}
use Rattle.tree_report.specs.declared.drawing.TheConstants.{BRANCH, CORNER, LINE, SPACE, MOST_LEVELS}

-- the size of its batches, above the leaves of a node that has batches
abbrev pub has_batch : NodeRow → Bool
has_batch r = (is_timestamp r.control || is_snapshot r.control) && (length r.types == 0)

abbrev pub batch_words : NodeRow → Words
batch_words r = if has_batch r then codes "batch" ∷ decimal r.batch ∷ [] else []

abbrev pub order_words : NodeRow → Words
order_words r = if r.ordered then codes "ordered" ∷ [] else []

-- which of the parts of its types' instances it takes, if there are several
abbrev pub part_words : NodeRow → Words
part_words r = if r.parts == 1 then [] else codes "part" ∷ decimal r.part ∷ codes "of" ∷ decimal r.parts ∷ []

abbrev pub parameter_words : NodeRow → Words
parameter_words r = (batch_words r ++ order_words r) ++ part_words r

abbrev pub stem : Bool → List ℕ
stem is_last = if is_last then SPACE.now else LINE.now

abbrev pub branch : Bool → List ℕ
branch is_last = if is_last then CORNER.now else BRANCH.now

abbrev pub type_words : Words → List ℕ → Words
type_words names [] = []
type_words names (k ∷ ks) = codes "types" ∷ map (name_of names) (k ∷ ks)

-- a node, if it is below another one
abbrev pub one_child : List NodeRow → ℕ → ℕ → List ℕ
one_child T p m = if is_child_of p (row T m).parent then m ∷ [] else []

-- the nodes below a node
abbrev pub children : List NodeRow → ℕ → List ℕ
children T p = flat_map (one_child T p) (below (length T))

module _ (names : NameBook) where
  abbrev pub node_words : ℕ → NodeRow → Words
  node_words n r = name_of names.nodes n ∷ control_word r.control ∷ parameter_words r ++ type_words names.types r.types

  module _ (T : List NodeRow) where
    abbrev pub node_line : ℕ → List ℕ
    node_line n = line_text (node_words n (row T n))

    -- the first of some nodes with the same parent is drawn; the stem goes before the lines below it
    pub record IsBranch (nodes prefix old new : List ℕ) (n : ℕ) (stemmed : List ℕ) : Type 0 where
      pub rest : List ℕ
      pub first : nodes ≡ n ∷ rest
      pub drawn : new ≡ old ++ ((prefix ++ branch (length rest == 0)) ++ node_line n)
      pub stemmed_is : stemmed ≡ prefix ++ stem (length rest == 0)

    -- nodes with the same parent, each with what is below it; `inner` draws that
    abbrev pub branches : (List ℕ → ℕ → List ℕ) → List ℕ → List ℕ → List ℕ
    branches inner prefix [] = []
    branches inner prefix (m ∷ ms) = let is_last = length ms == 0 in
        ((prefix ++ branch is_last) ++ node_line m) ++ inner (prefix ++ stem is_last) m ++ branches inner prefix ms

    -- what is below a node, at most so many levels
    unfoldable pub drawn : ℕ → List ℕ → ℕ → List ℕ
    drawn zero prefix p = []
    drawn (suc d) prefix p = branches (drawn d) prefix (children T p)

    -- the root, and all that is below it: a tree has at most eight levels
    abbrev pub drawing : List ℕ
    drawing = node_line 0 ++ drawn MOST_LEVELS [] 0
