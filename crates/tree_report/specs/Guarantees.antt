-- What a tree guarantees, as text.
use Rattle.std.specs.Prelude.{◌≡◌, ◌↔◌, ℕ, Bool, if◌then◌else◌, List, [], ◌∷◌, ◌++◌, length, codes, IsTrue}
use Rattle.std.specs.List.{flat_map}
use Rattle.teb_rules.specs.Setup.{NodeRow, Setup}
use Rattle.teb_rules.specs.Tree.{below}
use Rattle.script_text.specs.Texts.{Words, line_text, name_of}
use Rattle.guarantees.specs.Shapes.{HidesUncommitted, keeps_time, orders_by_commits}
use Rattle.tree_guarantees.specs.Conditions.{IsCondition, type_has_batches}
use Rattle.tree_report.specs.declared.sentences.TheConstants.{ALWAYS, ALONE, ORDERED, STRICT}

abbrev pub verdict : Bool → List ℕ
verdict holds = if holds then codes "guaranteed:" else codes "not guaranteed:"

abbrev pub sentence_line : Bool → List ℕ → List ℕ
sentence_line holds sentence = line_text (verdict holds ∷ sentence ∷ [])

-- whether the reads of a type wait
abbrev pub reads_line : Bool → List ℕ → List ℕ
reads_line holds name = line_text (verdict holds ∷ codes "each read and each scan of a running transaction of type" ∷ name ∷ codes "is granted at once, unless it is refused" ∷ [])

abbrev pub type_line : Words → List NodeRow → ℕ → List ℕ
type_line types T k = reads_line (type_has_batches T k) (name_of types k)

abbrev pub types_text : Words → List NodeRow → List ℕ
types_text types T = flat_map (type_line types T) (below (length types))

abbrev pub always_text : List ℕ
always_text = ALWAYS.now

abbrev pub shape_text : Bool → Bool → Bool → List ℕ
shape_text strict ordered alone = sentence_line strict STRICT.now ++ sentence_line ordered ORDERED.now ++ sentence_line alone ALONE.now

abbrev pub end_line : List ℕ
end_line = line_text (codes "end" ∷ [])

-- the sentences that hold of every tree, those that depend on the shape, and one for each type; each answer is the condition of its law
pub record AreGuarantees (types : Words) (T : List NodeRow) (text : List ℕ) : Type 0 where
  pub strict : Bool
  pub ordered : Bool
  pub alone : Bool
  pub is_strict : IsCondition keeps_time T strict
  pub is_ordered : IsCondition orders_by_commits T ordered
  pub is_alone : (S : Setup) → S.tree ≡ T → (IsTrue alone ↔ HidesUncommitted S)
  pub shown : text ≡ always_text ++ shape_text strict ordered alone ++ types_text types T ++ end_line
