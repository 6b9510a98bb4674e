-- The text of a word, and the word of a control.
use Rattle.std.specs.Prelude.{ℕ, List, codes, decimal}
use Rattle.std.specs.Fmt.{signed_decimal}
use Rattle.teb_rules.specs.declared.names.ControlKind.{ControlKind}
use Rattle.teb_rules.specs.declared.names.ControlKind.TheVariants.{Locks, Pipeline, Timestamp, Snapshot}
use Rattle.script_text.specs.Texts.{txn_text}
use Rattle.line_words.specs.declared.Word.{Word}
use Rattle.line_words.specs.declared.Word.TheVariants as word

abbrev pub word_text : Word → List ℕ
word_text (word.Text s) = s.now
word_text (word.Natural n) = decimal n
word_text (word.Txn t) = txn_text t
word_text (word.Value v) = signed_decimal v

-- a control, as the tree text names it
abbrev pub control_word : ControlKind → List ℕ
control_word Locks = codes "locks"
control_word Pipeline = codes "pipeline"
control_word Timestamp = codes "timestamp"
control_word Snapshot = codes "snapshot"
