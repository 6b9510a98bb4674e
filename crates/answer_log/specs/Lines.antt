-- The lines of answers, in the names of a tree.
use Rattle.std.specs.Prelude.{ℕ, Bool, true, ◌&&◌, nat_lt, if◌then◌else◌, List, [], length}
use Rattle.std.specs.List.{flat_map}
use Rattle.teb_rules.specs.declared.names.Cell.{Cell}
use Rattle.teb_rules.specs.declared.names.Node.{Node}
use Rattle.teb_rules.specs.declared.names.Cause.{Cause}
use Rattle.teb_rules.specs.declared.names.Cause.TheVariants as cause
use Rattle.teb_rules.specs.declared.names.Reply.{Reply}
use Rattle.teb_rules.specs.declared.names.Reply.TheVariants as reply
use Rattle.teb_rules.specs.declared.names.naming.NameBook.{NameBook}
use Rattle.script_text.specs.declared.Answered.{Answered}
use Rattle.script_text.specs.Texts.{reply_text}

module _ (names : NameBook) where
  abbrev pub is_node_named : Node → Bool
  is_node_named n = nat_lt n.0 (length names.nodes)

  abbrev pub is_cell_named : Cell → Bool
  is_cell_named x = nat_lt x.table.0 (length names.tables)

  abbrev pub is_cause_named : Cause → Bool
  is_cause_named (cause.Late n r x) = is_node_named n && is_cell_named x
  is_cause_named (cause.First n w x) = is_node_named n && is_cell_named x
  is_cause_named (cause.Pivot n a b c d) = is_node_named n
  is_cause_named (cause.Newer n u) = is_node_named n
  is_cause_named _ = true

  -- whether all that a reply names has a name
  abbrev pub is_reply_named : Reply → Bool
  is_reply_named (reply.Again u n) = is_node_named n
  is_reply_named (reply.Aborted c) = is_cause_named c
  is_reply_named _ = true

  -- the line of an answer, where all that it names has a name
  abbrev pub line_of : Answered → List ℕ
  line_of a = if is_reply_named a.reply then reply_text names a else []

  abbrev pub lines_of : List Answered → List ℕ
  lines_of answers = flat_map line_of answers
