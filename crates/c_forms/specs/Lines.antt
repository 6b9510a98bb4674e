-- The line of a form of a reply.
use Rattle.std.specs.Prelude.{ℕ, Bool, true, ◌&&◌, nat_lt, if◌then◌else◌, List, length, Option, Some, None}
use Rattle.teb_rules.specs.declared.names.Cell.{Cell}
use Rattle.teb_rules.specs.declared.names.Node.{Node}
use Rattle.teb_rules.specs.declared.names.Cause.{Cause}
use Rattle.teb_rules.specs.declared.names.Cause.TheVariants as cause
use Rattle.teb_rules.specs.declared.names.Reply.{Reply}
use Rattle.teb_rules.specs.declared.names.Reply.TheVariants as reply
use Rattle.teb_rules.specs.declared.names.naming.NameBook.{NameBook}
use Rattle.script_text.specs.Texts.{reply_text}
use Rattle.c_forms.specs.declared.replies.ReplyForm.{ReplyForm}
use Rattle.c_forms.specs.Replies.{reply_in}

module _ (names : NameBook) where
  abbrev pub is_node : Node → Bool
  is_node n = nat_lt n.0 (length names.nodes)

  abbrev pub is_cell : Cell → Bool
  is_cell x = nat_lt x.table.0 (length names.tables)

  -- whether each node and each table of it has a name
  abbrev pub is_cause_named : Cause → Bool
  is_cause_named (cause.Late n r x) = is_node n && is_cell x
  is_cause_named (cause.First n w x) = is_node n && is_cell x
  is_cause_named (cause.Pivot n a b c d) = is_node n
  is_cause_named (cause.Newer n u) = is_node n
  is_cause_named _ = true

  abbrev pub is_reply_named : Reply → Bool
  is_reply_named (reply.Again u n) = is_node n
  is_reply_named (reply.Aborted c) = is_cause_named c
  is_reply_named _ = true

  abbrev pub line_of_reply : ℕ → Option Reply → Option (List ℕ)
  line_of_reply s None = None
  line_of_reply s (Some r) = if is_reply_named r then Some (reply_text names (record { session = record { 0 = s }; reply = r })) else None

  -- the line, to this session, of the reply that a form is
  abbrev pub line_in : ℕ → ReplyForm → Option (List ℕ)
  line_in s f = line_of_reply s (reply_in f)
