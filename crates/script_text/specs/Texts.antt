-- The texts of replies, events and reports. A text is made of lines, and a line of words: one space stands between two words, and
-- a line feed behind each line.
use Rattle.std.specs.Prelude.{ℕ, ◌++◌, ◌==◌, if◌then◌else◌, map, List, [], ◌∷◌, codes, decimal, ℤ, Option, Some, None, slice_get, unwrap_or}
use Rattle.std.specs.List.{join_with_byte, flat_map}
use Rattle.std.specs.Fmt.{signed_decimal}
use Rattle.teb_rules.specs.declared.names.Txn.{Txn}
use Rattle.teb_rules.specs.declared.names.Cell.{Cell}
use Rattle.teb_rules.specs.declared.names.Cause.{Cause}
use Rattle.teb_rules.specs.declared.names.Cause.TheVariants as cause
use Rattle.teb_rules.specs.declared.names.Refusal.{Refusal}
use Rattle.teb_rules.specs.declared.names.Refusal.TheVariants as refusal
use Rattle.teb_rules.specs.declared.names.Reply.{Reply}
use Rattle.teb_rules.specs.declared.names.Reply.TheVariants as reply
use Rattle.teb_rules.specs.declared.names.naming.NameBook.{NameBook}
use Rattle.teb_rules.specs.declared.history.Event.{Event}
use Rattle.teb_rules.specs.declared.history.Event.TheVariants as event
use Rattle.script_text.specs.declared.Answered.{Answered}
use Rattle.script_text.specs.declared.error.LineWhy.{LineWhy}
use Rattle.script_text.specs.declared.error.LineWhy.TheVariants as why

abbrev pub Words : Type 0
Words = List (List ℕ)

abbrev pub line_text : Words → List ℕ
line_text words = join_with_byte 32 words ++ codes "\n"

-- the name with this number
abbrev pub name_of : Words → ℕ → List ℕ
name_of names i = unwrap_or (slice_get names i) []

abbrev pub txn_text : Txn → List ℕ
txn_text t = codes "t" ++ decimal t.0

abbrev pub value_text : Option ℤ → List ℕ
value_text None = codes "none"
value_text (Some v) = signed_decimal v

-- why a line is bad
abbrev pub why_word : LineWhy → List ℕ
why_word why.Session = codes "session"
why_word why.Verb = codes "verb"
why_word why.Count = codes "count"
why_word why.Name = codes "name"
why_word why.Number = codes "number"

abbrev pub refusal_text : Refusal → List ℕ
refusal_text refusal.BadSession = codes "bad-session"
refusal_text refusal.InTxn = codes "in-txn"
refusal_text refusal.UnknownType = codes "unknown-type"
refusal_text refusal.Full = codes "full"
refusal_text refusal.NoTxn = codes "no-txn"
refusal_text refusal.UnknownTable = codes "unknown-table"
refusal_text refusal.Prepared = codes "prepared"
refusal_text refusal.NotInProfile = codes "not-in-profile"
refusal_text refusal.Range = codes "range"
refusal_text refusal.NotRead = codes "not-read"
refusal_text refusal.Overflow = codes "overflow"

-- an instance is told where it is not 0
abbrev pub instance_words : ℕ → Words
instance_words i = if i == 0 then [] else decimal i ∷ []

module _ (names : NameBook) where
  abbrev pub cell_words : Cell → Words
  cell_words x = name_of names.tables x.table.0 ∷ decimal x.key ∷ []

  abbrev pub cause_words : Cause → Words
  cause_words (cause.Late n r x) = codes "late" ∷ name_of names.nodes n.0 ∷ txn_text r ∷ cell_words x
  cause_words (cause.First n w x) = codes "first" ∷ name_of names.nodes n.0 ∷ txn_text w ∷ cell_words x
  cause_words (cause.Pivot n a b c d) = codes "pivot" ∷ name_of names.nodes n.0 ∷ txn_text a ∷ txn_text b ∷ txn_text c ∷ txn_text d ∷ []
  cause_words (cause.Newer n u) = codes "newer" ∷ name_of names.nodes n.0 ∷ txn_text u ∷ []
  cause_words (cause.After u) = codes "after" ∷ txn_text u ∷ []
  cause_words cause.Asked = codes "asked" ∷ []
  cause_words cause.Ended = codes "ended" ∷ []

  abbrev pub reply_words : Reply → Words
  reply_words (reply.Begun t) = codes "begun" ∷ txn_text t ∷ []
  reply_words (reply.Value None) = codes "none" ∷ []
  reply_words (reply.Value (Some v)) = codes "value" ∷ signed_decimal v ∷ []
  reply_words (reply.Values vs) = codes "values" ∷ map value_text vs
  reply_words reply.Done = codes "done" ∷ []
  reply_words reply.Prepared = codes "prepared" ∷ []
  reply_words reply.Committed = codes "committed" ∷ []
  reply_words (reply.Again u n) = codes "again" ∷ txn_text u ∷ codes "at" ∷ name_of names.nodes n.0 ∷ []
  reply_words (reply.Aborted c) = codes "aborted" ∷ cause_words c
  reply_words (reply.Refused r) = codes "refused" ∷ refusal_text r ∷ []

  -- a reply behind the number of its session
  abbrev pub reply_text : Answered → List ℕ
  reply_text a = line_text (decimal a.session.0 ∷ reply_words a.reply)

  abbrev pub event_words : Event → Words
  event_words (event.Began t s k i) = codes "began" ∷ txn_text t ∷ decimal s.0 ∷ name_of names.types k.0 ∷ instance_words i
  event_words (event.Got t x u v) = codes "got" ∷ txn_text t ∷ cell_words x ++ txn_text u ∷ value_text v ∷ []
  event_words (event.Put t x v) = codes "put" ∷ txn_text t ∷ cell_words x ++ value_text v ∷ []
  event_words (event.Ready t) = codes "ready" ∷ txn_text t ∷ []
  event_words (event.Done t) = codes "done" ∷ txn_text t ∷ []
  event_words (event.Gone t c) = codes "gone" ∷ txn_text t ∷ cause_words c
  event_words (event.Told t) = codes "told" ∷ txn_text t ∷ []

  abbrev pub event_text : Event → List ℕ
  event_text e = line_text (event_words e)

  -- a row, on a line that begins with this word
  abbrev pub row_text : List ℕ → Cell × ℤ → List ℕ
  row_text word r = line_text (word ∷ cell_words r.0 ++ signed_decimal r.1 ∷ [])

  abbrev pub rows_text : List ℕ → List (Cell × ℤ) → List ℕ
  rows_text word rows = flat_map (row_text word) rows

  -- the serial order on one line, the final rows, and the end
  abbrev pub report_text : List Txn → List (Cell × ℤ) → List ℕ
  report_text order rows = line_text (codes "order" ∷ map txn_text order) ++ rows_text (codes "row") rows ++ line_text (codes "end" ∷ [])

  -- how many commits are recovered, the rows that they leave, and the end
  abbrev pub recovered_text : ℕ → List (Cell × ℤ) → List ℕ
  recovered_text commits rows = line_text (codes "recovered" ∷ decimal commits ∷ []) ++ rows_text (codes "row") rows ++ line_text (codes "end" ∷ [])

  abbrev pub starts_text : List (Cell × ℤ) → List ℕ
  starts_text rows = rows_text (codes "start") rows
