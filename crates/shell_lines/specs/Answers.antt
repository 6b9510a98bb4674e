-- The texts of answers.
use Rattle.std.specs.Prelude.{ℕ, Bool, true, ◌&&◌, ◌==◌, nat_le, filter, map, take, List, [], ◌∷◌, ◌++◌, codes, decimal, ℤ, Option, Some, None}
use Rattle.std.specs.List.{flat_map}
use Rattle.teb_rules.specs.declared.names.Cell.{Cell}
use Rattle.teb_rules.specs.declared.names.Session.{Session}
use Rattle.teb_rules.specs.declared.names.Table.{Table}
use Rattle.teb_rules.specs.declared.names.Txn.{Txn}
use Rattle.teb_rules.specs.declared.names.naming.NameBook.{NameBook}
use Rattle.script_text.specs.declared.error.LineWhy.{LineWhy}
use Rattle.script_text.specs.Named.{ReplyNamed}
use Rattle.script_text.specs.Texts.{line_text, reply_text, rows_text, txn_text, why_word}
use Rattle.shell_lines.specs.declared.line.Checkpoint.{Checkpoint}
use Rattle.shell_lines.specs.declared.line.Checkpoint.TheVariants as checkpoint
use Rattle.shell_lines.specs.declared.line.RowRange.{RowRange}
use Rattle.shell_lines.specs.declared.line.Unable.{Unable}
use Rattle.shell_lines.specs.declared.line.Unable.TheVariants as unable
use Rattle.shell_lines.specs.declared.reply.StoreReply.{StoreReply}
use Rattle.shell_lines.specs.declared.reply.StoreReply.TheVariants.{Reply, Later, Full, Unsure}
use Rattle.shell_lines.specs.declared.answers.TheConstants.{HELP}

-- line n of the input is bad
abbrev pub bad_text : ℕ → LineWhy → List ℕ
bad_text n w = line_text (codes "bad" ∷ codes "line" ∷ decimal n ∷ why_word w ∷ [])

-- line n of the input can't be obeyed
abbrev pub unable_word : Unable → List ℕ
unable_word unable.Unreadable = codes "unreadable"
unable_word unable.TooLong = codes "too-long"
unable_word unable.Nested = codes "nested"
unable_word unable.ManyRows = codes "many-rows"

abbrev pub unable_text : ℕ → Unable → List ℕ
unable_text n w = line_text (codes "bad" ∷ codes "line" ∷ decimal n ∷ unable_word w ∷ [])

abbrev pub epoch_text : ℕ → ℕ → ℕ → List ℕ
epoch_text epoch commits left = line_text (codes "epoch" ∷ decimal epoch ∷ codes "commits" ∷ decimal commits ∷ codes "left" ∷ decimal left ∷ [])

abbrev pub checkpoint_text : Checkpoint → List ℕ
checkpoint_text (checkpoint.Begun n) = line_text (codes "epoch" ∷ decimal n ∷ [])
checkpoint_text (checkpoint.Unfinished t) = line_text (codes "unfinished" ∷ txn_text t ∷ [])
checkpoint_text (checkpoint.Untold s) = line_text (codes "untold" ∷ decimal s.0 ∷ [])
checkpoint_text checkpoint.Full = line_text (codes "full" ∷ [])

abbrev pub order_text : List Txn → List ℕ
order_text order = line_text (codes "order" ∷ map txn_text order)

abbrev pub end_line : List ℕ
end_line = line_text (codes "end" ∷ [])

-- a line for each name, which begins with a word, and the end
abbrev pub names_text : List ℕ → List (List ℕ) → List ℕ
names_text word names = flat_map (λ n. line_text (word ∷ n ∷ [])) names ++ end_line

abbrev pub help_text : List ℕ
help_text = HELP.now

-- a cell of the table, where one is asked for, and with the least key or a greater one
abbrev pub is_of_table : Option Table → Cell → Bool
is_of_table None x = true
is_of_table (Some t) x = t.0 == x.table.0

abbrev pub is_selected : RowRange → Cell → Bool
is_selected range x = is_of_table range.table x && nat_le range.from x.key

abbrev pub at_most : {A : Type 0} → Option ℕ → List A → List A
at_most None xs = xs
at_most (Some n) xs = take n xs

-- the rows that are asked for
abbrev pub selected : RowRange → List (Cell × ℤ) → List (Cell × ℤ)
selected range rows = at_most range.count (filter (λ r. is_selected range r.0) rows)

abbrev pub row_word : List ℕ
row_word = codes "row"

abbrev pub shown_rows : NameBook → RowRange → List (Cell × ℤ) → List ℕ
shown_rows names range rows = rows_text names row_word (selected range rows) ++ end_line

-- what the rules reply, or what becomes of the request before they are asked
abbrev pub short_line : Session → List ℕ → List ℕ
short_line s word = line_text (decimal s.0 ∷ word ∷ [])

abbrev pub reply_line : NameBook → Session → StoreReply → List ℕ
reply_line names s (Reply r) = reply_text names (record { session = s; reply = r })
reply_line names s Later = short_line s (codes "later")
reply_line names s Full = short_line s (codes "full")
reply_line names s Unsure = short_line s (codes "unsure")

-- all that is named has a name
abbrev pub StoreReplyNamed : NameBook → StoreReply → Type 0
StoreReplyNamed names (Reply r) = ReplyNamed names r
StoreReplyNamed names _ = Unit {0}
