-- What a text tells.
use Rattle.std.specs.Prelude.{◌≡◌, ℕ, List, ◌++◌, Option, Some, None}
use Rattle.teb_rules.specs.declared.names.naming.NameBook.{NameBook}
use Rattle.script_text.specs.declared.Answered.{Answered}
use Rattle.answer_log.specs.declared.reply_text.ReplyText.{ReplyText}
use Rattle.answer_log.specs.Lines.{line_of, lines_of}

-- the bytes, and behind them the line that waits
abbrev pub with_waiting : NameBook → List ℕ → Option Answered → List ℕ
with_waiting names text None = text
with_waiting names text (Some a) = text ++ line_of names a

-- these are the lines of the answers
abbrev pub HasLines : ReplyText → NameBook → List Answered → Type 0
HasLines log names answers = with_waiting names log.text.items log.waiting ≡ lines_of names answers
