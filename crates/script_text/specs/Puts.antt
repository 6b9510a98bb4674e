-- What a call that appends a text leaves.
use Rattle.std.specs.Prelude.{◌≡◌, ℕ, ◌++◌, ◌∷◌, List, [], Result, Ok, Err, map}
use Rattle.script_text.specs.declared.text.word.Word.{Word}
use Rattle.script_text.specs.declared.text.word.Word.TheVariants as word
use Rattle.std.specs.Prelude.{decimal, codes}
use Rattle.short_reply.specs.declared.ShortReply.{ShortReply}
use Rattle.short_reply.specs.declared.ShortReply.TheVariants as reply
use Rattle.script_text.specs.Texts.{txn_text, value_text}

-- new is old with something behind it
pub record IsFront (old new : List ℕ) : Type 0 where
  pub more : List ℕ
  pub grown : new ≡ old ++ more

-- the text follows the old bytes; if memory runs out, some bytes do
abbrev pub Puts : {E : Type 0} → List ℕ → List ℕ → List ℕ → Result (Unit {0}) E → Type 0
Puts old text new (Ok u) = new ≡ old ++ text
Puts old text new (Err e) = IsFront old new

abbrev pub word_text : Word → List ℕ
word_text (word.Text s) = s.now
word_text (word.Session s) = decimal s.0
word_text (word.Natural n) = decimal n
word_text (word.Txn t) = txn_text t
word_text (word.Value v) = value_text v

-- words, each behind a space
abbrev pub spaced : List (List ℕ) → List ℕ
spaced [] = []
spaced (w ∷ ws) = codes " " ++ w ++ spaced ws

abbrev pub spaced_words : List Word → List ℕ
spaced_words ws = spaced (map word_text ws)

-- whether a reply may have many words, or long ones
abbrev pub IsLong : ShortReply → Type 0
IsLong (reply.Again u n) = Unit {0}
IsLong (reply.Aborted c) = Unit {0}
IsLong _ = ⊥
