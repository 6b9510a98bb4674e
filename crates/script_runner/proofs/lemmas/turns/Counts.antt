-- The abort count of a session, by the index of its line.
use Rattle.std.proofs.Common.{◌≡◌, ℕ, ◌+◌, ◌<◌, List, ◌∷◌, drop, get_or, length}
use Rattle.teb_rules.specs.declared.names.Request.{Request}
use Rattle.teb_rules.specs.declared.names.Reply.{Reply}
use Rattle.script_text.specs.declared.Line.{Line}
use Rattle.teb_rules.specs.Driver.{counted}
use Rattle.script_walk.specs.ScriptStates.{requests_on}
use Rattle.script_walk.proofs.ScriptStates.{line_at, rest_at}

-- the count after an answer to a line
pub counted_at : (lines : List Line) (i : ℕ) (a : Reply) (c n : ℕ) → i < length lines → ((r : Request) (rs : List Request) → n ≡ counted (r ∷ rs) a c) → n ≡ counted (drop i (requests_on lines)) a c
counted_at lines i a c n h f = let d = line_at lines i h in rw (rest_at lines i d h) (f (get_or lines i d).request (drop (i + 1) (requests_on lines)))
