-- What is kept of a transaction that was ended in the absence of its session.
use Rattle.std.specs.Prelude.{ℕ, List, Option, None, get_or}
use Rattle.short_reply.specs.declared.ShortReply.{ShortReply}

-- how the transaction of session s was ended in its absence, if that is kept for it
abbrev pub notice_of : List (Option ShortReply) → ℕ → Option ShortReply
notice_of notices s = get_or notices s None
