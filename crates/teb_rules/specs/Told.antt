-- What becomes of a request that may fail: some reply by which the history has the request, whether the session was given it or not, or none.
use Rattle.std.specs.Prelude.{◌≡◌, List, Option, Some, None}
use Rattle.teb_rules.specs.declared.names.Reply.{Reply}
use Rattle.teb_rules.specs.declared.history.Event.{Event}

-- if there is a reply, it is that of the rules
abbrev pub IsToldBy : Option Reply → Reply → Type 0
IsToldBy (Some r) a = r ≡ a
IsToldBy None a = Unit {0}

-- the history after it, of the history before and that after an answer of the rules
abbrev pub events_after : Option Reply → List Event → List Event → List Event
events_after (Some r) before after = after
events_after None before after = before
