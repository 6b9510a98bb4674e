-- The log of a replay: its requests, and what they are answered.
use Rattle.std.specs.Prelude.{List, [], ◌∷◌, ◌++◌, map}
use Rattle.teb_rules.specs.declared.names.Session.{Session}
use Rattle.teb_rules.specs.declared.names.Request.{Request}
use Rattle.teb_rules.specs.declared.history.Event.{Event}
use Rattle.teb_rules.specs.Setup.{Store}
use Rattle.teb_rules.specs.Answer.{answer}
use Rattle.teb_rules.specs.Run.{history_after, ends_of}
use Rattle.script_text.specs.declared.Line.{Line}
use Rattle.script_text.specs.declared.Answered.{Answered}

abbrev pub Requests : Type 0
Requests = List (Session × Request)

abbrev pub request_of : Line → Session × Request
request_of l = (l.session, l.request)

abbrev pub requests_of : List Line → Requests
requests_of lines = map request_of lines

-- the replies to requests that follow H, each with its session
abbrev pub log_of : Store → List Event → Requests → List Answered
log_of X H [] = []
log_of X H (r ∷ rest) = let a = answer X H r.0 r.1 in record { session = r.0; reply = a.0 } ∷ log_of X a.1 rest

-- the requests of a script that follows H, and then End for each session that holds a transaction
abbrev pub replayed : Store → List Event → List Line → Requests
replayed X H lines = requests_of lines ++ ends_of (history_after X H (requests_of lines))
