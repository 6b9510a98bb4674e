-- What became of a request.
use Rattle.std.specs.Prelude.{Option, Some, None, Result, Ok, Err}
use Rattle.teb_rules.specs.declared.names.Reply.{Reply}
use Rattle.hall_server.specs.declared.error.ServerError.{ServerError}
use Rattle.hall_server.specs.declared.error.ServerError.TheVariants.{Unasked, Unsure}

-- the reply by which the history has the request, whether it was returned or not; none if nothing was asked
abbrev pub told : Result Reply ServerError → Option Reply
told (Ok r) = Some r
told (Err (Unsure r)) = Some r
told (Err (Unasked f)) = None
