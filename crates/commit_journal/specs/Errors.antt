-- An error of a record as one of a request.
use Rattle.commit_journal.specs.declared.error.BodyError.{BodyError}
use Rattle.commit_journal.specs.declared.error.BodyError.TheVariants as body
use Rattle.commit_journal.specs.declared.error.DurableError.{DurableError}
use Rattle.commit_journal.specs.declared.error.DurableError.TheVariants as durable

abbrev pub as_durable : BodyError → DurableError
as_durable body.Full = durable.Full
as_durable body.OutOfMemory = durable.OutOfMemory
