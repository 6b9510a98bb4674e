-- What became of a request.
use Rattle.std.specs.Prelude.{ℕ, ◌+◌, Option, Some, None, Result, Ok, Err}
use Rattle.teb_rules.specs.declared.names.Reply.{Reply}
use Rattle.teb_rules.specs.declared.names.Reply.TheVariants.{Committed}
use Rattle.epoch_store.specs.declared.recorder.PrepareError.{PrepareError}
use Rattle.epoch_store.specs.declared.recorder.PrepareError.TheVariants as prepare
use Rattle.epoch_store.specs.declared.error.AskError.{AskError}
use Rattle.epoch_store.specs.declared.error.AskError.TheVariants.{Stopped, Full, Unsure, OutOfMemory}

abbrev pub as_ask : PrepareError → AskError
as_ask prepare.Full = Full
as_ask prepare.OutOfMemory = OutOfMemory

-- the reply by which the history has the request, whether it was returned or not; none if nothing was asked
abbrev pub told : Result Reply AskError → Option Reply
told (Ok r) = Some r
told (Err Unsure) = Some Committed
told (Err Stopped) = None
told (Err Full) = None
told (Err OutOfMemory) = None

-- how many commits of the epoch are acknowledged after a request: one more if a commit was answered
abbrev pub acknowledged_after : ℕ → Result Reply AskError → ℕ
acknowledged_after n (Ok Committed) = n + 1
acknowledged_after n (Ok _) = n
acknowledged_after n (Err e) = n
