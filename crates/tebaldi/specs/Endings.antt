-- How the program ends: what was shown, and what is kept of it.
use Rattle.std.specs.Prelude.{◌≡◌, ℕ, true, List, Option, Some, None}
use Rattle.std.specs.Io.KnownBytes.{Keeps}
use Rattle.command_output.specs.Shown.{Shown, events_of}
use Rattle.output_writer.specs.Endings.{IsWritten}
use Rattle.input_reader.specs.Readings.{AreOf}
use Rattle.script_runner.specs.Runs.{IsSerialized}
use Rattle.hall_runner.specs.declared.served.Served.{Served}
use Rattle.hall_runner.specs.declared.served.Served.TheVariants.{Through, Spent}
use Rattle.command_words.specs.Commands.{reads}
use Rattle.tebaldi.specs.Shows.{Ends, SetsUp, IsAlone}
use Rattle.command_words.specs.declared.command.Command.{Command}
use Rattle.tebaldi.specs.declared.ended.Ended.{Ended}

-- the output was written, and the entries are kept; or nothing was written, and the spent pass is kept
abbrev pub IsServedAndWritten : Served → Ended → Option (List ℕ) → Option (List ℕ) → Type 0
IsServedAndWritten (Through output entries) e before now = IsWritten output e.status e.history before now × (e.entries ≡ Some entries) × (e.spent ≡ None)
IsServedAndWritten (Spent p) e before now = (e.status ≡ 10) × Keeps before now × (e.history ≡ None) × (e.entries ≡ None) × (e.spent ≡ Some p)

-- there are bytes, those of the source where the command reads, by which the words come to what was written; the history of a run is serialized over the store
-- that these bytes set up, or over the shop for a generated load
pub record IsRight (command : Option Command) (left rest : Option (List ℕ)) (e : Ended) (before now : Option (List ℕ)) : Type 0 where
  pub bytes : List ℕ
  pub read : reads command ≡ true → AreOf left rest bytes
  pub shown : Shown
  pub ends : Ends command bytes e shown
  pub written : IsWritten shown e.status e.history before now
  pub serialized : IsSerialized (SetsUp command bytes) (events_of e.history)

-- nothing was written, and nothing is kept
pub record IsSilent (e : Ended) (before now : Option (List ℕ)) : Type 0 where
  pub unwritten : Keeps before now
  pub history : e.history ≡ None
  pub alone : IsAlone e
