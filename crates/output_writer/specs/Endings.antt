-- How a command ends: what of its text was written.
use Rattle.std.specs.Prelude.{◌≡◌, ◌⊎◌, ℕ, List, Option}
use Rattle.std.specs.Io.KnownBytes.{Appends}
use Rattle.teb_rules.specs.history.Written.{Written}
use Rattle.teb_io.specs.Bytes.{AppendsFront}
use Rattle.command_output.specs.Shown.{Shown, events_of}

-- the text was written whole and the status is its own, or the status is 4 and a part of the text was written; the history is its own either way
pub record IsWritten (d : Shown) (status : ℕ) (kept : Option Written) (before now : Option (List ℕ)) : Type 0 where
  pub written : ((status ≡ d.status) × Appends before now d.text) ⊎ ((status ≡ 4) × AppendsFront before now d.text)
  pub history : events_of kept ≡ d.history
