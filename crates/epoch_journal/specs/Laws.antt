-- The law of epochs, one after the other.
use Rattle.std.specs.Prelude.{◌≡◌, ℕ, ◌+◌, List, ◌++◌, length}
use Rattle.teb_rules.specs.declared.names.Cell.{Cell}
use Rattle.teb_rules.specs.Replay.{Values}
use Rattle.record_journal.specs.Format.{Record}
use Rattle.record_journal.specs.Journal.{after_records}
use Rattle.epoch_journal.specs.Layout.{Layout}
use Rattle.epoch_journal.specs.Telling.{TellsOn}

-- what a disk tells of an epoch that began with the table that earlier records left, it tells of all of them
abbrev pub EpochsGoOn : Type 0
EpochsGoOn =
    (l : Layout) (first start : Values) (past all : List Record) (least : ℕ) (file : List ℕ) → ((x : Cell) → start x ≡ after_records past first x) → TellsOn l start all least file
    → TellsOn l first (past ++ all) (length past + least) file
