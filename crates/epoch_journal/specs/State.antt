-- What contracts see of a journal in epochs, and of a disk that was read.
use Rattle.std.specs.Prelude.{ℕ, Bool, List, ℤ}
use Rattle.teb_rules.specs.declared.names.Cell.{Cell}
use Rattle.epoch_journal.specs.declared.current.Current.{Current}
use Rattle.epoch_journal.specs.declared.current.Half.{Half}
use Rattle.epoch_journal.specs.Layout.{Layout}

pub record JournalState (D : Type 0) : Type 0 where
  pub disk : D
  pub layout : Layout
  -- the current half
  pub half : Half
  -- the place of the end mark in that half
  pub end : ℕ
  -- how many records of this epoch are acknowledged
  pub acknowledged : ℕ
  -- whether a call of the disk has failed
  pub stopped : Bool

pub record RecoveredState (D : Type 0) : Type 0 where
  pub disk : D
  pub layout : Layout
  pub current : Current
  pub rows : List (Cell × ℤ)
