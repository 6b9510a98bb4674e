-- A finish as the word of a note, and what a seat knows of a transaction.
use Rattle.std.specs.Prelude.{ℕ, zero, suc, ◌-◌, slice_index}
use Rattle.teb_rules.specs.declared.names.Outcome.{Outcome}
use Rattle.teb_rules.specs.declared.names.Outcome.TheVariants.{Committed, Aborted}
use Rattle.finish_board.specs.declared.answer.Poll.{Poll}
use Rattle.finish_board.specs.declared.answer.Poll.TheVariants.{Unfinished, Finished}
use Rattle.turn_lock.specs.declared.view.View.{View}

abbrev pub word_of : Outcome → ℕ
word_of Committed = 1
word_of Aborted = 2

-- 0 says nothing, 1 committed, and any other word aborted
abbrev pub poll_of : ℕ → Poll
poll_of zero = Unfinished
poll_of (suc zero) = Finished Committed
poll_of (suc (suc n)) = Finished Aborted

-- what a seat knows of transaction t, whose note is number t - 1
abbrev pub known_of : {E B : Type 0} → ℕ → View E B → Poll
known_of t v = poll_of (slice_index v.notes (t - 1))
