-- Which history the committed writers of each cell stand for, and how many more there may be.
use Rattle.std.specs.Prelude.{◌≡◌, ℕ, Bool, true, false, ◌&&◌, List}
use Rattle.std.specs.List.{count_by}
use Rattle.teb_rules.specs.declared.names.Cell.{Cell}
use Rattle.teb_rules.specs.declared.history.Event.{Event}
use Rattle.teb_rules.specs.declared.history.Event.TheVariants.{Put}
use Rattle.teb_rules.specs.history.Phases.{unfinished}
use Rattle.teb_rules.specs.history.OwnEvents.{own_events}
use Rattle.teb_rules.specs.Setup.{Setup}
use Rattle.teb_rules.specs.Tree.{on}
use Rattle.access_book.specs.Books.{Shown, committed_of, is_accessor}
use Rattle.snapshot_node.specs.Standing.{has_committed_in}

abbrev pub is_any_put : Event → Bool
is_any_put (Put t x v) = true
is_any_put _ = false

-- how many Puts t has made
abbrev pub puts_of : List Event → ℕ → ℕ
puts_of H t = count_by is_any_put (own_events H t)

-- the event is a Put of an unfinished transaction with n on its path
abbrev pub is_pending : Setup → List Event → ℕ → Event → Bool
is_pending S H n (Put t x v) = on S H n t.0 && unfinished H t.0
is_pending S H n _ = false

-- how many of them there are
abbrev pub pending_in : Setup → List Event → ℕ → ℕ
pending_in S H n = count_by (is_pending S H n) H

pub record CommittedStand (n : ℕ) (accesses : Shown) (S : Setup) (H : List Event) : Type 0 where
  pub put : (x : Cell) (u : ℕ) → is_accessor (committed_of accesses) x u ≡ has_committed_in S H n x u
  pub pending : accesses.pending ≡ pending_in S H n
