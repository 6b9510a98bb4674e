-- What contracts see of a turn and of a seat.
use Rattle.std.specs.Prelude.{◌≡◌, ℕ, true, false, List, [], ◌∷◌, ◌++◌, Option, None}
use Rattle.turn_lock.specs.declared.view.View.{View}
use Rattle.turn_lock.specs.declared.turn.Seat.{Seat}
use Rattle.turn_lock.specs.declared.turn.Turn.{Turn}

module _ {T E B : Type 0} where
  -- the base that all values of the turn have, the number of its owners and the number of its notes
  abbrev pub base_in : (T → B) → Turn T E B → B
  base_in base t = base t.table.shared.key.value.value

  abbrev pub owner_count : Turn T E B → ℕ
  owner_count t = t.table.shared.key.owners

  abbrev pub note_count : Turn T E B → ℕ
  note_count t = t.table.shared.key.notes

  abbrev pub view_of : Seat T E B → View E B
  view_of s = s.seat.me.0

  -- what it has of the slot: nothing, or the slot with what lies in it
  abbrev pub slot_of : Seat T E B → List (ℕ × Option T)
  slot_of s = s.seat.me.1

  -- it is a seat of this turn
  abbrev pub IsOf : Turn T E B → Seat T E B → Type 0
  IsOf t s = s.seat.table_id ≡ t.table.shared.table_id

  -- it is not in the turn, nor on its way: it has neither the slot nor a ticket
  abbrev pub IsOutside : Seat T E B → Type 0
  IsOutside s = (slot_of s ≡ []) × ((view_of s).ticket ≡ None) × ((view_of s).inside ≡ false)

  -- it is in the turn: it has the slot, from which the value was taken
  abbrev pub IsInside : Seat T E B → Type 0
  IsInside s = (slot_of s ≡ (0, None) ∷ []) × ((view_of s).inside ≡ true)

  -- the owners of all seats, one seat after the other
  abbrev pub all_owners : List (Seat T E B) → List ℕ
  all_owners [] = []
  all_owners (s ∷ ss) = (view_of s).owners ++ all_owners ss
