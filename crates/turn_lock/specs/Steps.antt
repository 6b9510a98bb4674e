-- What each atomic step tells the seat that makes it: the view and the slots that it has afterwards.
use Rattle.std.specs.Prelude.{◌≡◌, ◌≢◌, ℕ, ◌-◌, ◌<◌, List, [], ◌∷◌, Option, Some, slice_index}
use Rattle.atomic_table.specs.Table.{Me, Step}
use Rattle.turn_lock.specs.declared.view.View.{View}
use Rattle.turn_lock.specs.Views.{drawn, arrived, departed, published, looked_at}
use Rattle.turn_lock.specs.Calls.{Follows}

-- a seat's view, and the slot while the seat is at the turn
abbrev pub Sat : Type 0 → Type 0 → Type 0 → Type 0
Sat T E B = Me (Option T) (View E B)

module _ {T E B : Type 0} where
  -- the word found is the ticket
  abbrev pub Draws : Sat T E B → ℕ → Sat T E B → Type 0
  Draws m found n = n ≡ (drawn found m.0, m.1)

  -- word 2 + i has the note i
  abbrev pub Publishes : Step (Option T) → Sat T E B → Sat T E B → Type 0
  Publishes st m n = (n ≡ (published (st.word - 2) st.first m.0, m.1)) × (slice_index n.0.notes (st.word - 2) ≡ st.first)

  -- a known note has the word that is known, and the word found is known from now on
  pub record Peeks (st : Step (Option T)) (m : Sat T E B) (found : ℕ) (n : Sat T E B) : Type 0 where
    pub view : n ≡ (looked_at (st.word - 2) found m.0, m.1)
    pub known : 0 < slice_index m.0.notes (st.word - 2) → found ≡ slice_index m.0.notes (st.word - 2)
    pub told : slice_index n.0.notes (st.word - 2) ≡ found

module _ {T E B : Type 0} (entries : T → List E) where
  -- the slot goes back
  abbrev pub Moves : Sat T E B → Sat T E B → Type 0
  Moves m n = (x : T) → m.1 ≡ (0, Some x) ∷ [] → n ≡ (departed (entries x) m.0, [])

module _ {T E B : Type 0} (entries : T → List E) (owner : E → ℕ) (note : T → ℕ → ℕ) (base_of : T → B) where
  -- the seat whose ticket is served comes to the turn and has the slot
  pub record Arrives (m n : Sat T E B) : Type 0 where
    pub value : T
    pub notes : List ℕ
    pub follows : Follows entries owner note base_of m.0 value
    pub has_notes : (i : ℕ) → note value i ≡ slice_index notes i
    pub is : n ≡ (arrived (entries value) notes m.0, (0, Some value) ∷ m.1)

  abbrev pub Looks : Sat T E B → ℕ → Sat T E B → Type 0
  Looks m found n = (m.0.ticket ≡ Some found → Arrives m n) × (m.0.ticket ≢ Some found → n ≡ m)
