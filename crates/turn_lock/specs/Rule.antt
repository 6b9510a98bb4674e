-- The rule of a turn: what holds of its words, its slot and the views of its seats between any two steps.
-- Word 0 is the next ticket, word 1 the ticket that is served, word 2 + i the note i. The slot has the value.
use Rattle.std.specs.Prelude.{◌≡◌, ◌≢◌, ◌⊎◌, ℕ, suc, ◌+◌, ◌<◌, ◌≤◌, true, false, List, [], ◌∷◌, ◌++◌, Option, Some, None, All, slice_index, length}
use mathlib.Core.Option as mathlib_option
use mathlib.Core.Option.{some, none}
use lib.ListN.{get_elem?}
use Rattle.atomic_table.specs.Table.{State}
use Rattle.turn_lock.specs.declared.view.View.{View}
use Rattle.turn_lock.specs.declared.view.Heard.{Heard}
use Rattle.turn_lock.specs.Counts.{total, same, times, IsOnceWithin}

-- the list goes on from what was seen, by entries of other owners than these
pub record GoesOn {E : Type 0} (owner : E → ℕ) (seen entries : List E) (owners : List ℕ) : Type 0 where
  pub more : List E
  pub is : entries ≡ seen ++ more
  pub others : All (λ e. times (owner e) owners ≡ 0) more

-- each note that is known has its word
abbrev pub IsKnown : List ℕ → (ℕ → ℕ) → Type 0
IsKnown known word_of = (i : ℕ) → 0 < slice_index known i → word_of i ≡ slice_index known i

abbrev pub is_ticket : ℕ → Option ℕ → ℕ
is_ticket k (Some ticket) = same k ticket
is_ticket k None = 0

module _ {E B : Type 0} where
  abbrev pub has_ticket : ℕ → View E B → ℕ
  has_ticket k v = is_ticket k v.ticket

  abbrev pub has_owner : ℕ → View E B → ℕ
  has_owner o v = times o v.owners

  abbrev pub turns_of : View E B → ℕ
  turns_of v = v.turns

-- A turn's value was left with these entries, and these are the words of its notes
module _ {E B : Type 0} (owner : E → ℕ) (base : B) (left : List E) (notes : List ℕ) where
  -- what was heard of a seat whose owners are among these
  pub record IsHeard (owners : List ℕ) (h : Heard E B) : Type 0 where
    pub has_base : h.base ≡ Some base
    pub goes : GoesOn owner h.seen left h.owners
    pub known : IsKnown h.notes (slice_index notes)
    pub among : (o : ℕ) → times o h.owners ≤ times o owners

  -- what a view holds of the turn. A spent view has no owners, and so no turns and no ticket
  pub record Knows (serving : ℕ) (v : View E B) : Type 0 where
    pub live : v.owners ≢ [] → (v.base ≡ Some base) × (length v.notes ≡ length notes)
    pub spent : v.owners ≡ [] → (v.turns ≡ 0) × (v.ticket ≡ None)
    pub goes : GoesOn owner v.seen left v.owners
    pub known : IsKnown v.notes (slice_index notes)
    pub heard : All (IsHeard v.owners) v.heard
    pub at_turn : v.inside ≡ true → (v.ticket ≡ Some serving) × (v.seen ≡ left) × (v.notes ≡ notes)

module _ {T E B : Type 0} (entries : T → List E) (owner : E → ℕ) (note : T → ℕ → ℕ) (base_of : T → B) where
  -- the value is in the slot, and no seat is at the turn
  pub record IsHome (base : B) (left : List E) (notes : List ℕ) (homes : List (mathlib_option.Option (Option T))) (views : List (View E B)) : Type 0 where
    pub value : T
    pub home : homes ≡ some (Some value) ∷ []
    pub has_left : entries value ≡ left
    pub has_base : base_of value ≡ base
    pub has_notes : (i : ℕ) → note value i ≡ slice_index notes i
    pub nobody : (j : ℕ) (v : View E B) → get_elem? views j ≡ some v → v.inside ≡ false

  -- the slot is out with a seat that is at the turn
  pub record IsAway (homes : List (mathlib_option.Option (Option T))) (views : List (View E B)) : Type 0 where
    pub away : homes ≡ none ∷ []
    pub holder : ℕ
    pub view : View E B
    pub there : get_elem? views holder ≡ some view
    pub inside : view.inside ≡ true

  pub record Stands (base : B) (owners next serving : ℕ) (notes : List ℕ) (homes : List (mathlib_option.Option (Option T))) (views : List (View E B)) : Type 0 where
    -- the entries that the value was last left with, each of an owner of the turn
    pub left : List E
    pub of_owners : All (λ e. (1 ≤ owner e) × (owner e ≤ owners)) left
    -- no ticket wraps: those drawn and the turns still to come are 2 ^ 45
    pub turns : next + total turns_of views ≡ 35184372088832
    -- the tickets out are those from the one served to the next one, each in one view
    pub in_order : serving ≤ next
    pub tickets : (k : ℕ) → IsOnceWithin serving next k (total (has_ticket k) views)
    -- each number from 1 to `owners` is an owner in one view
    pub owned : (o : ℕ) → IsOnceWithin 1 (suc owners) o (total (has_owner o) views)
    pub each : (j : ℕ) (v : View E B) → get_elem? views j ≡ some v → Knows owner base left notes serving v
    pub place : IsHome base left notes homes views ⊎ IsAway homes views

  -- the rule of a turn with this base, this many owners and this many notes
  pub record Holds (base : B) (owners count : ℕ) (s : State (Option T) (View E B)) : Type 0 where
    pub next : ℕ
    pub serving : ℕ
    pub notes : List ℕ
    pub words : s.words ≡ next ∷ serving ∷ notes
    pub counted : length notes ≡ count
    pub stands : Stands base owners next serving notes s.homes s.views
