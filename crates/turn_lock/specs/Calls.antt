-- What the calls of a turn ask of a value, and what they tell of it.
use Rattle.std.specs.Prelude.{◌≡◌, ℕ, ◌+◌, ◌≤◌, List, ◌++◌, Some, All, slice_index}
use Rattle.turn_lock.specs.declared.view.View.{View}
use Rattle.turn_lock.specs.declared.view.Heard.{Heard}
use Rattle.turn_lock.specs.Counts.{Has}
use Rattle.turn_lock.specs.Rule.{GoesOn, IsKnown}

-- each entry has an owner from 1 to n
abbrev pub AreOwned : {E : Type 0} → (E → ℕ) → ℕ → List E → Type 0
AreOwned owner n entries = All (λ e. (1 ≤ owner e) × (owner e ≤ n)) entries

module _ {T E B : Type 0} (entries : T → List E) (note : T → ℕ → ℕ) where
  -- one turn less; all entries of the value are seen, and all its notes known
  pub record Enters (v : View E B) (x : T) (w : View E B) : Type 0 where
    pub turns : w.turns + 1 ≡ v.turns
    pub seen : w.seen ≡ entries x
    pub notes : (i : ℕ) → slice_index w.notes i ≡ note x i
    pub base : w.base ≡ v.base
    pub owners : w.owners ≡ v.owners
    pub looked : w.looked ≡ v.looked

module _ {T E B : Type 0} (entries : T → List E) (owner : E → ℕ) (note : T → ℕ → ℕ) (base_of : T → B) where
  -- the value begins with all that the view has seen, and goes on by entries of other owners; it has the view's base, and each note that the view knows
  pub record Follows (v : View E B) (x : T) : Type 0 where
    pub has_base : v.base ≡ Some (base_of x)
    pub goes : GoesOn owner v.seen (entries x) v.owners
    pub known : IsKnown v.notes (note x)

  -- the same of a seat that was joined into another
  pub record FollowsHeard (h : Heard E B) (x : T) : Type 0 where
    pub has_base : h.base ≡ Some (base_of x)
    pub goes : GoesOn owner h.seen (entries x) h.owners
    pub known : IsKnown h.notes (note x)

  -- the value is the one that was taken, with more entries of the view's owners, and its notes are those that the view knows
  pub record Adds (v : View E B) (x : T) : Type 0 where
    pub has_base : v.base ≡ Some (base_of x)
    pub more : List E
    pub is : entries x ≡ v.seen ++ more
    pub mine : All (λ e. Has v.owners (owner e)) more
    pub has_notes : (i : ℕ) → note x i ≡ slice_index v.notes i

  -- the value at the end, for the last seat and for each that was joined into it
  pub record Ends (v : View E B) (x : T) : Type 0 where
    pub follows : Follows v x
    pub heard : All (λ h. FollowsHeard h x) v.heard
