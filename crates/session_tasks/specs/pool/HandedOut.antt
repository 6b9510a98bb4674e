-- The rule of a queue that hands out things by their numbers, each once.
use Rattle.std.specs.Prelude.{◌≡◌, ℕ, ◌+◌, ◌<◌, true, List, [], ◌++◌, All, map, length, take}
use mathlib.Core.Option.{some}
use lib.ListN.{get_elem?}
use Rattle.turn_lock.specs.Counts.{total}
use Rattle.session_tasks.specs.pool.Rising.{Rising}
use Rattle.session_tasks.specs.declared.pool.tally.Tally.{Tally}

-- What one token has taken rises. The one that pushes keeps how many were pushed. A token without a part has taken nothing
pub record IsTally (writer pushed port : ℕ) (v : Tally) : Type 0 where
  pub rising : Rising 0 v.taken
  pub alone : v.pushes ≡ true → port ≡ writer
  pub counts : v.pushes ≡ true → v.pushed ≡ pushed
  pub idle : v.parts ≡ 0 → v.taken ≡ []

-- of so many numbers one more was taken, and what was taken rises
abbrev pub IsTaken : ℕ → Tally → Tally → Type 0
IsTaken most v w = (length v.taken < most) × Rising 0 w.taken

module _ {T : Type 0} (numbers : List ℕ) (number : T → ℕ) (fits : T → Type 0) where
  -- The numbers of what was pushed are the first of the list: those of what was popped, and then those of what the queue holds. The tallies have what was
  -- popped, and each of it once: however numbers are weighed, it weighs as much as the tallies
  pub record AreHandedOut (items : List T) (views : List Tally) : Type 0 where
    pub pushed : ℕ
    pub popped : List ℕ
    pub writer : ℕ
    pub rising : Rising 0 numbers
    pub prefix : take pushed numbers ≡ popped ++ map number items
    pub fitting : All fits items
    pub shared : (weight : ℕ → ℕ) → total (λ v. total weight v.taken) views ≡ total weight popped
    pub whole : total (λ v. v.parts) views ≡ 256
    pub each : (port : ℕ) (v : Tally) → get_elem? views port ≡ some v → IsTally writer pushed port v

-- what the only token learns: what it has not taken, the queue holds
abbrev pub IsRest : {T : Type 0} → List ℕ → (T → ℕ) → Tally → List T → Type 0
IsRest numbers number v items = (weight : ℕ → ℕ) → total weight v.taken + total weight (map number items) ≡ total weight (take v.pushed numbers)
