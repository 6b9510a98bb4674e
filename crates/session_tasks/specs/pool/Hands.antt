-- What lies in the hands of the workers.
use Rattle.std.specs.Prelude.{◌≡◌, ℕ, ◌≤◌, List, All, length, map, Vec, vec_capacity}
use Rattle.std.specs.declared.alloc.Global.{Global}
use Rattle.turn_lock.specs.Counts.{total}
use Rattle.session_server.specs.Halls.{Ghosts, Hall}
use Rattle.session_tasks.specs.Scripted.{Scripted}
use Rattle.session_tasks.specs.Tasks.{IsTask, number_in}
use Rattle.session_tasks.specs.declared.task.Task.{Task}
use Rattle.session_tasks.specs.pool.Rising.{Rising}
use Rattle.session_tasks.specs.pool.Tallies.{IsWhole}
use Rattle.session_tasks.specs.declared.pool.tally.Tally.{Tally}
use Rattle.teb_rules.specs.declared.names.TheConstants.{SESSIONS}

module _ {C : Type 0} {g : Ghosts C} where
  -- the sessions in a hand
  abbrev pub taken_in : Vec (Task C g) Global → List ℕ
  taken_in hand = map number_in hand.items

  -- what all hands weigh
  abbrev pub weight_of : (ℕ → ℕ) → List (Vec (Task C g) Global) → ℕ
  weight_of weight hands = total (λ hand. total weight (taken_in hand)) hands

  -- One hand a worker, with tasks that rise. They weigh as much as these numbers, however they are weighed: each number is in one hand, once
  pub record AreHands (h : Hall C g) (scripts : Scripted) (workers : ℕ) (numbers : List ℕ) (hands : List (Vec (Task C g) Global)) : Type 0 where
    pub count : length hands ≡ workers
    pub tasks : All (λ hand. All (IsTask h scripts) hand.items) hands
    pub rising : All (λ hand. Rising 0 (taken_in hand)) hands
    pub shared : (weight : ℕ → ℕ) → weight_of weight hands ≡ total weight numbers

  -- one hand a worker, with tasks that rise and room for all, of which this is the only token that is left: it has taken what is in the hands
  pub record AreCollected (h : Hall C g) (scripts : Scripted) (workers pushed : ℕ) (v : Tally) (hands : List (Vec (Task C g) Global)) : Type 0 where
    pub count : length hands ≡ workers
    pub tasks : All (λ hand. All (IsTask h scripts) hand.items) hands
    pub rising : All (λ hand. Rising 0 (taken_in hand)) hands
    pub room : All (λ hand. vec_capacity hand ≡ SESSIONS) hands
    pub whole : IsWhole pushed v
    pub shared : (weight : ℕ → ℕ) → weight_of weight hands ≡ total weight v.taken

  -- a hand with tasks that rise and room for all. A token of this tally knows all that is in it
  pub record IsFirst (h : Hall C g) (scripts : Scripted) (u : Vec (Task C g) Global) (v : Tally) : Type 0 where
    pub tasks : All (IsTask h scripts) u.items
    pub rising : Rising 0 (taken_in u)
    pub within : (weight : ℕ → ℕ) → total weight (taken_in u) ≤ total weight v.taken
    pub room : vec_capacity u ≡ SESSIONS
