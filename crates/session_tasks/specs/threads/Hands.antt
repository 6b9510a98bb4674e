-- The tasks as they are dealt to the workers.
use Rattle.std.specs.Prelude.{◌≡◌, ℕ, ◌<◌, ◌==◌, ◌%◌, if◌then◌else◌, List, [], ◌∷◌, ◌++◌, length, slice_index_or, Option, Some, None, Vec}
use Rattle.std.specs.declared.alloc.Global.{Global}
use Rattle.session_server.specs.Halls.{Ghosts, Hall}
use Rattle.session_tasks.specs.Scripted.{Scripted, place_in}
use Rattle.session_tasks.specs.Tasks.{AreTasks}
use Rattle.session_tasks.specs.declared.task.Task.{Task}

-- the workers take the scripts in turn; a session without a script is with the first
abbrev pub hand_at : ℕ → Option ℕ → ℕ
hand_at workers None = 0
hand_at workers (Some i) = i % workers

abbrev pub hand_of : Scripted → ℕ → ℕ → ℕ
hand_of scripts workers s = hand_at workers (place_in scripts s)

-- those of the sessions that are in a hand. The first of them lies on top, that is, stands last
abbrev pub held : (ℕ → ℕ) → ℕ → List ℕ → List ℕ
held hand_of hand [] = []
held hand_of hand (s ∷ rest) = if hand_of s == hand then held hand_of hand rest ++ s ∷ [] else held hand_of hand rest

-- the tasks of these sessions, each in its hand
pub record AreDealt {C : Type 0} {g : Ghosts C} (h : Hall C g) (scripts : Scripted) (workers : ℕ) (sessions : List ℕ) (hands : List (Vec (Task C g) Global)) : Type 0 where
  pub count : length hands ≡ workers
  pub each : (i : ℕ) (d : Vec (Task C g) Global) → i < workers → AreTasks h scripts (held (hand_of scripts workers) i sessions) (slice_index_or hands i d).items
