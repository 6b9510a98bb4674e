-- What is so of the workers of a pool.
use Rattle.std.specs.Prelude.{◌≡◌, [], Option, false, All, vec_capacity}
use Rattle.crossbeam_queue.specs.declared.array_queue.Doing.{Doing}
use Rattle.crossbeam_queue.specs.declared.array_queue.Slotted.{Slotted}
use Rattle.crossbeam_queue.specs.Passes.{view, IsPassOf}
use Rattle.session_server.specs.Halls.{Ghosts, Hall}
use Rattle.session_tasks.specs.Scripted.{Scripted}
use Rattle.session_tasks.specs.Tasks.{IsTask}
use Rattle.session_tasks.specs.pool.Hands.{taken_in}
use Rattle.session_tasks.specs.pool.Rising.{Rising}
use Rattle.session_tasks.specs.pool.Tallies.{tally}
use Rattle.session_tasks.specs.declared.pool.tally.Tally.{Tally}
use Rattle.session_tasks.specs.declared.pool.waiting.Waiting.{Waiting}
use Rattle.session_tasks.specs.declared.pool.worker.Worker.{Worker}
use Rattle.teb_rules.specs.declared.names.TheConstants.{SESSIONS}

module _ {C : Type 0} {g : Ghosts C} {Q A : Type 0} (line : Slotted (Option (Waiting C g)) (Doing (Waiting C g) Tally) Q A) where
  -- its token is of this queue, and knows just the sessions in its hand
  pub record HasToken (w : Worker C g) : Type 0 where
    pub of : IsPassOf line w.token
    pub knows : view w.token ≡ tally 1 false 0 (taken_in w.hand)

  -- its hand is empty, and has room for all
  pub record IsHired (w : Worker C g) : Type 0 where
    pub token : HasToken w
    pub empty : w.hand.items ≡ []
    pub room : vec_capacity w.hand ≡ SESSIONS

  -- the sessions in its hand rise, and are of this hall
  pub record IsAtWork (h : Hall C g) (scripts : Scripted) (w : Worker C g) : Type 0 where
    pub token : HasToken w
    pub tasks : All (IsTask h scripts) w.hand.items
    pub rising : Rising 0 (taken_in w.hand)
    pub room : vec_capacity w.hand ≡ SESSIONS
