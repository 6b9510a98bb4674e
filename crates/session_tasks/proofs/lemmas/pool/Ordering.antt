-- The tasks of all sessions, sorted.
use Rattle.std.proofs.Common.{◌≡◌, ℕ, List, [], ◌∷◌, map, refl, arith}
use Rattle.std.specs.List.{sum_by}
use Rattle.std.specs.List.Sorted.{IsPermutation, IsNonDecreasingBy}
use Rattle.std.proofs.lemmas.List.Sorted.{IsPermutation-map, sum_by-IsPermutation}
use Rattle.std.proofs.lemmas.List.Sums.{sum_by-cons}
use Rattle.teb_rules.specs.history.Phases.{numbers}
use Rattle.turn_lock.specs.Counts.{total, same, times}
use Rattle.session_server.specs.Halls.{Ghosts}
use Rattle.session_tasks.specs.Tasks.{number_in}
use Rattle.session_tasks.specs.declared.task.Task.{Task}
use Rattle.session_tasks.specs.pool.Rising.{Rising}
use Rattle.session_tasks.proofs.lemmas.pool.Risings.{rising_same, sorted_rises}
use Rattle.session_tasks.proofs.lemmas.pool.Scripting.{numbers_once, numbers_rise}
use Rattle.teb_rules.specs.declared.names.TheConstants.{SESSIONS}

total_sum : {A : Type 0} (f : A → ℕ) (xs : List A) → total f xs ≡ sum_by f xs
total_sum f [] = refl
total_sum f (x ∷ xs) = let h = total_sum f xs in let s = sum_by-cons f x xs in omega arith

module _ {C : Type 0} {g : Ghosts C} where
  pub put_in_order : (us ts : List (Task C g)) → IsPermutation us ts → IsNonDecreasingBy number_in ts
      → ((weight : ℕ → ℕ) → total weight (map number_in us) ≡ total weight (numbers SESSIONS)) → map number_in ts ≡ numbers SESSIONS
  put_in_order us ts moved sorted all = rising_same 0 (map number_in ts) (numbers SESSIONS) rises numbers_rise count
    where
      count : (s : ℕ) → times s (map number_in ts) ≡ times s (numbers SESSIONS)
      count s =
          let p = sum_by-IsPermutation (same s) (map number_in us) (map number_in ts) (IsPermutation-map number_in us ts moved) in
          let a = total_sum (same s) (map number_in us) in
          let b = total_sum (same s) (map number_in ts) in
          let c = all (same s) in omega arith

      rises : Rising 0 (map number_in ts)
      rises = sorted_rises number_in 0 ts sorted (λ s. let c = count s in let o = numbers_once s in omega arith) (λ i d l. omega arith)
