-- The tasks in the workers' hands are the sessions that were taken.
use Rattle.std.proofs.Common.{◌≡◌, ℕ, suc, ◌+◌, List, [], ◌∷◌, ◌++◌, All, Vec, length, map, refl, sym, ap, ◌∙◌, subst, arith}
use Rattle.std.specs.List.{flat_map}
use Rattle.std.specs.declared.alloc.Global.{Global}
use Rattle.std.proofs.lemmas.List.{map-append, length-map}
use Rattle.std.proofs.lemmas.List.Elements.{All-append}
use Rattle.turn_lock.specs.Counts.{total, same}
use Rattle.turn_lock.proofs.Lists.{All_none, All_cons}
use Rattle.session_server.specs.Halls.{Ghosts, Hall}
use Rattle.session_tasks.specs.Scripted.{Scripted}
use Rattle.session_tasks.specs.Tasks.{number_in}
use Rattle.session_tasks.specs.declared.task.Task.{Task}
use Rattle.session_tasks.specs.pool.Rising.{Rising}
use Rattle.session_tasks.specs.pool.Taken.{AreTaken}
use Rattle.session_tasks.specs.pool.Waits.{scripted}
use Rattle.session_tasks.specs.pool.Hands.{taken_in, weight_of, AreHands}
use Rattle.session_tasks.proofs.lemmas.pool.Sums.{total_append}
use Rattle.session_tasks.proofs.lemmas.pool.Risings.{rising_increases}
use Rattle.session_tasks.proofs.lemmas.pool.Scripting.{scripted_once, scripted_none}

total_map : {A B : Type 0} (f : B → ℕ) (g : A → B) (xs : List A) → total f (map g xs) ≡ total (λ x. f (g x)) xs
total_map f g [] = refl
total_map f g (x ∷ xs) = let h = total_map f g xs in omega arith

pub all_map : {A B : Type 0} (P : B → Type 0) (g : A → B) (xs : List A) → All (λ x. P (g x)) xs → All P (map g xs)
all_map P g [] a = All_none P
all_map P g (x ∷ xs) a = All_cons P (g x) (map g xs) (a 0 x (omega arith)) (all_map P g xs (λ k d l. a (suc k) d (omega arith)))

-- rising lists that together have exactly the sessions with a script
pub are_taken : (scripts : Scripted) (workers : ℕ) (lists : List (List ℕ)) → length lists ≡ workers → All (Rising 0) lists
    → ((weight : ℕ → ℕ) → total (total weight) lists ≡ total weight (scripted scripts)) → AreTaken scripts workers lists
are_taken scripts workers lists count rising shared = record {
  lists = count;
  ascending = λ k d l. rising_increases 0 _ (rising k d l);
  once = λ s has. shared (same s) ∙ scripted_once scripts s has;
  others = λ s none. shared (same s) ∙ scripted_none scripts s none;
}

module _ {C : Type 0} {g : Ghosts C} where
  -- the hands of the workers hold such lists
  pub hands_taken : (h : Hall C g) (scripts : Scripted) (workers : ℕ) (hands : List (Vec (Task C g) Global)) (lists : List (List ℕ)) → AreHands h scripts workers (scripted scripts) hands
      → lists ≡ map taken_in hands → AreTaken scripts workers lists
  hands_taken h scripts workers hands lists a is = subst (AreTaken scripts workers) (sym is)
      (are_taken scripts workers (map taken_in hands) (length-map hands taken_in ∙ a.count) (all_map (Rising 0) taken_in hands a.rising)
      (λ weight. total_map (total weight) taken_in hands ∙ a.shared weight))

  abbrev in_all : List (Vec (Task C g) Global) → List (Task C g)
  in_all hands = flat_map (λ hand. hand.items) hands

  flat_all : (P : Task C g → Type 0) (hands : List (Vec (Task C g) Global)) → All (λ hand. All P hand.items) hands → All P (in_all hands)
  flat_all P [] a = All_none P
  flat_all P (v ∷ vs) a = All-append P v.items (in_all vs) (a 0 v (omega arith)) (flat_all P vs (λ k d l. a (suc k) d (omega arith)))

  -- what holds of the idle tasks and of those in all hands holds of all tasks
  pub tasks_all : (P : Task C g → Type 0) (idle ts : List (Task C g)) (hands : List (Vec (Task C g) Global)) → ts ≡ idle ++ in_all hands → All P idle → All (λ hand. All P hand.items) hands → All P ts
  tasks_all P idle ts hands is a b = subst (All P) (sym is) (All-append P idle (in_all hands) a (flat_all P hands b))

  flat_weight : (weight : ℕ → ℕ) (hands : List (Vec (Task C g) Global)) → total weight (map number_in (in_all hands)) ≡ weight_of weight hands
  flat_weight weight [] = refl
  flat_weight weight (v ∷ vs) =
      let e : total weight (map number_in (v.items ++ in_all vs)) ≡ total weight (map number_in v.items ++ map number_in (in_all vs)) = ap (total weight) (map-append number_in v.items (in_all vs)) in
      let t = total_append weight (map number_in v.items) (map number_in (in_all vs)) in
      let h = flat_weight weight vs in omega arith

  pub tasks_weigh : (weight : ℕ → ℕ) (idle ts : List (Task C g)) (hands : List (Vec (Task C g) Global)) → ts ≡ idle ++ in_all hands → total weight (map number_in ts) ≡ total weight
      (map number_in idle) + weight_of weight hands
  tasks_weigh weight idle ts hands is =
      let e : total weight (map number_in ts) ≡ total weight (map number_in idle ++ map number_in (in_all hands)) = ap (λ (us : List (Task C g)). total weight (map number_in us)) is
      ∙ ap (total weight) (map-append number_in idle (in_all hands)) in
      let t = total_append weight (map number_in idle) (map number_in (in_all hands)) in
      let h = flat_weight weight hands in omega arith
