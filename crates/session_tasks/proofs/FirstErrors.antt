-- The sessions in order, up to the first that met an error.
use Rattle.std.proofs.Common.{◌≡◌, ℕ, zero, suc, ◌+◌, ◌<◌, List, [], ◌∷◌, ◌++◌, All, map, length, length-append, get_or, refl, sym, ◌∙◌, ap, arith, inl, inr}
use Rattle.std.specs.List.{Contains}
use Rattle.std.proofs.lemmas.Bool.{cases_lt}
use Rattle.std.proofs.lemmas.List.{map-append, get_or-map, get_or_append_left, get_or_at, length-map}
use Rattle.std.proofs.lemmas.List.Elements.{All-nil, All-push, All-contains_itself}
use Rattle.teb_rules.specs.history.Phases.{numbers}
use Rattle.teb_rules.specs.declared.names.TheConstants.{SESSIONS}
use Rattle.session_server.specs.Halls.{Ghosts, Hall}
use Rattle.session_tasks.specs.declared.error.RunError.{RunError}
use Rattle.session_tasks.specs.declared.task.Task.{Task}
use Rattle.session_tasks.specs.declared.task.Progress.TheVariants.{Through}
use Rattle.session_tasks.specs.Errors.{HasFailed, HasNotFailed, IsFirstError, NoneFailed}
use Rattle.session_tasks.specs.Scripted.{Scripted}
use Rattle.session_tasks.specs.Tasks.{AreTasks, IsTask, number_in}
use Rattle.session_tasks.proofs.InOrder.{no_numbers, numbers_next}

module _ {C : Type 0} {g : Ghosts C} where
  module _ (P : Task C g → Type 0) where
    pub none_yet : (n : ℕ) → n ≡ 0 → NoneFailed P n
    none_yet n e = record {
      tasks = [];
      sessions = sym no_numbers ∙ ap numbers (sym e);
      each = All-nil (λ (t : Task C g). P t × HasNotFailed t);
    }

    pub one_more : (n m : ℕ) (t : Task C g) → NoneFailed P n → P t → HasNotFailed t → number_in t ≡ suc n → m ≡ n + 1 → NoneFailed P m
    one_more n m t none is kept session e = record {
      tasks = none.tasks ++ t ∷ [];
      sessions =
          map-append number_in none.tasks (t ∷ [])
          ∙ (λ i. none.sessions i ++ session i ∷ [])
          ∙ sym (numbers_next n)
          ∙ ap numbers (let z : suc n ≡ m = omega arith in z);
      each = All-push (λ (u : Task C g). P u × HasNotFailed u) none.tasks t none.each (is, kept);
    }

    pub first_error : (n : ℕ) (e : RunError C g) → NoneFailed P n → HasFailed P (suc n) e → IsFirstError P e
    first_error n e none failed = record { passed = n; before = none; failed = failed }

  pub through_stands : (t : Task C g) → t.progress ≡ Through → HasNotFailed t
  through_stands t e w f = let z : Through ≡ _ = sym e ∙ f in absurd (cc)

  -- a property of the tasks can be replaced by one that it implies
  pub of_weaker : (P Q : Task C g → Type 0) → ((t : Task C g) → P t → Q t) → (e : RunError C g) → IsFirstError P e → IsFirstError Q e
  of_weaker P Q w e f = record {
    passed = f.passed;
    before = record {
      tasks = f.before.tasks;
      sessions = f.before.sessions;
      each = λ i d l. let p = f.before.each i d l in (w _ p.0, p.1);
    };
    failed = record {
      task = f.failed.task;
      is = w f.failed.task f.failed.is;
      session = f.failed.session;
      error = f.failed.error;
      failed = f.failed.failed;
      told = f.failed.told;
    };
  }

-- the i-th of the numbers from 1 to n is i + 1, counted from 0
length-numbers : (n : ℕ) → length (numbers n) ≡ n
unfolding numbers
length-numbers zero = refl
length-numbers (suc n) = omega (arith, length-append (numbers n) (suc n ∷ []), length-numbers n)

number_of_place : (n i : ℕ) → i < n → get_or (numbers n) i 0 ≡ suc i
unfolding numbers
number_of_place zero i low = absurd (omega arith)
number_of_place (suc n) i low = elim (cases_lt i n) [
  | inl l ↦ get_or_append_left (numbers n) (suc n ∷ []) 0 i (omega (arith, l, length-numbers n)) ∙ number_of_place n i l
  | inr l ↦ (let e : n ≡ i = omega arith in get_or_at (numbers n) (suc n) [] 0 i (length-numbers n ∙ e) ∙ ap suc e)
]

-- a task of the hall and the scripts that is in the list
abbrev pub OfTasks : {C : Type 0} {g : Ghosts C} → Hall C g → Scripted → List (Task C g) → Task C g → Type 0
OfTasks h x us t = IsTask h x t × Contains us t

module _ {C : Type 0} {g : Ghosts C} (h : Hall C g) (x : Scripted) (ts : List (Task C g)) (are : AreTasks h x (numbers SESSIONS) ts) where
  pub each_of : All (OfTasks h x ts) ts
  each_of k d low = (are.each k d low, All-contains_itself ts k d low)

  -- the task at place i is that of session i + 1
  pub session_at : (i : ℕ) (t : Task C g) → i < length ts → t ≡ get_or ts i t → number_in t ≡ suc i
  session_at i t low is =
      let many : length ts ≡ SESSIONS = omega (arith, length-map ts number_in, ap length are.numbers, length-numbers SESSIONS) in
      ap number_in is ∙ sym (get_or-map number_in ts i t 0 low) ∙ ap (λ (ns : List ℕ). get_or ns i 0) are.numbers ∙ number_of_place SESSIONS i (omega (arith, low, many))
