-- Tasks and passes in the order of their sessions.
use Rattle.std.proofs.Common.{◌≡◌, ℕ, suc, ◌+◌, ◌-◌, ◌<◌, ◌≤◌, List, [], ◌∷◌, ◌++◌, map, length, set, get_or, length-append, All, inl, inr, refl, sym, ◌∙◌, ap, subst, arith}
use Rattle.std.proofs.lemmas.List.{map-append, length-map}
use Rattle.std.proofs.lemmas.List.Elements.{All-push, All-set}
use Rattle.std.proofs.Math.Seq.{map-set_same}
use Rattle.std.proofs.lemmas.Bool.{cases_lt}
use Rattle.teb_rules.specs.history.Phases.{numbers}
use Rattle.turn_lock.specs.Counts.{count_from}
use Rattle.turn_lock.proofs.Lists.{All_none, All_left, All_last}
use Rattle.session_server.specs.Halls.{Ghosts, Hall, Pass}
use Rattle.session_server.specs.Passes.{IsNew, number_of}
use Rattle.session_tasks.specs.Scripted.{Scripted}
use Rattle.session_tasks.specs.Tasks.{AreTasks, IsTask, number_in}
use Rattle.session_tasks.specs.declared.task.Task.{Task}
use Rattle.teb_rules.specs.declared.names.TheConstants.{SESSIONS}

-- equal lists have equal last elements
pub last_same : {A : Type 0} (xs ys : List A) (x y : A) → xs ++ x ∷ [] ≡ ys ++ y ∷ [] → (xs ≡ ys) × (x ≡ y)
last_same [] [] x y e = (refl, cc)
last_same [] (b ∷ ys) x y e = absurd (let z : length (x ∷ []) ≡ length ((b ∷ ys) ++ y ∷ []) = ap length e in let l = length-append ys (y ∷ []) in omega arith)
last_same (a ∷ xs) [] x y e = absurd (let z : length ((a ∷ xs) ++ x ∷ []) ≡ length (y ∷ []) = ap length e in let l = length-append xs (x ∷ []) in omega arith)
last_same (a ∷ xs) (b ∷ ys) x y e = let h : a ≡ b = cc in let t : xs ++ x ∷ [] ≡ ys ++ y ∷ [] = cc in let r = last_same xs ys x y t in ((λ i. h i ∷ r.0 i), r.1)

module _ {C : Type 0} {g : Ghosts C} (h : Hall C g) (x : Scripted) where
  pub tasks_none : (items : List (Task C g)) → items ≡ [] → AreTasks h x [] items
  tasks_none items e = record { numbers = ap (map number_in) e; each = subst (All (IsTask h x)) (sym e) (All_none (IsTask h x)) }

  -- a task is appended
  pub tasks_push : (ns : List ℕ) (ts us : List (Task C g)) (t : Task C g) (n : ℕ) → AreTasks h x ns ts → IsTask h x t → number_in t ≡ n → us ≡ ts ++ t ∷ [] → AreTasks h x (ns ++ n ∷ []) us
  tasks_push ns ts us t n a k e is = record {
    numbers = ap (map number_in) is ∙ (map-append number_in ts (t ∷ []) ∙ λ i. a.numbers i ++ e i ∷ []);
    each = subst (All (IsTask h x)) (sym is) (All-push (IsTask h x) ts t a.each k);
  }

  -- a task was removed from an end of the list
  pub record Popped (ns : List ℕ) (n : ℕ) (ts : List (Task C g)) (t : Task C g) : Type 0 where
    pub rest : AreTasks h x ns ts
    pub task : IsTask h x t
    pub session : number_in t ≡ n

  pub tasks_pop : (ns : List ℕ) (n : ℕ) (us ts : List (Task C g)) (t : Task C g) → AreTasks h x (ns ++ n ∷ []) us → us ≡ ts ++ t ∷ [] → Popped ns n ts t
  tasks_pop ns n us ts t a is =
      let all : All (IsTask h x) (ts ++ t ∷ []) = subst (All (IsTask h x)) is a.each in
      let same = last_same (map number_in ts) ns (number_in t) n (sym (map-append number_in ts (t ∷ [])) ∙ (sym (ap (map number_in) is) ∙ a.numbers)) in record {
        rest = record { numbers = same.0; each = All_left (IsTask h x) ts (t ∷ []) all };
        task = All_last (IsTask h x) ts t all;
        session = same.1;
      }

  pub tasks_some : (ns : List ℕ) (n : ℕ) (us : List (Task C g)) → AreTasks h x (ns ++ n ∷ []) us → 0 < length us
  tasks_some ns n us a =
      let k : length (map number_in us) ≡ length us = length-map us number_in in
      let l : length (map number_in us) ≡ length (ns ++ n ∷ []) = ap length a.numbers in
      let m = length-append ns (n ∷ []) in omega arith

  -- the first task is removed
  pub tasks_front : (n : ℕ) (ns : List ℕ) (t : Task C g) (us ts : List (Task C g)) → AreTasks h x (n ∷ ns) us → us ≡ t ∷ ts → Popped ns n ts t
  tasks_front n ns t us ts a is =
      let all : All (IsTask h x) (t ∷ ts) = subst (All (IsTask h x)) is a.each in
      let e : number_in t ∷ map number_in ts ≡ n ∷ ns = sym (ap (map number_in) is) ∙ a.numbers in record {
        rest = record { numbers = (let z : map number_in ts ≡ ns = cc in z); each = λ k d l. all (suc k) d (omega arith) };
        task = all 0 t (omega arith);
        session = (let z : number_in t ≡ n = cc in z);
      }

  -- one task is replaced by a later state of it
  pub tasks_set : (ns : List ℕ) (ts : List (Task C g)) (i : ℕ) (t d : Task C g) → AreTasks h x ns ts → IsTask h x t → number_in t ≡ number_in (get_or ts i d) → AreTasks h x ns (set ts i t)
  tasks_set ns ts i t d a k e = record {
    numbers = map-set_same number_in ts i t d e ∙ a.numbers;
    each = All-set (IsTask h x) ts i t k a.each;
  }

-- the sessions from k + 1 on are k + 1 and the sessions from k + 2 on
pub sessions_from : (k : ℕ) → k < SESSIONS → count_from (suc k) (SESSIONS - k) ≡ suc k ∷ count_from (suc (suc k)) (SESSIONS - suc k)
sessions_from k l = ap (count_from (suc k)) (let e : SESSIONS - k ≡ suc (SESSIONS - suc k) = omega arith in e)

pub all_sessions : count_from 1 SESSIONS ≡ numbers SESSIONS
unfolding numbers
all_sessions = refl

pub numbers_next : (n : ℕ) → numbers (suc n) ≡ numbers n ++ suc n ∷ []
unfolding numbers
numbers_next n = refl

-- the sessions from k + 2 on, with the sum written in another way
pub from_next : (k : ℕ) → k < SESSIONS → count_from (suc (suc k)) (SESSIONS - suc k) ≡ count_from (suc (k + 1)) (SESSIONS - (k + 1))
from_next k l = ap (λ (p : ℕ × ℕ). count_from p.0 p.1) (λ i. ((let e : suc (suc k) ≡ suc (k + 1) = omega arith in e) i, (let e : SESSIONS - suc k ≡ SESSIONS - (k + 1) = omega arith in e) i))

pub no_numbers : numbers 0 ≡ []
unfolding numbers
no_numbers = refl

module _ {C : Type 0} {g : Ghosts C} (h : Hall C g) (x : Scripted) where
  -- a task is appended to the tasks of the sessions 1 to k
  pub gathered_on : (k : ℕ) (ts us : List (Task C g)) (t : Task C g) → AreTasks h x (numbers k) ts → IsTask h x t → number_in t ≡ suc k → us ≡ ts ++ t ∷ [] → AreTasks h x (numbers (k + 1)) us
  gathered_on k ts us t a task is to = subst (λ (ns : List ℕ). AreTasks h x ns us) (sym (numbers_next k) ∙ ap numbers (let z : suc k ≡ k + 1 = omega arith in z))
      (tasks_push h x (numbers k) ts us t (suc k) a task is to)

  -- if a first task is left, k is below SESSIONS
  pub finish_front : (k : ℕ) (us ts : List (Task C g)) (t : Task C g) → k ≤ SESSIONS → AreTasks h x (count_from (suc k) (SESSIONS - k)) us → us ≡ t ∷ ts → k < SESSIONS
  finish_front k us ts t b a is = elim (cases_lt k SESSIONS) [
    | inl l ↦ l
    | inr l ↦ (let e : SESSIONS - k ≡ 0 = omega arith in
        let z : length (map number_in us) ≡ length (count_from (suc k) (SESSIONS - k)) = ap length a.numbers in
        let y : length (count_from (suc k) (SESSIONS - k)) ≡ 0 = ap (λ (n : ℕ). length (count_from (suc k) n)) e in
        let v : length (map number_in us) ≡ suc (length (map number_in ts)) = ap (λ (ys : List (Task C g)). length (map number_in ys)) is in absurd (omega arith))
  ]

  pub finish_step : (k : ℕ) (us ts : List (Task C g)) (t : Task C g) → k < SESSIONS → AreTasks h x (count_from (suc k) (SESSIONS - k)) us → us ≡ t ∷ ts
      → Popped h x (count_from (suc (k + 1)) (SESSIONS - (k + 1))) (suc k) ts t
  finish_step k us ts t l a is =
      let p = tasks_front h x (suc k) (count_from (suc (suc k)) (SESSIONS - suc k)) t us ts (subst (λ (ns : List ℕ). AreTasks h x ns us) (sessions_from k l) a) is in record {
        rest = subst (λ (ns : List ℕ). AreTasks h x ns ts) (from_next k l) p.rest;
        task = p.task;
        session = p.session;
      }

-- passes in order
module _ {C : Type 0} {g : Ghosts C} (h : Hall C g) where
  pub all_passes : (ps : List (Pass C g)) (n : ℕ) → length ps ≡ n → map number_of ps ≡ numbers SESSIONS → n ≡ SESSIONS
  unfolding numbers
  all_passes ps n l e = let k : length (map number_of ps) ≡ length ps = length-map ps number_of in let z : length (map number_of ps) ≡ length (numbers SESSIONS) = ap length e in omega arith

  -- the last pass is removed
  pub record LastOf (ps : List (Pass C g)) (p : Pass C g) (n : ℕ) : Type 0 where
    pub sessions : map number_of ps ≡ numbers n
    pub new : All (IsNew h) ps
    pub last : number_of p ≡ suc n
    pub last_new : IsNew h p

  pub last_of : (ps qs : List (Pass C g)) (p : Pass C g) (n k : ℕ) → ps ≡ qs ++ p ∷ [] → n ≡ suc k → map number_of ps ≡ numbers n → All (IsNew h) ps → LastOf qs p k
  last_of ps qs p n k is e s a =
      let all : All (IsNew h) (qs ++ p ∷ []) = subst (All (IsNew h)) is a in
      let same = last_same (map number_of qs) (numbers k) (number_of p) (suc k) (sym (map-append number_of qs (p ∷ [])) ∙ (sym (ap (map number_of) is) ∙ (s ∙ (ap numbers e ∙ numbers_next k)))) in
      record {
        sessions = same.0;
        new = All_left (IsNew h) qs (p ∷ []) all;
        last = same.1;
        last_new = All_last (IsNew h) qs p all;
      }

  -- a pass is appended
  pub sessions_on : (ps qs : List (Pass C g)) (p : Pass C g) (n : ℕ) → map number_of ps ≡ numbers n → number_of p ≡ suc n → qs ≡ ps ++ p ∷ [] → map number_of qs ≡ numbers (suc n)
  sessions_on ps qs p n s e is = ap (map number_of) is ∙ (map-append number_of ps (p ∷ []) ∙ ((λ i. s i ++ e i ∷ []) ∙ sym (numbers_next n)))

  pub none_yet : (ps : List (Pass C g)) (n : ℕ) → ps ≡ [] → n ≡ 0 → map number_of ps ≡ numbers n
  none_yet ps n e z = ap (map number_of) e ∙ (sym no_numbers ∙ ap numbers (sym z))
