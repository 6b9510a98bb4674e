-- Tasks are dealt into hands and taken out again.
use Rattle.std.proofs.Common.{◌≡◌, ◌≢◌, ℕ, suc, ◌+◌, ◌-◌, ◌<◌, ◌≤◌, if◌then◌else◌, List, [], ◌∷◌, ◌++◌, map, length, set, get_or}
use Rattle.std.proofs.Common.{get_or-set_other, length-set, All, Vec, eq-eqb, ne_eqb, refl, sym, ◌∙◌, ap, subst, arith}
use Rattle.std.specs.declared.alloc.Global.{Global}
use Rattle.std.proofs.lemmas.List.{get_or-set_same}
use mathlib.Core.Logic.{dite}
use native.Mathlib.Decide.{ℕ_discrete}
use Rattle.turn_lock.specs.Counts.{count_from}
use Rattle.session_server.specs.Halls.{Ghosts, Hall}
use Rattle.session_tasks.specs.Scripted.{Scripted}
use Rattle.session_tasks.specs.Tasks.{AreTasks, IsTask, number_in}
use Rattle.session_tasks.specs.threads.Hands.{AreDealt, held, hand_of}
use Rattle.session_tasks.specs.declared.task.Task.{Task}
use Rattle.session_tasks.proofs.InOrder.{Popped, tasks_none, tasks_push, tasks_pop, tasks_some, sessions_from, from_next}
use Rattle.teb_rules.specs.declared.names.TheConstants.{SESSIONS}

held_here : (f : ℕ → ℕ) (j s : ℕ) (rest : List ℕ) → f s ≡ j → held f j (s ∷ rest) ≡ held f j rest ++ s ∷ []
held_here f j s rest e = ap (λ b. if b then held f j rest ++ s ∷ [] else held f j rest) (eq-eqb (f s) j e)

held_elsewhere : (f : ℕ → ℕ) (j s : ℕ) (rest : List ℕ) → f s ≢ j → held f j (s ∷ rest) ≡ held f j rest
held_elsewhere f j s rest e = ap (λ b. if b then held f j rest ++ s ∷ [] else held f j rest) (ne_eqb (f s) j e)

-- the tasks of all hands
module _ {C : Type 0} {g : Ghosts C} (h : Hall C g) (x : Scripted) (w : ℕ) where
  -- the tasks of a hand
  abbrev in_hand : List (Vec (Task C g) Global) → ℕ → Vec (Task C g) Global → List (Task C g)
  in_hand hands i d = (get_or hands i d).items

  tasks_as : (ns ms : List ℕ) (ts us : List (Task C g)) → ms ≡ ns → us ≡ ts → AreTasks h x ns ts → AreTasks h x ms us
  tasks_as ns ms ts us m u a = record {
    numbers = ap (map number_in) u ∙ (a.numbers ∙ sym m);
    each = subst (All (IsTask h x)) (sym u) a.each;
  }

  pub dealt_none : (hands : List (Vec (Task C g) Global)) → length hands ≡ w → All (λ (v : Vec (Task C g) Global). v.items ≡ []) hands → AreDealt h x w [] hands
  dealt_none hands n e = record { count = n; each = λ i d l. tasks_none h x (in_hand hands i d) (e i d (omega arith)) }

  -- one more task is dealt
  pub dealt_on : (rest : List ℕ) (s i : ℕ) (t : Task C g) (hands hands2 : List (Vec (Task C g) Global)) (u v : Vec (Task C g) Global) → AreDealt h x w rest hands → i ≡ hand_of x w s → i < w
      → IsTask h x t → number_in t ≡ s → u ≡ get_or hands i u → v.items ≡ u.items ++ t ∷ [] → hands2 ≡ set hands i v → AreDealt h x w (s ∷ rest) hands2
  dealt_on rest s i t hands hands2 u v a e l k n read is to = record {
    count = ap length to ∙ (length-set hands i v ∙ a.count);
    each = λ j d m. subst (λ (hs : List (Vec (Task C g) Global)). AreTasks h x (held (hand_of x w) j (s ∷ rest)) (in_hand hs j d)) (sym to) (at j d m);
  }
    where
      here : (d : Vec (Task C g) Global) → AreTasks h x (held (hand_of x w) i (s ∷ rest)) (in_hand (set hands i v) i d)
      here d = tasks_as (held (hand_of x w) i rest ++ s ∷ []) (held (hand_of x w) i (s ∷ rest)) v.items (in_hand (set hands i v) i d)
          (held_here (hand_of x w) i s rest (sym e))
          (ap (λ (y : Vec (Task C g) Global). y.items) (get_or-set_same hands i v d (let z = a.count in omega arith)))
          (tasks_push h x (held (hand_of x w) i rest) u.items v.items t s
          (tasks_as (held (hand_of x w) i rest) (held (hand_of x w) i rest) (in_hand hands i u) u.items refl (ap (λ (y : Vec (Task C g) Global). y.items) read) (a.each i u l)) k n is)

      at : (j : ℕ) (d : Vec (Task C g) Global) → j < w → AreTasks h x (held (hand_of x w) j (s ∷ rest)) (in_hand (set hands i v) j d)
      at j d m = dite (ℕ_discrete j i)
          (λ (q : j ≡ i). subst (λ (y : ℕ). AreTasks h x (held (hand_of x w) y (s ∷ rest)) (in_hand (set hands i v) y d)) (sym q) (here d))
          (λ (o : j ≢ i). tasks_as (held (hand_of x w) j rest) (held (hand_of x w) j (s ∷ rest)) (in_hand hands j d) (in_hand (set hands i v) j d)
          (held_elsewhere (hand_of x w) j s rest (λ q. o (sym q ∙ sym e)))
          (ap (λ (y : Vec (Task C g) Global). y.items) (get_or-set_other hands i j v d o))
          (a.each j d m))

  -- the first session that is still dealt is on top of its hand
  on_top : (rest : List ℕ) (s i : ℕ) (hands : List (Vec (Task C g) Global)) (u : Vec (Task C g) Global) → AreDealt h x w (s ∷ rest) hands → i ≡ hand_of x w s → i < w → u ≡ get_or hands i u
      → AreTasks h x (held (hand_of x w) i rest ++ s ∷ []) u.items
  on_top rest s i hands u a e l read = tasks_as (held (hand_of x w) i (s ∷ rest)) (held (hand_of x w) i rest ++ s ∷ []) (in_hand hands i u) u.items (sym (held_here (hand_of x w) i s rest (sym e)))
      (ap (λ (y : Vec (Task C g) Global). y.items) read) (a.each i u l)

  pub dealt_some : (rest : List ℕ) (s i : ℕ) (hands : List (Vec (Task C g) Global)) (u : Vec (Task C g) Global) → AreDealt h x w (s ∷ rest) hands → i ≡ hand_of x w s → i < w → u ≡ get_or hands i u
      → 0 < length u.items
  dealt_some rest s i hands u a e l read = tasks_some h x (held (hand_of x w) i rest) s u.items (on_top rest s i hands u a e l read)

  -- the first task that is still dealt is taken from its hand
  pub record TakenOut (others : List ℕ) (s : ℕ) (t : Task C g) (hands : List (Vec (Task C g) Global)) : Type 0 where
    pub dealt : AreDealt h x w others hands
    pub task : IsTask h x t
    pub session : number_in t ≡ s

  pub dealt_out : (rest : List ℕ) (s i : ℕ) (t : Task C g) (hands hands2 : List (Vec (Task C g) Global)) (u v : Vec (Task C g) Global) → AreDealt h x w (s ∷ rest) hands → i ≡ hand_of x w s → i < w
      → u ≡ get_or hands i u → u.items ≡ v.items ++ t ∷ [] → hands2 ≡ set hands i v → TakenOut rest s t hands2
  dealt_out rest s i t hands hands2 u v a e l read is to = record {
    dealt = record {
      count = ap length to ∙ (length-set hands i v ∙ a.count);
      each = λ j d m. subst (λ (hs : List (Vec (Task C g) Global)). AreTasks h x (held (hand_of x w) j rest) (in_hand hs j d)) (sym to) (at j d m);
    };
    task = popped.task;
    session = popped.session;
  }
    where
      popped : Popped h x (held (hand_of x w) i rest) s v.items t
      popped = tasks_pop h x (held (hand_of x w) i rest) s u.items v.items t (on_top rest s i hands u a e l read) is

      at : (j : ℕ) (d : Vec (Task C g) Global) → j < w → AreTasks h x (held (hand_of x w) j rest) (in_hand (set hands i v) j d)
      at j d m = dite (ℕ_discrete j i)
          (λ (q : j ≡ i). subst (λ (y : ℕ). AreTasks h x (held (hand_of x w) y rest) (in_hand (set hands i v) y d)) (sym q)
          (tasks_as (held (hand_of x w) i rest) (held (hand_of x w) i rest) v.items (in_hand (set hands i v) i d) refl
          (ap (λ (y : Vec (Task C g) Global). y.items) (get_or-set_same hands i v d (let z = a.count in omega arith))) popped.rest))
          (λ (o : j ≢ i). tasks_as (held (hand_of x w) j (s ∷ rest)) (held (hand_of x w) j rest) (in_hand hands j d) (in_hand (set hands i v) j d)
          (sym (held_elsewhere (hand_of x w) j s rest (λ q. o (sym q ∙ sym e))))
          (ap (λ (y : Vec (Task C g) Global). y.items) (get_or-set_other hands i j v d o))
          (a.each j d m))

-- the steps that deal the tasks and gather them
module _ {C : Type 0} {g : Ghosts C} (h : Hall C g) (x : Scripted) (w : ℕ) where
  pub deal_step : (n k i : ℕ) (t : Task C g) (hands hands2 : List (Vec (Task C g) Global)) (u v : Vec (Task C g) Global) → n ≡ suc k → n ≤ SESSIONS
      → AreDealt h x w (count_from (suc n) (SESSIONS - n)) hands → i ≡ hand_of x w (suc k) → i < w → IsTask h x t → number_in t ≡ suc k → u ≡ get_or hands i u → v.items ≡ u.items ++ t ∷ []
      → hands2 ≡ set hands i v → AreDealt h x w (count_from (suc k) (SESSIONS - k)) hands2
  deal_step n k i t hands hands2 u v e b a q l task is read items to =
      subst (λ (ns : List ℕ). AreDealt h x w ns hands2) (sym (sessions_from k (omega arith)))
      (dealt_on h x w (count_from (suc (suc k)) (SESSIONS - suc k)) (suc k) i t hands hands2 u v
      (subst (λ (ns : List ℕ). AreDealt h x w ns hands) (ap (λ (p : ℕ × ℕ). count_from p.0 p.1) (λ j. (suc (e j), (let z : SESSIONS - n ≡ SESSIONS - suc k = omega arith in z) j))) a)
      q l task is read items to)

  as_first : (k : ℕ) (hands : List (Vec (Task C g) Global)) → k < SESSIONS → AreDealt h x w (count_from (suc k) (SESSIONS - k)) hands
      → AreDealt h x w (suc k ∷ count_from (suc (suc k)) (SESSIONS - suc k)) hands
  as_first k hands l a = subst (λ (ns : List ℕ). AreDealt h x w ns hands) (sessions_from k l) a

  its_hand : (k i m n : ℕ) → i ≡ hand_of x n m → n ≡ w → m ≡ k + 1 → i ≡ hand_of x w (suc k)
  its_hand k i m n q e f = q ∙ ap (λ (p : ℕ × ℕ). hand_of x p.0 p.1) (λ j. (e j, (let z : m ≡ suc k = omega arith in z) j))

  pub gather_some : (k i m n : ℕ) (hands : List (Vec (Task C g) Global)) (u : Vec (Task C g) Global) → k < SESSIONS → AreDealt h x w (count_from (suc k) (SESSIONS - k)) hands → i ≡ hand_of x n m
      → n ≡ w → m ≡ k + 1 → i < n → u ≡ get_or hands i u → 0 < length u.items
  gather_some k i m n hands u b a q e f l read = dealt_some h x w (count_from (suc (suc k)) (SESSIONS - suc k)) (suc k) i hands u (as_first k hands b a) (its_hand k i m n q e f) (omega arith) read

  pub gather_step : (k i m n : ℕ) (t : Task C g) (hands hands2 : List (Vec (Task C g) Global)) (u v : Vec (Task C g) Global) → k < SESSIONS → AreDealt h x w (count_from (suc k) (SESSIONS - k)) hands
      → i ≡ hand_of x n m → n ≡ w → m ≡ k + 1 → i < n → u ≡ get_or hands i u → u.items ≡ v.items ++ t ∷ [] → hands2 ≡ set hands i v → TakenOut h x w (count_from (suc (k + 1)) (SESSIONS - (k + 1)))
      (suc k) t hands2
  gather_step k i m n t hands hands2 u v b a q e f l read items to =
      let o = dealt_out h x w (count_from (suc (suc k)) (SESSIONS - suc k)) (suc k) i t hands hands2 u v (as_first k hands b a) (its_hand k i m n q e f) (omega arith) read items to in record {
        dealt = subst (λ (ns : List ℕ). AreDealt h x w ns hands2) (from_next k b) o.dealt;
        task = o.task;
        session = o.session;
      }
