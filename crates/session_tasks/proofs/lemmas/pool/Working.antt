-- The workers: how they take sessions, and what is left when they finish.
use Rattle.std.proofs.Common.{◌≡◌, ℕ, zero, suc, ◌+◌, ◌<◌, ◌≤◌, false, List, [], ◌∷◌, ◌++◌, Option, Result, Ok, Err, IfOk, All}
use Rattle.std.proofs.Common.{Vec, length, map, get_or, set, take, vec_len, vec_capacity, refl, sym, ap, ◌∙◌, subst, arith}
use Rattle.std.specs.declared.alloc.Global.{Global}
use Rattle.std.specs.declared.alloc.AllocError.{AllocError}
use Rattle.std.proofs.lemmas.List.{map-append, length-map}
use Rattle.std.proofs.lemmas.List.Elements.{All-push, All-set}
use Rattle.std.proofs.Math.ListN.{length-set}
use Rattle.std.proofs.Math.Seq.{take-length}
use Rattle.crossbeam_queue.specs.declared.array_queue.Doing.{Doing}
use Rattle.crossbeam_queue.specs.declared.array_queue.Slotted.{Slotted}
use Rattle.crossbeam_queue.specs.Fifo.{Held}
use Rattle.crossbeam_queue.specs.Passes.{Pass, view, IsPassOf}
use Rattle.atomic_table.specs.Seated.{TableId}
use Rattle.turn_lock.specs.Seats.{view_of}
use Rattle.turn_lock.specs.Counts.{total, same}
use Rattle.turn_lock.proofs.Counts.{total_snoc}
use Rattle.session_server.specs.Halls.{Ghosts, Hall}
use Rattle.session_server.specs.Outfits.{Fitted}
use Rattle.session_server.specs.Passes.{IsNew}
use Rattle.session_tasks.specs.Scripted.{Scripted}
use Rattle.session_tasks.specs.Tasks.{IsTask, number_in}
use Rattle.session_tasks.specs.declared.task.Task.{Task}
use Rattle.session_tasks.specs.pool.Rising.{Rising}
use Rattle.session_tasks.specs.pool.Tallies.{tally, after_pop, merged, IsWhole}
use Rattle.session_tasks.specs.pool.HandedOut.{IsTaken, IsRest}
use Rattle.session_tasks.specs.pool.Hands.{taken_in, weight_of, AreHands, AreCollected, IsFirst}
use Rattle.session_tasks.specs.pool.Suits.{Suits, IsRosterOf}
use Rattle.session_tasks.specs.pool.Waits.{IsUnused, IsWaiting, number_at, scripted, tells_of}
use Rattle.session_tasks.specs.pool.Workers.{HasToken, IsHired, IsAtWork}
use Rattle.session_tasks.specs.declared.pool.tally.Tally.{Tally}
use Rattle.session_tasks.specs.declared.pool.waiting.Waiting.{Waiting}
use Rattle.session_tasks.specs.declared.pool.worker.Worker.{Worker}
use Rattle.session_tasks.proofs.lemmas.pool.Sums.{total_append, one, total_one}
use Rattle.session_tasks.proofs.lemmas.pool.Scripting.{scripted_few, scripted_rises}
use Rattle.session_tasks.proofs.lemmas.pool.Takings.{all_map}
use Rattle.session_tasks.proofs.lemmas.pool.Risings.{rising_snoc, rising_before, merged_total}
use Rattle.teb_rules.specs.declared.names.TheConstants.{SESSIONS}

total_at_or : {A : Type 0} (f : A → ℕ) (l : List A) (i : ℕ) (d : A) → i < length l → f (get_or l i d) ≤ total f l
total_at_or f [] i d l = absurd (omega arith)
total_at_or f (x ∷ xs) zero d l = omega arith
total_at_or f (x ∷ xs) (suc i) d l = let h = total_at_or f xs i d (omega arith) in omega arith

total_set_or : {A : Type 0} (f : A → ℕ) (l : List A) (i : ℕ) (b d : A) → i < length l → total f (set l i b) + f (get_or l i d) ≡ total f l + f b
total_set_or f [] i b d l = absurd (omega arith)
total_set_or f (x ∷ xs) zero b d l = omega arith
total_set_or f (x ∷ xs) (suc i) b d l = let h = total_set_or f xs i b d (omega arith) in omega arith

module _ {C : Type 0} {g : Ghosts C} {Q A : Type 0} (line : Slotted (Option (Waiting C g)) (Doing (Waiting C g) Tally) Q A) where
  -- a worker with an empty hand
  pub hired : (p : Pass (Waiting C g) Tally) (v : Vec (Task C g) Global) → IsPassOf line p → view p ≡ tally 1 false 0 [] → v.items ≡ [] → vec_capacity v ≡ SESSIONS
      → IsHired line (record { token = p; hand = v })
  hired p v of is none room = record {
    token = record { of = of; knows = is ∙ ap (λ (l : List (Task C g)). tally 1 false 0 (map number_in l)) (sym none) };
    empty = none;
    room = room;
  }

-- the prefix before what was written back
pub written_back : {A : Type 0} (xs zs : List A) (n : ℕ) → length xs ≡ n → take n (xs ++ zs) ≡ xs
written_back [] zs zero e = refl
written_back [] zs (suc n) e = absurd (omega arith)
written_back (x ∷ xs) zs zero e = absurd (omega arith)
written_back (x ∷ xs) zs (suc n) e = ap (λ ys. x ∷ ys) (written_back xs zs n (omega arith))

module _ {C : Type 0} {g : Ghosts C} where
  -- one more hand is added
  pub weight_on : (weight : ℕ → ℕ) (hands hands2 : List (Vec (Task C g) Global)) (v : Vec (Task C g) Global) (a b : List ℕ) → weight_of weight hands ≡ total weight a → b ≡ taken_in v → hands2 ≡ hands
      ++ v ∷ [] → weight_of weight hands2 ≡ total weight (merged a b)
  weight_on weight hands hands2 v a b old e is =
      let s = total_snoc (λ (u : Vec (Task C g) Global). total weight (taken_in u)) hands v in
      let m = merged_total weight a b in
      let k : total weight b ≡ total weight (taken_in v) = ap (total weight) e in
      let q : weight_of weight hands2 ≡ weight_of weight (hands ++ v ∷ []) = ap (weight_of weight) is in omega arith

  pub none_at : (ws : List (Waiting C g)) → length ws ≡ 0 → map number_at ws ≡ []
  none_at [] e = refl
  none_at (w ∷ ws) e = absurd (omega arith)

  -- empty hands weigh nothing
  none_weigh : (weight : ℕ → ℕ) (hands : List (Vec (Task C g) Global)) → All (λ (u : Vec (Task C g) Global). u.items ≡ []) hands → weight_of weight hands ≡ 0
  none_weigh weight [] a = refl
  none_weigh weight (u ∷ us) a =
      let e : total weight (taken_in u) ≡ 0 = ap (λ (ts : List (Task C g)). total weight (map number_in ts)) (a 0 u (omega arith)) in
      let r = none_weigh weight us (λ k d l. a (suc k) d (omega arith)) in omega arith

  pub no_hands : (h : Hall C g) (scripts : Scripted) (workers : ℕ) (numbers : List ℕ) (hands : List (Vec (Task C g) Global)) → length hands ≡ workers
      → All (λ (u : Vec (Task C g) Global). u.items ≡ []) hands → numbers ≡ [] → AreHands h scripts workers numbers hands
  no_hands h scripts workers numbers hands count none empty = record {
    count = count;
    tasks = λ k d l. subst (All (IsTask h scripts)) (sym (none k d l)) (λ i t b. absurd (omega arith));
    rising = λ k d l. subst (λ (ts : List (Task C g)). Rising 0 (map number_in ts)) (sym (none k d l)) tt;
    shared = λ weight. none_weigh weight hands none ∙ sym (ap (total weight) empty);
  }

  pub no_hands_yet : (h : Hall C g) (scripts : Scripted) (n workers : ℕ) (numbers : List ℕ) (r : Result (Vec (Vec (Task C g) Global) Global) AllocError) → n ≡ workers → IfOk r (λ v. vec_len v ≡ n)
      → IfOk r (λ v. All (λ (u : Vec (Task C g) Global). u.items ≡ []) v.items) → numbers ≡ [] → IfOk r (λ v. AreHands h scripts workers numbers v.items)
  no_hands_yet h scripts n workers numbers (Ok v) same count none empty = no_hands h scripts workers numbers v.items (let z = v.ok.0 in omega arith) none empty
  no_hands_yet h scripts n workers numbers (Err w) same count none empty = tt

module _ {C : Type 0} {g : Ghosts C} (h : Hall C g) (scripts : Scripted) where
  taken_on : (u v : Vec (Task C g) Global) (t : Task C g) (n : ℕ) → v.items ≡ u.items ++ t ∷ [] → number_in t ≡ n → taken_in v ≡ taken_in u ++ n ∷ []
  taken_on u v t n is e = ap (map number_in) is ∙ (map-append number_in u.items (t ∷ []) ∙ ap (λ (k : ℕ). taken_in u ++ k ∷ []) e)

  tasks_on : (u v : Vec (Task C g) Global) (t : Task C g) → v.items ≡ u.items ++ t ∷ [] → All (IsTask h scripts) u.items → IsTask h scripts t → All (IsTask h scripts) v.items
  tasks_on u v t is a k = subst (All (IsTask h scripts)) (sym is) (All-push (IsTask h scripts) u.items t a k)

  module _ {Q A : Type 0} (line : Slotted (Option (Waiting C g)) (Doing (Waiting C g) Tally) Q A) where
    -- the tokens of the workers that have worked
    pub worked_tokens : (ws : List (Worker C g)) → All (IsAtWork line h scripts) ws → All (HasToken line) ws
    worked_tokens ws a k d l = (a k d l).token

    pub worked_hands : (ws : List (Worker C g)) (n pushed : ℕ) (v : Tally) (hands : List (Vec (Task C g) Global)) → All (IsAtWork line h scripts) ws → length ws ≡ n → hands ≡ map (λ w. w.hand) ws
        → IsWhole pushed v → ((weight : ℕ → ℕ) → weight_of weight hands ≡ total weight v.taken) → AreCollected h scripts n pushed v hands
    worked_hands ws n pushed v hands a count is whole shared = record {
      count = ap length is ∙ (length-map ws (λ (w : Worker C g). w.hand) ∙ count);
      tasks = subst (All (λ (u : Vec (Task C g) Global). All (IsTask h scripts) u.items)) (sym is)
          (all_map (λ (u : Vec (Task C g) Global). All (IsTask h scripts) u.items) (λ (w : Worker C g). w.hand) ws (λ k d l. (a k d l).tasks));
      rising = subst (All (λ (u : Vec (Task C g) Global). Rising 0 (taken_in u))) (sym is)
          (all_map (λ (u : Vec (Task C g) Global). Rising 0 (taken_in u)) (λ (w : Worker C g). w.hand) ws (λ k d l. (a k d l).rising));
      room = subst (All (λ (u : Vec (Task C g) Global). vec_capacity u ≡ SESSIONS)) (sym is)
          (all_map (λ (u : Vec (Task C g) Global). vec_capacity u ≡ SESSIONS) (λ (w : Worker C g). w.hand) ws (λ k d l. (a k d l).room));
      whole = whole;
      shared = shared;
    }

    -- the hand of a worker that can take a session has room
    pub at_work_room : (w : Worker C g) → IsAtWork line h scripts w → length (view w.token).taken < SESSIONS → length w.hand.items < SESSIONS
    at_work_room w a few = let e : length (view w.token).taken ≡ length (taken_in w.hand) = ap (λ (v : Tally). length v.taken) a.token.knows in let m = length-map w.hand.items number_in in omega arith

    -- the worker has taken one more session
    pub at_work_on : (w : Worker C g) (p : Pass (Waiting C g) Tally) (v : Vec (Task C g) Global) (t : Task C g) (n : ℕ) → IsAtWork line h scripts w → IsPassOf line p
        → view p ≡ after_pop (view w.token) n → IsTaken SESSIONS (view w.token) (view p)
        → IsTask h scripts t → number_in t ≡ n → v.items ≡ w.hand.items ++ t ∷ [] → vec_capacity v ≡ vec_capacity w.hand → IsAtWork line h scripts (record { token = p; hand = v })
    at_work_on w p v t n a of is taken task e items room = record {
      token = record { of = of; knows = knows };
      tasks = tasks_on w.hand v t items a.tasks task;
      rising = subst (λ (u : Tally). Rising 0 u.taken) knows taken.1;
      room = room ∙ a.room;
    }
      where
        knows : view p ≡ tally 1 false 0 (taken_in v)
        knows = is ∙ (ap (λ (u : Tally). after_pop u n) a.token.knows ∙ ap (tally 1 false 0) (sym (taken_on w.hand v t n items e)))

  -- one more session is taken from what was left in the queue
  pub record IsRestTaken (u v : Vec (Task C g) Global) (old new : Tally) : Type 0 where
    pub tasks : All (IsTask h scripts) v.items
    pub rising : Rising 0 (taken_in v)
    pub within : (weight : ℕ → ℕ) → total weight (taken_in v) ≤ total weight new.taken
    pub more : (weight : ℕ → ℕ) → total weight (taken_in v) + total weight old.taken ≡ total weight (taken_in u) + total weight new.taken

  pub rest_on : (u v : Vec (Task C g) Global) (old new : Tally) (t : Task C g) (n most : ℕ) → All (IsTask h scripts) u.items → Rising 0 (taken_in u)
      → ((weight : ℕ → ℕ) → total weight (taken_in u) ≤ total weight old.taken)
      → new ≡ after_pop old n → IsTaken most old new → IsTask h scripts t → number_in t ≡ n → v.items ≡ u.items ++ t ∷ [] → IsRestTaken u v old new
  rest_on u v old new t n most tasks rising within is taken task e items = record {
    tasks = tasks_on u v t items tasks task;
    rising = subst (Rising 0) (sym there) (rising_snoc 0 n (taken_in u) rising (omega arith) (λ y p. rising_before 0 n old.taken [] up y (let a = within (same y) in omega arith)));
    within = λ weight. (let a = within weight in let b = both weight in omega arith);
    more = λ weight. (let b = both weight in omega arith);
  }
    where
      there : taken_in v ≡ taken_in u ++ n ∷ []
      there = taken_on u v t n items e

      up : Rising 0 (old.taken ++ n ∷ [])
      up = subst (λ (w : Tally). Rising 0 w.taken) is taken.1

      both : (weight : ℕ → ℕ) → (total weight (taken_in v) ≡ total weight (taken_in u) + weight n) × (total weight new.taken ≡ total weight old.taken + weight n)
      both weight = (
        (let a : total weight (taken_in v) ≡ total weight (taken_in u ++ n ∷ []) = ap (total weight) there in let b = total_append weight (taken_in u) (n ∷ []) in omega arith),
        (let a : total weight new.taken ≡ total weight (old.taken ++ n ∷ []) = ap (λ (w : Tally). total weight w.taken) is in let b = total_append weight old.taken (n ∷ []) in omega arith),
      )

  -- the hand has room for each session that is left
  pub rest_room : (u : Vec (Task C g) Global) (old : Tally) → ((weight : ℕ → ℕ) → total weight (taken_in u) ≤ total weight old.taken) → length old.taken < SESSIONS → length u.items < SESSIONS
  rest_room u old within few = let a = within one in let b = total_one (taken_in u) in let c = total_one old.taken in let m = length-map u.items number_in in omega arith

  -- if the queue holds nothing, all was taken
  pub all_taken : {T : Type 0} (numbers : List ℕ) (number : T → ℕ) (v : Tally) → IsWhole (length numbers) v → Held 0 (IsRest numbers number v) → (weight : ℕ → ℕ)
      → total weight v.taken ≡ total weight numbers
  all_taken numbers number v whole held weight =
      let r = held.2 weight in
      let a : total weight (map number held.0) ≡ 0 = none held.0 held.1 in
      let b : total weight (take v.pushed numbers) ≡ total weight numbers = ap (λ (k : ℕ). total weight (take k numbers)) whole.all ∙ ap (total weight) (take-length numbers) in omega arith
    where
      none : (items : List _) → length items ≡ 0 → total weight (map number items) ≡ 0
      none [] e = refl
      none (x ∷ xs) e = absurd (omega arith)

  pub first_hand : (workers pushed : ℕ) (v : Tally) (hands : List (Vec (Task C g) Global)) (u : Vec (Task C g) Global) → AreCollected h scripts workers pushed v hands → 0 < length hands
      → u ≡ get_or hands 0 u → IsFirst h scripts u v
  first_hand workers pushed v hands u a some_ is = record {
    tasks = subst (λ (w : Vec (Task C g) Global). All (IsTask h scripts) w.items) (sym is) (a.tasks 0 u some_);
    rising = subst (λ (w : Vec (Task C g) Global). Rising 0 (taken_in w)) (sym is) (a.rising 0 u some_);
    within = λ weight. (let k = total_at_or (λ (w : Vec (Task C g) Global). total weight (taken_in w)) hands 0 u some_ in let s = a.shared weight in
        let e : total weight (taken_in (get_or hands 0 u)) ≡ total weight (taken_in u) = ap (λ (w : Vec (Task C g) Global). total weight (taken_in w)) (sym is) in omega arith);
    room = ap (λ (w : Vec (Task C g) Global). vec_capacity w) is ∙ a.room 0 u some_;
  }

  pub all_hands : (workers pushed : ℕ) (v : Tally) (numbers : List ℕ) (hands hands2 : List (Vec (Task C g) Global)) (u w : Vec (Task C g) Global) → AreCollected h scripts workers pushed v hands
      → 0 < length hands → u ≡ get_or hands 0 u → hands2 ≡ set hands 0 w
      → All (IsTask h scripts) w.items → Rising 0 (taken_in w) → ((weight : ℕ → ℕ) → total weight (taken_in w) + total weight v.taken ≡ total weight (taken_in u) + total weight numbers)
      → AreHands h scripts workers numbers hands2
  all_hands workers pushed v numbers hands hands2 u w a some_ is to tasks rising rest = subst (AreHands h scripts workers numbers) (sym to) record {
    count = length-set hands 0 w ∙ a.count;
    tasks = All-set (λ (y : Vec (Task C g) Global). All (IsTask h scripts) y.items) hands 0 w tasks a.tasks;
    rising = All-set (λ (y : Vec (Task C g) Global). Rising 0 (taken_in y)) hands 0 w rising a.rising;
    shared = λ weight. (let k = total_set_or (λ (y : Vec (Task C g) Global). total weight (taken_in y)) hands 0 w u some_ in let s = a.shared weight in
        let e : total weight (taken_in (get_or hands 0 u)) ≡ total weight (taken_in u) = ap (λ (y : Vec (Task C g) Global). total weight (taken_in y)) (sym is) in let r = rest weight in omega arith);
  }

-- the pass that was taken is the unused pass of its session
module _ {C : Type 0} {g : Ghosts C} (h : Hall C g) (numbers : List ℕ) (told : TableId → Option Fitted → Type 0) (suits : Suits h numbers told) where
  pub unused_new : (w : Waiting C g) → IsUnused told w → IsNew h w.pass
  unused_new w u = let t = suits.tells w.pass.seat.seat.table_id (view_of w.pass.seat).base u.place in record { seat = t.0; base = t.1; seen = u.seen; asks = u.asks }

-- the waiting sessions suit their own hall
module _ {C : Type 0} {g : Ghosts C} (h : Hall C g) (ws : List (Waiting C g)) where
  waiting_suit : (scripts : Scripted) → map number_at ws ≡ scripted scripts → Suits h (map number_at ws) (tells_of h)
  waiting_suit scripts is = record {
    few = subst (λ (ns : List ℕ). length ns ≤ SESSIONS) (sym is) (scripted_few scripts);
    rising = subst (Rising 0) (sym is) (scripted_rises scripts);
    tells = λ table base t. t;
  }

  pub waiting_roster : (scripts : Scripted) → map number_at ws ≡ scripted scripts → All (IsWaiting h) ws → IsRosterOf h ws (map number_at ws) (tells_of h)
  waiting_roster scripts is fit = record {
    suits = waiting_suit scripts is;
    these = record {
      numbers = refl;
      unused = λ k d l. let w = fit k d l in record { place = (w.new.seat, w.new.base); seen = w.new.seen; asks = w.new.asks; session = w.session };
    };
  }
