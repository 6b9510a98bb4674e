-- Each use of the queue keeps the queue's rule.
use Rattle.std.proofs.Common.{◌≡◌, ◌≢◌, ℕ, zero, suc, ◌+◌, ◌<◌, ◌≤◌, true, false, true≢false, List, [], ◌∷◌, ◌++◌, Some, length}
use Rattle.std.proofs.Common.{map, set, take, drop, length-append, append_assoc, refl, sym, ap, ◌∙◌, subst, ⊎_elim, arith}
use Rattle.std.specs.List.{slice_get}
use Rattle.std.proofs.lemmas.List.{map-append, take-append-drop, length-take, length-map}
use Rattle.std.proofs.lemmas.List.Elements.{All-push}
use mathlib.Core.Option.{some, some-injective, some-ne-none}
use lib.ListN.{get_elem?}
use Rattle.crossbeam_queue.specs.Fifo.{Pushes, Pops, Forks, Merges, Learns}
use Rattle.crossbeam_queue.proofs.Lists.{at_set, at_snoc}
use Rattle.turn_lock.specs.Counts.{total, same, times}
use Rattle.turn_lock.proofs.Counts.{total_set, total_snoc, total_at, total_two}
use Rattle.turn_lock.proofs.Lists.{All_none}
use Rattle.session_tasks.specs.pool.Rising.{Rising}
use Rattle.session_tasks.specs.pool.Tallies.{first_tally, kept_tally, new_tally, after_push, after_pop, both_tallies, spent_tally}
use Rattle.session_tasks.specs.pool.HandedOut.{IsTally, IsTaken, AreHandedOut, IsRest}
use Rattle.session_tasks.specs.declared.pool.tally.Tally.{Tally}
use Rattle.session_tasks.proofs.lemmas.pool.Sums.{total_append, one, total_one, total_alone}
use Rattle.session_tasks.proofs.lemmas.pool.Risings.{rising_once, rising_snoc, rising_before, rising_left, merged_total, merged_rises}

-- what holds of the new view and of each other view holds of all
each_set : (F : ℕ → Tally → Type 0) (views : List Tally) (port : ℕ) (w : Tally) → F port w → ((j : ℕ) (u : Tally) → j ≢ port → get_elem? views j ≡ some u → F j u) → (j : ℕ) (u : Tally)
    → get_elem? (set views port w) j ≡ some u → F j u
each_set F views port w mine others j u e = ⊎_elim (λ (x : (j ≡ port) × (w ≡ u)). subst (λ (y : ℕ × Tally). F y.0 y.1) (λ i. (sym x.0 i, x.1 i)) mine)
    (λ (x : (j ≢ port) × (get_elem? views j ≡ some u)). others j u x.0 x.1) (at_set views port j w u e)

-- a prefix that is one element longer
take_more : (xs : List ℕ) (n x : ℕ) → slice_get xs n ≡ Some x → take (suc n) xs ≡ take n xs ++ x ∷ []
take_more [] n x e = absurd (cc)
take_more (y ∷ ys) zero x e = let s : y ≡ x = cc in ap (λ z. z ∷ []) s
take_more (y ∷ ys) (suc n) x e = ap (λ zs. y ∷ zs) (take_more ys n x e)

first_each : (port : ℕ) (v : Tally) → get_elem? (first_tally ∷ []) port ≡ some v → IsTally 0 0 port v
first_each zero v e = subst (IsTally 0 0 0) (some-injective first_tally v e) record { rising = tt; alone = λ _. refl; counts = λ _. refl; idle = λ _. refl }
first_each (suc port) v e = absurd (some-ne-none v (sym e))

idle_tally : (writer pushed port : ℕ) (v : Tally) → v.taken ≡ [] → v.pushes ≡ false → IsTally writer pushed port v
idle_tally writer pushed port v none quiet = record {
  rising = subst (Rising 0) (sym none) tt;
  alone = λ p. absurd (true≢false (sym p ∙ quiet));
  counts = λ p. absurd (true≢false (sym p ∙ quiet));
  idle = λ _. none;
}

module _ {T : Type 0} (numbers : List ℕ) (number : T → ℕ) (fits : T → Type 0) where
  abbrev H : List T → List Tally → Type 0
  H = AreHandedOut numbers number fits

  pub begins : Rising 0 numbers → H [] (first_tally ∷ [])
  begins r = record {
    pushed = 0;
    popped = [];
    writer = 0;
    rising = r;
    prefix = refl;
    fitting = All_none fits;
    shared = λ weight. refl;
    whole = refl;
    each = first_each;
  }

  -- the popped numbers rise, followed by those of the items that are queued
  popped_rises : (items : List T) (views : List Tally) → (h : H items views) → Rising 0 (h.popped ++ map number items)
  popped_rises items views h =
      subst (Rising 0) h.prefix (rising_left 0 (take h.pushed numbers) (drop h.pushed numbers) (subst (Rising 0) (sym (take-append-drop h.pushed numbers)) h.rising))

  pub pushes : (n port : ℕ) (v : Tally) (x : T) → v.pushes ≡ true → slice_get numbers v.pushed ≡ Some (number x) → fits x → Pushes H n port v x (λ w. w ≡ after_push v)
  pushes n port v x may next fit items views _ h at =
      let w = after_push v in
      let mine = h.each port v at in (
        w,
        record {
          pushed = suc h.pushed;
          popped = h.popped;
          writer = h.writer;
          rising = h.rising;
          prefix = take_more numbers h.pushed (number x) (ap (slice_get numbers) (sym (mine.counts may)) ∙ next)
              ∙ (ap (λ l. l ++ number x ∷ []) h.prefix ∙ (append_assoc h.popped (map number items) (number x ∷ []) ∙ ap (λ l. h.popped ++ l) (sym (map-append number items (x ∷ [])))));
          fitting = All-push fits items x h.fitting fit;
          shared = λ weight. (let s = total_set (λ (u : Tally). total weight u.taken) views port v w at in let t = h.shared weight in omega arith);
          whole = (let s = total_set (λ (u : Tally). u.parts) views port v w at in let t = h.whole in omega arith);
          each = each_set (IsTally h.writer (suc h.pushed)) views port w
              record { rising = mine.rising; alone = mine.alone; counts = λ p. (let c = mine.counts p in omega arith); idle = mine.idle }
              (λ j u other e. let was = h.each j u e in record { rising = was.rising; alone = was.alone; counts = λ p. absurd (other (was.alone p ∙ sym (mine.alone may))); idle = was.idle });
        },
        refl,
      )

  pub pops : (port : ℕ) (v : Tally) → 0 < v.parts → Pops H port v (λ x w. (w ≡ after_pop v (number x)) × fits x × IsTaken (length numbers) v w)
  pops port v some_ x items views h at = (
    w,
    record {
      pushed = h.pushed;
      popped = h.popped ++ number x ∷ [];
      writer = h.writer;
      rising = h.rising;
      prefix = h.prefix ∙ sym (append_assoc h.popped (number x ∷ []) (map number items));
      fitting = λ k d l. h.fitting (suc k) d (omega arith);
      shared = λ weight. (let s = total_set (λ (u : Tally). total weight u.taken) views port v w at in let a = total_append weight v.taken (number x ∷ []) in
          let b = total_append weight h.popped (number x ∷ []) in let t = h.shared weight in omega arith);
      whole = (let s = total_set (λ (u : Tally). u.parts) views port v w at in let t = h.whole in omega arith);
      each = each_set (IsTally h.writer h.pushed) views port w
          record { rising = up; alone = mine.alone; counts = mine.counts; idle = λ z. absurd (omega arith) }
          (λ j u other e. h.each j u e);
    },
    (refl, h.fitting 0 x (omega arith), (room, up)),
  )
    where
      w : Tally
      w = after_pop v (number x)

      mine : IsTally h.writer h.pushed port v
      mine = h.each port v at

      up : Rising 0 (v.taken ++ number x ∷ [])
      up = rising_snoc 0 (number x) v.taken mine.rising (omega arith)
          (λ y p. rising_before 0 (number x) h.popped (map number items) (popped_rises (x ∷ items) views h) y
          (let a = total_at (λ (u : Tally). times y u.taken) views port v at in let b = h.shared (same y) in omega arith))

      room : length v.taken < length numbers
      room =
          let a = total_at (λ (u : Tally). total one u.taken) views port v at in
          let b = h.shared one in
          let c = total_one v.taken in
          let d = total_one h.popped in
          let e : length (take h.pushed numbers) ≡ length (h.popped ++ number x ∷ map number items) = ap length h.prefix in
          let f = length-append h.popped (number x ∷ map number items) in
          let i : length (take h.pushed numbers ++ drop h.pushed numbers) ≡ length numbers = ap length (take-append-drop h.pushed numbers) in
          let k = length-append (take h.pushed numbers) (drop h.pushed numbers) in omega arith

  pub forks : (port : ℕ) (v : Tally) → 1 < v.parts → Forks H port v (kept_tally v) new_tally
  forks port v more items views h at = record {
    pushed = h.pushed;
    popped = h.popped;
    writer = h.writer;
    rising = h.rising;
    prefix = h.prefix;
    fitting = h.fitting;
    shared = λ weight. (let s = total_set (λ (u : Tally). total weight u.taken) views port v l at in let t = total_snoc (λ (u : Tally). total weight u.taken) vs new_tally in let o = h.shared weight in
        omega arith);
    whole = (let s = total_set (λ (u : Tally). u.parts) views port v l at in let t = total_snoc (λ (u : Tally). u.parts) vs new_tally in let o = h.whole in omega arith);
    each = λ j u e. ⊎_elim (λ (there : get_elem? vs j ≡ some u). old j u there) (λ (is : new_tally ≡ u). subst (IsTally h.writer h.pushed j) is (idle_tally h.writer h.pushed j new_tally refl refl))
        (at_snoc vs new_tally u j e);
  }
    where
      l : Tally
      l = kept_tally v

      vs : List Tally
      vs = set views port l

      mine : IsTally h.writer h.pushed port v
      mine = h.each port v at

      old : (j : ℕ) (u : Tally) → get_elem? vs j ≡ some u → IsTally h.writer h.pushed j u
      old = each_set (IsTally h.writer h.pushed) views port l
          record { rising = mine.rising; alone = mine.alone; counts = mine.counts; idle = λ z. absurd (omega arith) }
          (λ j u other e. h.each j u e)

  pub merges : (port : ℕ) (v : Tally) (other : ℕ) (u : Tally) → 0 < v.parts → Merges H port v other u (both_tallies v u) spent_tally
  merges port v other u some_ items views h at apart at' = record {
    pushed = h.pushed;
    popped = h.popped;
    writer = h.writer;
    rising = h.rising;
    prefix = h.prefix;
    fitting = h.fitting;
    shared = λ weight. (let s = total_set (λ (y : Tally). total weight y.taken) views port v both at in let t = total_set (λ (y : Tally). total weight y.taken) vs other u spent_tally at' in
        let m = merged_total weight v.taken u.taken in let o = h.shared weight in omega arith);
    whole = (let s = total_set (λ (y : Tally). y.parts) views port v both at in let t = total_set (λ (y : Tally). y.parts) vs other u spent_tally at' in let o = h.whole in omega arith);
    each = each_set (IsTally h.writer h.pushed) vs other spent_tally (idle_tally h.writer h.pushed other spent_tally refl refl) (λ j y n e. now j y e);
  }
    where
      both : Tally
      both = both_tallies v u

      vs : List Tally
      vs = set views port both

      mine : IsTally h.writer h.pushed port v
      mine = h.each port v at

      was : get_elem? views other ≡ some u
      was = ⊎_elim (λ x. absurd (apart x.0)) (λ x. x.1) (at_set views port other both u at')

      once : (s : ℕ) → times s v.taken + times s u.taken ≤ 1
      once s =
          let a = total_two (λ (y : Tally). times s y.taken) views port other v u (λ e. apart (sym e)) at was in
          let b = h.shared (same s) in
          let c = rising_once 0 s h.popped (rising_left 0 h.popped (map number items) (popped_rises items views h)) in omega arith

      now : (j : ℕ) (y : Tally) → get_elem? vs j ≡ some y → IsTally h.writer h.pushed j y
      now = each_set (IsTally h.writer h.pushed) views port both
          record { rising = merged_rises 0 v.taken u.taken mine.rising (h.each other u was).rising once; alone = mine.alone; counts = mine.counts; idle = λ z. absurd (omega arith) }
          (λ j y n e. h.each j y e)

  -- what a token that may push learns: the queue holds no more than was pushed
  pub learns_room : (port : ℕ) (v : Tally) → v.pushes ≡ true → Learns H port v (λ items. length items ≤ v.pushed)
  learns_room port v may items views h at =
      let c = (h.each port v at).counts may in
      let a : length (take h.pushed numbers) ≡ length (h.popped ++ map number items) = ap length h.prefix in
      let b = length-append h.popped (map number items) in
      let d : length (map number items) ≡ length items = length-map items number in
      let e = length-take h.pushed numbers in omega arith

  -- what the only token learns: the queue holds what it has not taken
  pub learns_rest : (port : ℕ) (v : Tally) → v.parts ≡ 256 → v.pushes ≡ true → Learns H port v (IsRest numbers number v)
  learns_rest port v all may items views h at weight =
      let a : total (λ (u : Tally). total weight u.taken) views ≡ total weight v.taken = total_alone (λ (u : Tally). total weight u.taken) (λ (u : Tally). u.parts) views port v at (h.whole ∙ sym all)
      (λ i u e z. ap (total weight) ((h.each i u e).idle z)) in
      let b = h.shared weight in
      let c = total_append weight h.popped (map number items) in
      let d : total weight (take v.pushed numbers) ≡ total weight (h.popped ++ map number items) = ap (λ (n : ℕ). total weight (take n numbers)) ((h.each port v at).counts may)
      ∙ ap (total weight) h.prefix in omega arith
