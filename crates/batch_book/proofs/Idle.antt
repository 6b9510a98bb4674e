-- A side is idle if no running row has it; the running rows of a side share their start and the number admitted.
use Rattle.std.proofs.Common.{◌≡◌, ℕ, Bool, true, false, cond, not, ◌&&◌, ◌||◌, eqb, List, [], ◌∷◌, ◌++◌, filter, map, Option, refl, inl, inr, eqb-true}
use Rattle.std.specs.List.{list_all}
use Rattle.std.proofs.lemmas.Bool.{cases_Bool}
use Rattle.teb_rules.specs.declared.history.Event.{Event}
use Rattle.teb_rules.specs.history.Phases.{unfinished, txns}
use Rattle.teb_rules.specs.Setup.{Setup}
use Rattle.teb_rules.specs.Serializes.{In}
use Rattle.teb_rules.specs.Tree.{on, side}
use Rattle.teb_rules.specs.Batches.{idle}
use Rattle.batch_book.specs.Book.{Row, Running, is_busy, start_on, admitted_on, admit}
use Rattle.batch_book.specs.Histories.{running_in, running_of}

pub row_path : (t s a i j : ℕ) (c d : Option ℕ) → s ≡ a → i ≡ j → c ≡ d → ◌≡◌ {A = Row} (record { txn = t; side = s; start = i; close = c }) (record { txn = t; side = a; start = j; close = d })
row_path t s a i j c d p q r = λ k. record { txn = t; side = p k; start = q k; close = r k }

pub running_path : (t s a i j c d : ℕ) → s ≡ a → i ≡ j → c ≡ d → ◌≡◌ {A = Running} (record { txn = t; side = s; start = i; admitted = c }) (record { txn = t; side = a; start = j; admitted = d })
running_path t s a i j c d p q r = λ k. record { txn = t; side = p k; start = q k; admitted = r k }

not_or : (a b : Bool) → (not a && not b) ≡ not (a || b)
not_or true b = refl
not_or false b = refl

idle_any : (p q : ℕ → Bool) (g : ℕ → ℕ) (f : ℕ → Running) (s : ℕ) → ((u : ℕ) → (f u).side ≡ g u) → (us : List ℕ) →
    list_all (λ t. not (p t && q t && eqb (g t) s)) us ≡ not (is_busy (map f (filter p (filter q us))) s)
idle_any p q g f s h [] = refl
idle_any p q g f s h (v ∷ vs) = elim (cases_Bool (q v)) [
  | inl t ↦ rw t (elim (cases_Bool (p v)) [
    | inl e ↦ rw (e, idle_any p q g f s h vs, h v) (not_or (eqb (g v) s) (is_busy (map f (filter p (filter q vs))) s))
    | inr e ↦ rw e (idle_any p q g f s h vs)
  ])
  | inr t ↦ rw t (elim (cases_Bool (p v)) [
    | inl e ↦ rw e (idle_any p q g f s h vs)
    | inr e ↦ rw e (idle_any p q g f s h vs)
  ])
]

pub idle_running : (S : Setup) (H : List Event) (n s : ℕ) → idle S H n s ≡ not (is_busy (running_in S H n) s)
unfolding idle
idle_running S H n s = idle_any (unfinished H) (on S H n) (side S H n) (running_of S H n) s (λ u. refl) (txns H)

-- if all running rows of a side share a start, that is the start of the side; likewise for the number admitted
pub start_on_is : (f : ℕ → Running) (s at l : ℕ) (us : List ℕ) → ((u : ℕ) → In u us → (f u).side ≡ s → (f u).start ≡ l) → start_on (map f us) s at ≡ cond (is_busy (map f us) s) l at
start_on_is f s at l [] h = refl
start_on_is f s at l (v ∷ vs) h = elim (cases_Bool (eqb (f v).side s)) [
  | inl t ↦ rw t (h v (inl refl) (eqb-true _ _ t))
  | inr t ↦ rw t (start_on_is f s at l vs (λ u i. h u (inr i)))
]

pub admitted_on_is : (f : ℕ → Running) (s c : ℕ) (us : List ℕ) → ((u : ℕ) → In u us → (f u).side ≡ s → (f u).admitted ≡ c) → admitted_on (map f us) s ≡ cond (is_busy (map f us) s) c 0
admitted_on_is f s c [] h = refl
admitted_on_is f s c (v ∷ vs) h = elim (cases_Bool (eqb (f v).side s)) [
  | inl t ↦ rw t (h v (inl refl) (eqb-true _ _ t))
  | inr t ↦ rw t (admitted_on_is f s c vs (λ u i. h u (inr i)))
]

-- after a join, a busy side is still busy
pub busy_joined : (rs : List Running) (x : Running) (s a : ℕ) → is_busy rs a ≡ true → is_busy (map (admit s) rs ++ x ∷ []) a ≡ true
busy_joined [] x s a h = absurd (cc)
busy_joined (r ∷ rs) x s a h = go (eqb r.side a) h (busy_joined rs x s a)
  where
    go : (b : Bool) → (b || is_busy rs a) ≡ true → (is_busy rs a ≡ true → is_busy (map (admit s) rs ++ x ∷ []) a ≡ true) → (b || is_busy (map (admit s) rs ++ x ∷ []) a) ≡ true
    go true k ih = refl
    go false k ih = ih k
