-- A walk over a transaction's own events gives the same results as a walk over the whole history.
use Rattle.std.proofs.Common.{◌≡◌, ℕ, ℤ, Bool, true, false, cond, not, eqb, ◌&&◌, ◌||◌, List, [], ◌∷◌, filter, is_some, Option, Some, None, refl, sym, ◌∙◌, ap}
use Rattle.std.specs.List.{list_any}
use Rattle.std.specs.Option.{option_or}
use Rattle.teb_rules.specs.declared.names.Cell.{Cell}
use Rattle.teb_rules.specs.names.Cells.{same_cell}
use Rattle.teb_rules.proofs.lemmas.names.Bools.{and_true, and_false}
use Rattle.teb_rules.specs.declared.history.Event.{Event}
use Rattle.teb_rules.specs.declared.history.Event.TheVariants.{Began, Got, Put, Ready, Done, Gone, Told}
use Rattle.teb_rules.specs.history.Accesses.{is_put, is_got, is_from, put_at, got_at, wrote, got, last_put, last_got, read_from}
use Rattle.teb_rules.specs.history.OwnEvents.{is_of, own_events, put_in, got_in, gets_from}
use Rattle.teb_rules.proofs.lemmas.history.Any.{came_any}

-- a test of t's events gives the same on t's own events as on the history
own_events_are : (t : ℕ) (f g : Event → Bool) → ((e : Event) → g e ≡ (is_of t e && f e)) → (H : List Event) → list_any f (own_events H t) ≡ list_any g H
unfolding own_events
own_events_are t f g same [] = refl
own_events_are t f g same (e ∷ P) = go (is_of t e) (same e) (own_events_are t f g same P)
  where
    go : (b : Bool) → g e ≡ (b && f e) → list_any f (filter (is_of t) P) ≡ list_any g P → list_any f (cond b (e ∷ filter (is_of t) P) (filter (is_of t) P)) ≡ (g e || list_any g P)
    go true q h = λ j. sym q j || h j
    go false q h = h ∙ ap (λ b. b || list_any g P) (sym q)

nothing : (b : Bool) → false ≡ (b && false)
nothing b = sym (and_false b)

found_there : (b c : Bool) (v : Option ℤ) → (b && c) ≡ (b && is_some (cond c (Some v) None))
found_there true true v = refl
found_there true false v = refl
found_there false c v = refl

pub put_own : (t : ℕ) (x : Cell) (e : Event) → is_put t x e ≡ (is_of t e && is_some (put_in x e))
put_own t x (Put u y v) = found_there (eqb u.0 t) (same_cell y x) v
put_own t x (Began u s k i) = nothing (eqb u.0 t)
put_own t x (Got u y w v) = nothing (eqb u.0 t)
put_own t x (Ready u) = nothing (eqb u.0 t)
put_own t x (Done u) = nothing (eqb u.0 t)
put_own t x (Gone u c) = nothing (eqb u.0 t)
put_own t x (Told u) = nothing (eqb u.0 t)

get_own : (t : ℕ) (x : Cell) (e : Event) → is_got t x e ≡ (is_of t e && is_some (got_in x e))
get_own t x (Got u y w v) = found_there (eqb u.0 t) (same_cell y x) v
get_own t x (Began u s k i) = nothing (eqb u.0 t)
get_own t x (Put u y v) = nothing (eqb u.0 t)
get_own t x (Ready u) = nothing (eqb u.0 t)
get_own t x (Done u) = nothing (eqb u.0 t)
get_own t x (Gone u c) = nothing (eqb u.0 t)
get_own t x (Told u) = nothing (eqb u.0 t)

pub wrote_own : (H : List Event) (t : ℕ) (x : Cell) → wrote H t x ≡ list_any (λ e. is_some (put_in x e)) (own_events H t)
unfolding wrote put_at
wrote_own H t x = came_any (is_put t x) H ∙ sym (own_events_are t (λ e. is_some (put_in x e)) (is_put t x) (put_own t x) H)

pub got_own : (H : List Event) (t : ℕ) (x : Cell) → got H t x ≡ list_any (λ e. is_some (got_in x e)) (own_events H t)
unfolding got got_at
got_own H t x = came_any (is_got t x) H ∙ sym (own_events_are t (λ e. is_some (got_in x e)) (is_got t x) (get_own t x) H)

pub read_from_own : (H : List Event) (t u : ℕ) → read_from H t u ≡ (not (eqb t u) && list_any (gets_from u) (own_events H t))
unfolding read_from
read_from_own H t u = go (eqb t u) refl
  where
    none : (H : List Event) → eqb t u ≡ true → list_any (is_from t u) H ≡ false
    none [] q = refl
    none (Got s y w v ∷ P) q = ap (λ b. b || list_any (is_from t u) P) (ap (λ b. (eqb s.0 t && eqb w.0 u) && not b) q ∙ and_false (eqb s.0 t && eqb w.0 u)) ∙ none P q
    none (Began s a k i ∷ P) q = none P q
    none (Put s y v ∷ P) q = none P q
    none (Ready s ∷ P) q = none P q
    none (Done s ∷ P) q = none P q
    none (Gone s c ∷ P) q = none P q
    none (Told s ∷ P) q = none P q

    from : eqb t u ≡ false → (e : Event) → is_from t u e ≡ (is_of t e && gets_from u e)
    from q (Got s y w v) = ap (λ b. (eqb s.0 t && eqb w.0 u) && not b) q ∙ and_true (eqb s.0 t && eqb w.0 u)
    from q (Began s a k i) = nothing (eqb s.0 t)
    from q (Put s y v) = nothing (eqb s.0 t)
    from q (Ready s) = nothing (eqb s.0 t)
    from q (Done s) = nothing (eqb s.0 t)
    from q (Gone s c) = nothing (eqb s.0 t)
    from q (Told s) = nothing (eqb s.0 t)

    go : (b : Bool) → eqb t u ≡ b → list_any (is_from t u) H ≡ (not b && list_any (gets_from u) (own_events H t))
    go true q = none H q
    go false q = sym (own_events_are t (gets_from u) (is_from t u) (from q) H)

-- the first result of f, in events with the newest first
abbrev pub newest_in : {A : Type 0} → (Event → Option A) → List Event → Option A
newest_in f [] = None
newest_in f (e ∷ P) = let r = newest_in f P in option_or (f e) r

newest_own_in : {A : Type 0} (t : ℕ) (f : Event → Option A) (last : List Event → Option A) → last [] ≡ None
    → ((e : Event) (P : List Event) → last (e ∷ P) ≡ cond (is_of t e) (option_or (f e) (last P)) (last P))
    → (H : List Event) → newest_in f (own_events H t) ≡ last H
unfolding own_events
newest_own_in t f last none step [] = sym none
newest_own_in t f last none step (e ∷ P) = go (is_of t e) (step e P) (newest_own_in t f last none step P)
  where
    go : (b : Bool) → last (e ∷ P) ≡ cond b (option_or (f e) (last P)) (last P) → newest_in f (filter (is_of t) P) ≡ last P → newest_in f (cond b (e ∷ filter (is_of t) P) (filter (is_of t) P)) ≡ last
        (e ∷ P)
    go true q h = ap (option_or (f e)) h ∙ sym q
    go false q h = h ∙ sym q

same_both : {A : Type 0} (b : Bool) (a : A) → a ≡ cond b a a
same_both true a = refl
same_both false a = refl

pub last_put_own : (H : List Event) (t : ℕ) (x : Cell) → newest_in (put_in x) (own_events H t) ≡ last_put H t x
unfolding last_put
last_put_own H t x = newest_own_in t (put_in x) (λ P. last_put P t x) refl step H
  where
    here : (b c : Bool) (v : Option ℤ) (r : Option (Option ℤ)) → cond (b && c) (Some v) r ≡ cond b (option_or (cond c (Some v) None) r) r
    here true true v r = refl
    here true false v r = refl
    here false c v r = refl

    step : (e : Event) (P : List Event) → last_put (e ∷ P) t x ≡ cond (is_of t e) (option_or (put_in x e) (last_put P t x)) (last_put P t x)
    step (Put u y v) P = here (eqb u.0 t) (same_cell y x) v (last_put P t x)
    step (Began u s k i) P = same_both (eqb u.0 t) (last_put P t x)
    step (Got u y w v) P = same_both (eqb u.0 t) (last_put P t x)
    step (Ready u) P = same_both (eqb u.0 t) (last_put P t x)
    step (Done u) P = same_both (eqb u.0 t) (last_put P t x)
    step (Gone u c) P = same_both (eqb u.0 t) (last_put P t x)
    step (Told u) P = same_both (eqb u.0 t) (last_put P t x)

pub last_got_own : (H : List Event) (t : ℕ) (x : Cell) → newest_in (got_in x) (own_events H t) ≡ last_got H t x
unfolding last_got
last_got_own H t x = newest_own_in t (got_in x) (λ P. last_got P t x) refl step H
  where
    here : (b c : Bool) (v : Option ℤ) (r : Option (Option ℤ)) → cond (b && c) (Some v) r ≡ cond b (option_or (cond c (Some v) None) r) r
    here true true v r = refl
    here true false v r = refl
    here false c v r = refl

    step : (e : Event) (P : List Event) → last_got (e ∷ P) t x ≡ cond (is_of t e) (option_or (got_in x e) (last_got P t x)) (last_got P t x)
    step (Got u y w v) P = here (eqb u.0 t) (same_cell y x) v (last_got P t x)
    step (Began u s k i) P = same_both (eqb u.0 t) (last_got P t x)
    step (Put u y v) P = same_both (eqb u.0 t) (last_got P t x)
    step (Ready u) P = same_both (eqb u.0 t) (last_got P t x)
    step (Done u) P = same_both (eqb u.0 t) (last_got P t x)
    step (Gone u c) P = same_both (eqb u.0 t) (last_got P t x)
    step (Told u) P = same_both (eqb u.0 t) (last_got P t x)
