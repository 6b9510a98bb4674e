-- What a transaction's own events read and put, compared with the readers and the writers of each cell.
use Rattle.std.proofs.Common.{◌≡◌, ◌≤◌, ℕ, ℤ, ◌+◌, Bool, true, false, cond, not, ◌&&◌, ◌||◌, eqb, is_some, List, [], ◌∷◌, ◌++◌, Option, Some, None, refl, sym, ◌∙◌, ap, arith}
use Rattle.std.specs.List.{list_any, count_by}
use Rattle.teb_rules.specs.declared.names.Txn.{Txn}
use Rattle.teb_rules.specs.declared.names.Cell.{Cell}
use Rattle.teb_rules.specs.names.Cells.{same_cell}
use Rattle.teb_rules.proofs.lemmas.names.Bools.{or_false}
use Rattle.teb_rules.specs.declared.history.Event.{Event}
use Rattle.teb_rules.specs.declared.history.Event.TheVariants.{Began, Got, Put, Ready, Done, Gone, Told}
use Rattle.teb_rules.specs.history.Accesses.{is_put, put_at, wrote}
use Rattle.teb_rules.specs.history.OwnEvents.{is_of, own_events}
use Rattle.teb_rules.proofs.lemmas.history.Any.{came_any}
use Rattle.teb_rules.proofs.lemmas.history.Newest.{wrote-cons}
use Rattle.dependency_book.specs.Dependencies.{has, reads, puts, all_readers, all_writers}
use Rattle.sorted_multimap.proofs.TakenMatches.{count_push, count_cons}
use Rattle.dependency_book.proofs.MultimapEdits.{one_txn}

-- an event that accesses y accesses x if and only if they are the same cell
accessed_if : (b : Bool) (v : Option ℤ) → is_some (cond b (Some v) None) ≡ b
accessed_if true v = refl
accessed_if false v = refl

pub reads_if : (t : Txn) (y : Cell) (w : Txn) (v : Option ℤ) (x : Cell) → reads x (Got t y w v) ≡ same_cell y x
reads_if t y w v x = accessed_if (same_cell y x) v

pub puts_if : (t : Txn) (y : Cell) (v : Option ℤ) (x : Cell) → puts x (Put t y v) ≡ same_cell y x
puts_if t y v x = accessed_if (same_cell y x) v

-- an event that is not a Got reads nothing, and one that is not a Put puts nothing
pub no_read : (e : Event) → ((t : Txn) (y : Cell) (w : Txn) (v : Option ℤ) → e ≡ Got t y w v → ⊥) → (x : Cell) → reads x e ≡ false
no_read (Began t s k i) f x = refl
no_read (Got t y w v) f x = absurd (f t y w v refl)
no_read (Put t y v) f x = refl
no_read (Ready t) f x = refl
no_read (Done t) f x = refl
no_read (Gone t c) f x = refl
no_read (Told t) f x = refl

pub no_put : (e : Event) → ((t : Txn) (y : Cell) (v : Option ℤ) → e ≡ Put t y v → ⊥) → (x : Cell) → puts x e ≡ false
no_put (Began t s k i) f x = refl
no_put (Got t y w v) f x = refl
no_put (Put t y v) f x = absurd (f t y v refl)
no_put (Ready t) f x = refl
no_put (Done t) f x = refl
no_put (Gone t c) f x = refl
no_put (Told t) f x = refl

any_push : {A : Type 0} (q : A → Bool) (c : Bool) (xs : List A) (a : A) → list_any q (cond c (xs ++ a ∷ []) xs) ≡ (list_any q xs || (c && q a))
any_push q true [] a = or_false (q a)
any_push q true (x ∷ xs) a = ap (λ (b : Bool). q x || b) (any_push q true xs a) ∙ or_assoc (q x) (list_any q xs) (q a)
  where
    or_assoc : (a b c : Bool) → (a || (b || c)) ≡ ((a || b) || c)
    or_assoc true b c = refl
    or_assoc false b c = refl
any_push q false xs a = sym (or_false (list_any q xs))

-- a first Put: m says whether it is of the cell, e whether by t, h whether its transaction has put the cell before, and k whether t has
first_put : (m e h k : Bool) → (e ≡ true → h ≡ k) → (k || ((m && not h) && e)) ≡ ((e && m) || k)
first_put m true h k f = ap (λ (b : Bool). k || ((m && not b) && true)) (f refl) ∙ go m k
  where
    go : (m k : Bool) → (k || ((m && not k) && true)) ≡ (m || k)
    go true true = refl
    go true false = refl
    go false true = refl
    go false false = refl
first_put m false h true f = refl
first_put true false true false f = refl
first_put true false false false f = refl
first_put false false h false f = refl

nothing_put : (t : ℕ) (x : Cell) → wrote [] t x ≡ false
unfolding wrote put_at
nothing_put t x = came_any (is_put t x) []

-- t is among the writers of x if and only if it put x
pub put_by_it : (P : List Event) (t : Txn) (x : Cell) → has t (all_writers P x) ≡ wrote P t.0 x
unfolding all_writers
put_by_it [] t x = sym (nothing_put t.0 x)
put_by_it (Put s y v ∷ P) t x =
    let ts = all_writers P x in
    any_push (λ u. eqb u.0 t.0) (same_cell y x && not (has s ts)) ts s
    ∙ first_put (same_cell y x) (eqb s.0 t.0) (has s ts) (has t ts) (λ e. ap (λ (z : Txn). has z ts) (one_txn s t e))
    ∙ ap (λ (b : Bool). (eqb s.0 t.0 && same_cell y x) || b) (put_by_it P t x) ∙ sym (wrote-cons (Put s y v) P t.0 x)
put_by_it (Got s y w v ∷ P) t x = put_by_it P t x ∙ sym (wrote-cons (Got s y w v) P t.0 x)
put_by_it (Began s k i j ∷ P) t x = put_by_it P t x ∙ sym (wrote-cons (Began s k i j) P t.0 x)
put_by_it (Ready s ∷ P) t x = put_by_it P t x ∙ sym (wrote-cons (Ready s) P t.0 x)
put_by_it (Done s ∷ P) t x = put_by_it P t x ∙ sym (wrote-cons (Done s) P t.0 x)
put_by_it (Gone s c ∷ P) t x = put_by_it P t x ∙ sym (wrote-cons (Gone s c) P t.0 x)
put_by_it (Told s ∷ P) t x = put_by_it P t x ∙ sym (wrote-cons (Told s) P t.0 x)

-- an event that does not pass is not counted among t's own
uncounted : (q : Event → Bool) (e : Event) (P : List Event) (t : ℕ) → q e ≡ false → count_by q (own_events (e ∷ P) t) ≡ count_by q (own_events P t)
unfolding own_events
uncounted q e P t h = count_cons q (is_of t e) e (own_events P t) ∙ ap (λ (b : Bool). count_by q (own_events P t) + cond (is_of t e && b) 1 0) h ∙ none (count_by q (own_events P t)) (is_of t e)
  where
    none : (n : ℕ) (b : Bool) → n + cond (b && false) 1 0 ≡ n
    none n true = omega arith
    none n false = omega arith

-- t is among the readers of x as many times as it read x
pub reads_counted : (P : List Event) (t : Txn) (x : Cell) → count_by (λ r. eqb r.0.0 t.0) (all_readers P x) ≡ count_by (reads x) (own_events P t.0)
unfolding all_readers own_events
reads_counted [] t x = refl
reads_counted (Got s y w v ∷ P) t x =
    count_push (λ r. eqb r.0.0 t.0) (same_cell y x) (all_readers P x) (s, w)
    ∙ (λ j. reads_counted P t x j + cond (both (same_cell y x) (eqb s.0 t.0) j) 1 0)
    ∙ sym (count_cons (reads x) (eqb s.0 t.0) (Got s y w v) (own_events P t.0))
  where
    both : (m e : Bool) → (m && e) ≡ (e && is_some (cond m (Some v) None))
    both true true = refl
    both true false = refl
    both false true = refl
    both false false = refl
reads_counted (Put s y v ∷ P) t x = reads_counted P t x ∙ sym (uncounted (reads x) (Put s y v) P t.0 refl)
reads_counted (Began s k i j ∷ P) t x = reads_counted P t x ∙ sym (uncounted (reads x) (Began s k i j) P t.0 refl)
reads_counted (Ready s ∷ P) t x = reads_counted P t x ∙ sym (uncounted (reads x) (Ready s) P t.0 refl)
reads_counted (Done s ∷ P) t x = reads_counted P t x ∙ sym (uncounted (reads x) (Done s) P t.0 refl)
reads_counted (Gone s c ∷ P) t x = reads_counted P t x ∙ sym (uncounted (reads x) (Gone s c) P t.0 refl)
reads_counted (Told s ∷ P) t x = reads_counted P t x ∙ sym (uncounted (reads x) (Told s) P t.0 refl)

-- and among its writers at most as many times as it put x
pub puts_counted : (P : List Event) (t : Txn) (x : Cell) → count_by (λ u. eqb u.0 t.0) (all_writers P x) ≤ count_by (puts x) (own_events P t.0)
unfolding all_writers own_events
puts_counted [] t x = omega arith
puts_counted (Put s y v ∷ P) t x =
    let ts = all_writers P x in
    omega (
      arith,
      puts_counted P t x,
      less (same_cell y x) (has s ts) (eqb s.0 t.0),
      count_push (λ u. eqb u.0 t.0) (same_cell y x && not (has s ts)) ts s,
      count_cons (puts x) (eqb s.0 t.0) (Put s y v) (own_events P t.0),
    )
  where
    less : (m h e : Bool) → cond ((m && not h) && e) 1 0 ≤ cond (e && is_some (cond m (Some v) None)) 1 0
    less true true e = omega arith
    less true false true = omega arith
    less true false false = omega arith
    less false h e = omega arith
puts_counted (Got s y w v ∷ P) t x = omega (arith, puts_counted P t x, uncounted (puts x) (Got s y w v) P t.0 refl)
puts_counted (Began s k i j ∷ P) t x = omega (arith, puts_counted P t x, uncounted (puts x) (Began s k i j) P t.0 refl)
puts_counted (Ready s ∷ P) t x = omega (arith, puts_counted P t x, uncounted (puts x) (Ready s) P t.0 refl)
puts_counted (Done s ∷ P) t x = omega (arith, puts_counted P t x, uncounted (puts x) (Done s) P t.0 refl)
puts_counted (Gone s c ∷ P) t x = omega (arith, puts_counted P t x, uncounted (puts x) (Gone s c) P t.0 refl)
puts_counted (Told s ∷ P) t x = omega (arith, puts_counted P t x, uncounted (puts x) (Told s) P t.0 refl)
