-- Whether a batch closed before another started is known from where it closed.
use Rattle.std.proofs.Common.{◌≡◌, ℕ, ◌≤◌, Bool, true, false, cond, ltb, List, [], ◌∷◌, length, Option, Some, None, refl, sym, ◌∙◌, ap, arith, le-ltb, inl, inr}
use Rattle.std.proofs.lemmas.Bool.{ltb-false, both_ways, cases_Bool}
use Rattle.teb_rules.specs.declared.history.Event.{Event}
use Rattle.teb_rules.specs.history.Positions.{came}
use Rattle.teb_rules.specs.history.Phases.{begun, unfinished}
use Rattle.teb_rules.specs.Setup.{Setup}
use Rattle.teb_rules.specs.Tree.{on, side}
use Rattle.teb_rules.specs.Batches.{start, close}
use Rattle.batch_book.specs.Book.{closes_before, closed_at}
use Rattle.batch_book.specs.Histories.{IsNumbered, closing}
use Rattle.batch_book.proofs.Numbered.{begun_none, begins_once, unfinished_parts, unfinished_before, on_kept, side_kept}
use Rattle.batch_book.proofs.Intervals.{start-lt, busy_idle, closing_step, closing_here}

closed : (b : Bool) (c s k : ℕ) → cond b (Some c) None ≡ Some k → ltb k s ≡ ltb c s
closed true c s k h = let e : c ≡ k = cc in ap (λ (m : ℕ). ltb m s) (sym e)
closed false c s k h = absurd (cc)

not_closed : (b : Bool) (c : ℕ) → cond b (Some c) None ≡ None → b ≡ false
not_closed true c h = absurd (cc)
not_closed false c h = refl

pub closed_before : (S : Setup) (H : List Event) (n u t k s : ℕ) → Some k ≡ closing S H n u → s ≡ start S H n t → ltb k s ≡ ltb (close S H n u) (start S H n t)
unfolding closing
closed_before S H n u t k s h e = closed (came H (close S H n u)) (close S H n u) s k (sym h) ∙ ap (ltb (close S H n u)) e

-- the close of a batch that has not closed is later than every event of the history
pub open_late : (S : Setup) (H : List Event) (n u : ℕ) → closing S H n u ≡ None → length H ≤ close S H n u
unfolding closing
open_late S H n u h = ltb-false _ _ (not_closed (came H (close S H n u)) (close S H n u) h)

pub still_open : (S : Setup) (H : List Event) (n u t : ℕ) → None ≡ closing S H n u → begun H t ≡ true → false ≡ ltb (close S H n u) (start S H n t)
still_open S H n u t h b = let late = open_late S H n u (sym h) in let early = start-lt S H n t b in sym (le-ltb _ _ (omega arith))

pub closes_as : (S : Setup) (H : List Event) (n u t : ℕ) → begun H t ≡ true → closes_before (closing S H n u) (start S H n t) ≡ ltb (close S H n u) (start S H n t)
closes_as S H n u t b = go (closing S H n u) refl
  where
    go : (c : Option ℕ) → closing S H n u ≡ c → closes_before c (start S H n t) ≡ ltb (close S H n u) (start S H n t)
    go (Some k) e = closed_before S H n u t k (start S H n t) (sym e) refl
    go None e = still_open S H n u t (sym e) b

-- the batch of an unfinished transaction has not closed
pub unfinished_open : (S : Setup) (H : List Event) (n u : ℕ) → IsNumbered H → unfinished H u ≡ true → on S H n u ≡ true → closing S H n u ≡ None
unfolding IsNumbered
unfinished_open S [] n u k h o = absurd (both_ways _ (begun_none u) (unfinished_parts [] u h).0)
unfinished_open S (e ∷ P) n u k h o = elim (cases_Bool (begun P u)) [
  | inl b ↦ (let other = begins_once e P u k.1 k.0 b in
      let busy = busy_idle S (e ∷ P) n (side S P n u) u k h o (side_kept S e P n u other) in
      let before = unfinished_open S P n u k.1 (unfinished_before e P u other h) (sym (on_kept S e P n u other) ∙ o) in
      closing_step S e P n u b other ∙ (λ j. closed_at (busy j) (length P) (before j)))
  | inr f ↦ closing_here S e P n u f (busy_idle S (e ∷ P) n (side S (e ∷ P) n u) u k h o refl)
]
