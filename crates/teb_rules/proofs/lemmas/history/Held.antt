-- The transaction that a session holds is the first live one that it began.
use Rattle.std.proofs.Common.{◌≡◌, ℕ, Bool, true, false, cond, ◌&&◌, ◌||◌, eqb, List, [], ◌∷◌, Some, find, refl, sym, ◌∙◌, ap}
use Rattle.std.proofs.lemmas.Bool.{eq-eqb}
use Rattle.teb_rules.specs.declared.names.Txn.{Txn}
use Rattle.teb_rules.specs.declared.names.Session.{Session}
use Rattle.teb_rules.proofs.lemmas.names.Bools.{and_true}
use Rattle.teb_rules.specs.declared.history.Event.{Event}
use Rattle.teb_rules.specs.history.Phases.{session_of, held}
use Rattle.teb_rules.specs.history.Written.{is_held, held_txn}
use Rattle.teb_rules.specs.history.Live.{is_live, live_txns, is_numbered, is_begun_by}
use Rattle.teb_rules.proofs.lemmas.history.Mentioned.{has}
use Rattle.teb_rules.proofs.lemmas.history.FirstLive.{first_live, listed_live}

-- tests that agree on a list find the same element
find_same : (p q : Txn → Bool) (ts : List Txn) → ((t : Txn) → has t.0 ts ≡ true → p t ≡ q t) → find p ts ≡ find q ts
unfolding has
find_same p q [] same = refl
find_same p q (x ∷ xs) same = λ j. cond (same x (ap (λ b. b || has x.0 xs) (eq-eqb x.0 x.0 refl)) j) (Some x) (find_same p q xs (λ t h. same t (later (eqb x.0 t.0) (has t.0 xs) h)) j)
  where
    later : (a b : Bool) → b ≡ true → (a || b) ≡ true
    later true b h = refl
    later false b h = h

module _ (H : List Event) (s : Session) where
  held_live : (t : ℕ) → is_held H s.0 t ≡ true → is_live H t ≡ true
  held_live t h = second (eqb (session_of H t) s.0) (is_live H t) h
    where
      second : (a b : Bool) → (a && b) ≡ true → b ≡ true
      second true b h = h
      second false b h = absurd (cc)

  begun_held : (t : Txn) → has t.0 (live_txns H) ≡ true → is_begun_by H s.0 t ≡ (is_numbered H t && is_held H s.0 t.0)
  begun_held t h = ap (λ b. is_numbered H t && b) (sym (ap (λ b. eqb (session_of H t.0) s.0 && b) (listed_live H t h) ∙ and_true (eqb (session_of H t.0) s.0)))

  pub held-live : find (is_begun_by H s.0) (live_txns H) ≡ held_txn H s
  unfolding held
  held-live = find_same (is_begun_by H s.0) (λ t. is_numbered H t && is_held H s.0 t.0) (live_txns H) begun_held ∙ first_live H (is_held H s.0) held_live
