-- If a transaction's liveness does not change, the list of live transactions stays the same.
use Rattle.std.proofs.Common.{◌≡◌, ℕ, ◌<◌, ◌≤◌, Bool, true, false, cond, not, ◌||◌, ltb, eqb, Some, List, [], ◌∷◌, filter, ◌⊎◌, inl, inr, ◌≢◌, refl, sym, ◌∙◌, ap, arith}
use Rattle.std.proofs.lemmas.Bool.Decides.{eqb_tells}
use Rattle.teb_rules.specs.declared.names.Txn.{Txn}
use Rattle.teb_rules.specs.declared.history.Event.{Event}
use Rattle.teb_rules.specs.declared.history.Event.TheVariants.{Began, Got, Put, Ready, Done, Gone, Told}
use Rattle.teb_rules.specs.declared.history.standing.Standing.{Standing}
use Rattle.teb_rules.specs.history.Ascending.{IsAscendingBy, put_by}
use Rattle.teb_rules.specs.history.Live.{number_of, is_live, live_txns, kept_by}
use Rattle.teb_rules.specs.history.Standings.{standing_after, turned, stands_live}
use Rattle.teb_rules.proofs.lemmas.history.Comparisons.{ltb_tells}
use Rattle.teb_rules.proofs.lemmas.history.Mentioned.{has, live-ascending}
use Rattle.teb_rules.proofs.lemmas.history.FirstLive.{same_txn, has-above, live_listed, listed_live}

-- putting a transaction that is in the list changes nothing
put-there : (t : Txn) (ts : List Txn) → IsAscendingBy number_of ts → has t.0 ts ≡ true → ts ≡ put_by number_of t ts
unfolding has
put-there t [] a h = absurd (cc)
put-there t (x ∷ xs) a h = go (ltb_tells x.0 t.0) (eqb_tells x.0 t.0) (put-there t xs a.1)
  where
    among : eqb x.0 t.0 ≡ false → has t.0 xs ≡ true
    among e = ap (λ (b : Bool). b || has t.0 xs) (sym e) ∙ h

    go : ((ltb x.0 t.0 ≡ true) × (x.0 < t.0)) ⊎ ((ltb x.0 t.0 ≡ false) × (t.0 ≤ x.0)) → ((eqb x.0 t.0 ≡ true) × (x.0 ≡ t.0)) ⊎ ((eqb x.0 t.0 ≡ false) × (x.0 ≢ t.0))
        → (has t.0 xs ≡ true → xs ≡ put_by number_of t xs)
        → x ∷ xs ≡ put_by number_of t (x ∷ xs)
    go (inl l) (inl e) ih = absurd (omega (arith, l.1, e.1))
    go (inl l) (inr e) ih = rw l.0 (ap (λ (ys : List Txn). x ∷ ys) (ih (among e.0)))
    go (inr l) (inl e) ih = rw (l.0, e.0) (ap (λ (y : Txn). y ∷ xs) (same_txn x t e.1))
    go (inr l) (inr e) ih = absurd (let above = has-above x.0 xs a.0 t.0 (among e.0) in omega (arith, l.1))

-- removing a transaction that is not in the list changes nothing
filter-absent : (t : ℕ) (ts : List Txn) → has t ts ≡ false → ts ≡ filter (λ u. not (eqb u.0 t)) ts
unfolding has
filter-absent t [] h = refl
filter-absent t (x ∷ xs) h = go (eqb x.0 t) h (filter-absent t xs)
  where
    go : (b : Bool) → (b || has t xs) ≡ false → (has t xs ≡ false → xs ≡ filter (λ u. not (eqb u.0 t)) xs) → x ∷ xs ≡ cond (not b) (x ∷ filter (λ u. not (eqb u.0 t)) xs)
        (filter (λ u. not (eqb u.0 t)) xs)
    go true h ih = absurd (cc)
    go false h ih = ap (λ (ys : List Txn). x ∷ ys) (ih h)

pub live-kept : (H : List Event) (t : Txn) → live_txns H ≡ cond (is_live H t.0) (put_by number_of t (live_txns H)) (filter (λ u. not (eqb u.0 t.0)) (live_txns H))
live-kept H t = go (is_live H t.0) refl
  where
    absent : (b : Bool) → has t.0 (live_txns H) ≡ b → is_live H t.0 ≡ false → has t.0 (live_txns H) ≡ false
    absent true h q = absurd (let l = listed_live H t h in cc)
    absent false h q = h

    go : (b : Bool) → is_live H t.0 ≡ b → live_txns H ≡ cond b (put_by number_of t (live_txns H)) (filter (λ u. not (eqb u.0 t.0)) (live_txns H))
    go true q = put-there t (live_txns H) (live-ascending H) (live_listed H t q)
    go false q = filter-absent t.0 (live_txns H) (absent (has t.0 (live_txns H)) refl q)

-- an event that cannot change the transaction's liveness leaves the list as it was
pub turned-kept : (e : Event) (n : ℕ) (r : Standing) (t : Txn) (ts : List Txn) → ts ≡ kept_by (Some (stands_live r)) t ts
    → kept_by (turned e n r) t ts ≡ kept_by (Some (stands_live (standing_after e n r))) t ts
turned-kept (Began u s k i) n r t ts h = refl
turned-kept (Got u x w v) n r t ts h = h
turned-kept (Put u x v) n r t ts h = h
turned-kept (Ready u) n r t ts h = h
turned-kept (Done u) n r t ts h = refl
turned-kept (Gone u c) n r t ts h = refl
turned-kept (Told u) n r t ts h = refl
