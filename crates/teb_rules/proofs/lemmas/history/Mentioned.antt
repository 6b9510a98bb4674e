-- The lists of transactions that are kept, after one more event.
use Rattle.std.proofs.Common.{◌≡◌, ◌≢◌, ℕ, suc, ◌<◌, ◌≤◌, Bool, true, false, cond, not, ◌||◌, ltb, eqb, List, [], ◌∷◌}
use Rattle.std.proofs.Common.{map, filter, get_or, Result, Ok, Err, ◌⊎◌, inl, inr, refl, sym, ◌∙◌, ap, subst, arith}
use Rattle.std.specs.List.{list_any}
use Rattle.std.proofs.lemmas.Bool.{eqb-true, ne_eqb}
use Rattle.std.proofs.lemmas.Bool.Decides.{eqb_tells}
use Rattle.teb_rules.specs.declared.names.Txn.{Txn}
use Rattle.teb_rules.specs.declared.history.Event.{Event}
use Rattle.teb_rules.specs.declared.history.standing.Standing.{Standing}
use Rattle.teb_rules.specs.history.Ascending.{AllAbove, IsAscendingBy, next_place, place_of, put_by}
use Rattle.teb_rules.specs.history.OwnEvents.{event_txn}
use Rattle.teb_rules.specs.history.Live.{number_of, mentioned, is_live, live_txns}
use Rattle.teb_rules.specs.history.Standings.{standing_number, standing_of, blank, standings, standing_at, standing_in, stands_live}
use Rattle.teb_rules.proofs.lemmas.history.Comparisons.{ltb_tells}
use Rattle.teb_rules.proofs.lemmas.history.AscendingLists.{ascending-put, ascending-filter, filter-put_in, filter-put_away}
use Rattle.teb_rules.proofs.lemmas.history.Standings.{standing_of-other, standing_of-nothing, live_standing}

-- transactions with equal numbers are equal
one_of : (t u : Txn) → number_of t ≡ number_of u → t ≡ u
one_of t u e = ap (λ (n : ℕ). record { 0 = n }) e

pub mentioned-ascending : (H : List Event) → IsAscendingBy number_of (mentioned H)
unfolding mentioned
mentioned-ascending [] = tt
mentioned-ascending (e ∷ P) = ascending-put number_of (event_txn e) (mentioned P) (mentioned-ascending P)

pub live-ascending : (H : List Event) → IsAscendingBy number_of (live_txns H)
live-ascending H = ascending-filter number_of (λ t. is_live H t.0) (mentioned H) (mentioned-ascending H)

module _ (H : List Event) where
  above-map : (n : ℕ) (ts : List Txn) → AllAbove number_of n ts → AllAbove standing_number n (map (λ t. standing_of H t.0) ts)
  above-map n [] h = tt
  above-map n (t ∷ ts) h = (h.0, above-map n ts h.1)

  ascending-map : (ts : List Txn) → IsAscendingBy number_of ts → IsAscendingBy standing_number (map (λ t. standing_of H t.0) ts)
  ascending-map [] h = tt
  ascending-map (t ∷ ts) h = (above-map t.0 ts h.0, ascending-map ts h.1)

  pub standings-ascending : IsAscendingBy standing_number (standings H)
  standings-ascending = ascending-map (mentioned H) (mentioned-ascending H)

  -- the standing at the place of t
  at_place : (ts : List Txn) (t i : ℕ) (d : Standing) → place_of standing_number (map (λ u. standing_of H u.0) ts) t ≡ Ok i → get_or (map (λ u. standing_of H u.0) ts) i d ≡ standing_of H t
  at_place [] t i d h = absurd (cc)
  at_place (u ∷ us) t i d h = go (ltb u.0 t) (eqb u.0 t) refl (place_of standing_number (map (λ u. standing_of H u.0) us) t) (λ j e. at_place us t j d e) h
    where
      go : (b c : Bool) → eqb u.0 t ≡ c → (r : Result ℕ ℕ) → ((j : ℕ) → r ≡ Ok j → get_or (map (λ u. standing_of H u.0) us) j d ≡ standing_of H t)
          → cond b (next_place r) (cond c (Ok 0) (Err 0)) ≡ Ok i
          → get_or (standing_of H u.0 ∷ map (λ u. standing_of H u.0) us) i d ≡ standing_of H t
      go true c q (Ok j) ih h = let e : suc j ≡ i = cc in subst (λ (k : ℕ). get_or (standing_of H u.0 ∷ map (λ u. standing_of H u.0) us) k d ≡ standing_of H t) e (ih j refl)
      go true c q (Err j) ih h = absurd (cc)
      go false true q r ih h = let e : 0 ≡ i = cc in subst (λ (k : ℕ). get_or (standing_of H u.0 ∷ map (λ u. standing_of H u.0) us) k d ≡ standing_of H t) e (ap (standing_of H) (eqb-true _ _ q))
      go false false q r ih h = absurd (cc)

  pub standing-found : (t i : ℕ) (d : Standing) → place_of standing_number (standings H) t ≡ Ok i → get_or (standings H) i d ≡ standing_of H t
  standing-found t i d h = at_place (mentioned H) t i d h

-- t is among the transactions
unfoldable pub has : ℕ → List Txn → Bool
has t ts = list_any (λ u. eqb u.0 t) ts

has-put : (t : ℕ) (u : Txn) (ts : List Txn) → has t (put_by number_of u ts) ≡ false → (eqb u.0 t ≡ false) × (has t ts ≡ false)
unfolding has
has-put t u [] h = (first_false (eqb u.0 t) false h, refl)
  where
    first_false : (a b : Bool) → (a || b) ≡ false → a ≡ false
    first_false true b h = h
    first_false false b h = refl
has-put t u (x ∷ xs) h = go (ltb x.0 u.0) (eqb x.0 u.0) refl h (has-put t u xs)
  where
    either : (a b : Bool) → (a || b) ≡ false → (a ≡ false) × (b ≡ false)
    either true b h = absurd (cc)
    either false b h = (refl, h)

    go : (b c : Bool) → eqb x.0 u.0 ≡ c → has t (cond b (x ∷ put_by number_of u xs) (u ∷ cond c xs (x ∷ xs))) ≡ false
        → (has t (put_by number_of u xs) ≡ false → (eqb u.0 t ≡ false) × (has t xs ≡ false))
        → (eqb u.0 t ≡ false) × (has t (x ∷ xs) ≡ false)
    go true c q h ih = let two = either _ _ h in let rest = ih two.1 in (rest.0, ap (λ b. b || has t xs) two.0 ∙ rest.1)
    go false true q h ih = let two = either _ _ h in (two.0, ap (λ (n : ℕ). eqb n t || has t xs) (eqb-true _ _ q) ∙ ap (λ b. b || has t xs) two.0 ∙ two.1)
    go false false q h ih = either _ _ h

-- a transaction that is not mentioned has no event
pub unmentioned : (H : List Event) (t : Txn) → has t.0 (mentioned H) ≡ false → standing_of H t.0 ≡ blank t
unfolding mentioned
unmentioned [] t h = standing_of-nothing t
unmentioned (e ∷ P) t h = let two = has-put t.0 (event_txn e) (mentioned P) h in standing_of-other e P t.0 two.0 ∙ unmentioned P t two.1

-- a list whose numbers are all above n has no transaction numbered n or less
above-has : (n t : ℕ) (ts : List Txn) → t ≤ n → AllAbove number_of n ts → has t ts ≡ false
unfolding has
above-has n t [] l h = refl
above-has n t (u ∷ us) l h = rw (ne_eqb u.0 t (λ e. omega (arith, h.0))) (above-has n t us l h.1)

one_place : (i j : ℕ) (r : Result ℕ ℕ) → r ≡ Ok j → r ≡ Err i → ⊥
one_place i j r p q = cc

no_place : (H : List Event) (t : ℕ) (ts : List Txn) → IsAscendingBy number_of ts → (i : ℕ) → place_of standing_number (map (λ u. standing_of H u.0) ts) t ≡ Err i → has t ts ≡ false
unfolding has
no_place H t [] a i h = refl
no_place H t (u ∷ us) a i h = go (ltb_tells u.0 t) (eqb_tells u.0 t) (place_of standing_number (map (λ u. standing_of H u.0) us) t) refl (no_place H t us a.1)
  where
    go : ((ltb u.0 t ≡ true) × (u.0 < t)) ⊎ ((ltb u.0 t ≡ false) × (t ≤ u.0)) → ((eqb u.0 t ≡ true) × (u.0 ≡ t)) ⊎ ((eqb u.0 t ≡ false) × (u.0 ≢ t)) → (r : Result ℕ ℕ)
        → place_of standing_number (map (λ u. standing_of H u.0) us) t ≡ r
        → ((j : ℕ) → place_of standing_number (map (λ u. standing_of H u.0) us) t ≡ Err j → has t us ≡ false) → has t (u ∷ us) ≡ false
    go (inl l) e (Err j) p ih = ap (λ b. b || has t us) (ne_eqb u.0 t (λ q. omega (arith, l.1))) ∙ ih j p
    go (inl l) e (Ok j) p ih = absurd (one_place i (suc j) (place_of standing_number (map (λ u. standing_of H u.0) (u ∷ us)) t) (λ k. cond (l.0 k) (next_place (p k)) (cond (eqb u.0 t) (Ok 0) (Err 0)))
        h)
    go (inr l) (inl e) r p ih = absurd
        (one_place i 0 (place_of standing_number (map (λ u. standing_of H u.0) (u ∷ us)) t)
        (λ k. cond (l.0 k) (next_place (place_of standing_number (map (λ u. standing_of H u.0) us) t)) (cond (e.0 k) (Ok 0) (Err 0))) h)
    go (inr l) (inr e) r p ih = ap (λ b. b || has t us) e.0 ∙ above-has u.0 t us l.1 a.0

pub standing-absent : (H : List Event) (t : Txn) (i : ℕ) → place_of standing_number (standings H) t.0 ≡ Err i → blank t ≡ standing_of H t.0
standing-absent H t i h = sym (unmentioned H t (no_place H t.0 (mentioned H) (mentioned-ascending H) i h))

-- the standing of t, looked up in the list of standings
pub standing_in-of : (H : List Event) (t : Txn) → standing_in (standings H) t ≡ standing_of H t.0
standing_in-of H t = go (place_of standing_number (standings H) t.0) refl
  where
    go : (r : Result ℕ ℕ) → place_of standing_number (standings H) t.0 ≡ r → standing_at (standings H) t r ≡ standing_of H t.0
    go (Ok i) q = standing-found H t.0 i (blank t) q
    go (Err i) q = standing-absent H t i q

-- the standings after one more event
module _ (e : Event) (P : List Event) where
  same_stand : (u : Txn) → number_of u ≢ (event_txn e).0 → standing_of (e ∷ P) u.0 ≡ standing_of P u.0
  same_stand u h = standing_of-other e P u.0 (ne_eqb (event_txn e).0 u.0 (λ q. h (sym q)))

  same_live : (u : Txn) → number_of u ≢ (event_txn e).0 → is_live (e ∷ P) u.0 ≡ is_live P u.0
  same_live u h = sym (live_standing (e ∷ P) u.0) ∙ ap stands_live (same_stand u h) ∙ live_standing P u.0

  map-above : (n : ℕ) (ts : List Txn) → (event_txn e).0 ≤ n → AllAbove number_of n ts → map (λ u. standing_of (e ∷ P) u.0) ts ≡ map (λ u. standing_of P u.0) ts
  map-above n [] l h = refl
  map-above n (u ∷ us) l h = λ j. same_stand u (λ q. omega (arith, h.0)) j ∷ map-above n us l h.1 j

  map-put : (ts : List Txn) → IsAscendingBy number_of ts → map (λ u. standing_of (e ∷ P) u.0) (put_by number_of (event_txn e) ts) ≡ put_by standing_number (standing_of (e ∷ P) (event_txn e).0)
      (map (λ u. standing_of P u.0) ts)
  map-put [] h = refl
  map-put (u ∷ us) h = go (ltb_tells u.0 (event_txn e).0) (eqb_tells u.0 (event_txn e).0) (map-put us h.1)
    where
      go : ((ltb u.0 (event_txn e).0 ≡ true) × (u.0 < (event_txn e).0)) ⊎ ((ltb u.0 (event_txn e).0 ≡ false) × ((event_txn e).0 ≤ u.0)) → ((eqb u.0 (event_txn e).0 ≡ true) × (u.0 ≡ (event_txn e).0))
          ⊎ ((eqb u.0 (event_txn e).0 ≡ false) × (u.0 ≢ (event_txn e).0))
          → map (λ u. standing_of (e ∷ P) u.0) (put_by number_of (event_txn e) us) ≡ put_by standing_number (standing_of (e ∷ P) (event_txn e).0) (map (λ u. standing_of P u.0) us)
          → map (λ u. standing_of (e ∷ P) u.0) (put_by number_of (event_txn e) (u ∷ us)) ≡ put_by standing_number (standing_of (e ∷ P) (event_txn e).0) (map (λ u. standing_of P u.0) (u ∷ us))
      go (inl l) q ih = rw l.0 (λ j. same_stand u (λ x. omega (arith, l.1)) j ∷ ih j)
      go (inr l) (inl q) ih = rw (l.0, q.0) (ap (λ (rs : List Standing). standing_of (e ∷ P) (event_txn e).0 ∷ rs) (map-above u.0 us l.1 h.0))
      go (inr l) (inr q) ih = rw (l.0, q.0) (λ j. standing_of (e ∷ P) (event_txn e).0 ∷ same_stand u q.1 j ∷ map-above u.0 us l.1 h.0 j)

  pub standings-cons : standings (e ∷ P) ≡ put_by standing_number (standing_of (e ∷ P) (event_txn e).0) (standings P)
  unfolding mentioned
  standings-cons = map-put (mentioned P) (mentioned-ascending P)

  -- the live transactions after one more event
  pub live-cons : live_txns (e ∷ P) ≡ cond (is_live (e ∷ P) (event_txn e).0) (put_by number_of (event_txn e) (live_txns P)) (filter (λ u. not (eqb u.0 (event_txn e).0)) (live_txns P))
  unfolding mentioned
  live-cons = go (is_live (e ∷ P) (event_txn e).0) refl
    where
      go : (b : Bool) → is_live (e ∷ P) (event_txn e).0 ≡ b → filter (λ u. is_live (e ∷ P) u.0) (put_by number_of (event_txn e) (mentioned P)) ≡ cond b (put_by number_of (event_txn e) (live_txns P))
          (filter (λ u. not (eqb u.0 (event_txn e).0)) (live_txns P))
      go true q = filter-put_in number_of (event_txn e) (λ u. is_live P u.0) (λ u. is_live (e ∷ P) u.0) q same_live (λ u x. one_of u (event_txn e) x) (mentioned P) (mentioned-ascending P)
      go false q = filter-put_away number_of (event_txn e) (λ u. is_live P u.0) (λ u. is_live (e ∷ P) u.0) q same_live (λ u x. one_of u (event_txn e) x) (mentioned P)
