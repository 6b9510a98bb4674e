-- The first transaction with a test that only live transactions pass is found among the live ones.
use Rattle.std.proofs.Common.{◌≡◌, ℕ, zero, suc, ◌<◌, ◌≤◌, Bool, true, false, cond, ltb, leb, eqb, ◌&&◌, ◌||◌, List, [], ◌∷◌}
use Rattle.std.proofs.Common.{◌++◌, filter, Option, Some, None, find, ◌⊎◌, inl, inr, refl, sym, ◌∙◌, ap, subst, arith}
use Rattle.std.proofs.lemmas.Bool.{eqb-true, eq-eqb, ltb-true, lt-ltb, leb-true, le-leb, cases_order}
use Rattle.teb_rules.specs.declared.names.Txn.{Txn}
use Rattle.teb_rules.specs.declared.history.Event.{Event}
use Rattle.teb_rules.specs.history.Phases.{numbers, txns, begun_count}
use Rattle.teb_rules.specs.history.Written.{txn_of}
use Rattle.teb_rules.specs.history.Ascending.{AllAbove, IsAscendingBy}
use Rattle.teb_rules.specs.history.Live.{number_of, mentioned, is_live, live_txns, is_numbered}
use Rattle.teb_rules.specs.history.Standings.{stands_live}
use Rattle.teb_rules.proofs.lemmas.history.Standings.{live_standing}
use Rattle.teb_rules.proofs.lemmas.history.Mentioned.{has, unmentioned, live-ascending}

both : (a b : Bool) → (a && b) ≡ true → (a ≡ true) × (b ≡ true)
both true b h = (refl, h)
both false b h = absurd (cc)

clash : (b : Bool) → b ≡ true → b ≡ false → ⊥
clash b h k = cc

-- t is the first number from 1 to n that passes
record IsFirstNumber (p : ℕ → Bool) (n t : ℕ) : Type 0 where
  passes : p t ≡ true
  above : 0 < t
  within : t ≤ n
  first : (u : ℕ) → 0 < u → u < t → p u ≡ false

Numbered : (ℕ → Bool) → ℕ → Option ℕ → Type 0
Numbered p n None = (t : ℕ) → 0 < t → t ≤ n → p t ≡ false
Numbered p n (Some t) = IsFirstNumber p n t

find_append_none : (p : ℕ → Bool) (xs ys : List ℕ) → find p xs ≡ None → find p (xs ++ ys) ≡ find p ys
find_append_none p [] ys h = refl
find_append_none p (x ∷ xs) ys h = go (p x) h (find_append_none p xs ys)
  where
    go : (b : Bool) → cond b (Some x) (find p xs) ≡ None → (find p xs ≡ None → find p (xs ++ ys) ≡ find p ys) → cond b (Some x) (find p (xs ++ ys)) ≡ find p ys
    go true h ih = absurd (cc)
    go false h ih = ih h

find_append_some : (p : ℕ → Bool) (xs ys : List ℕ) (n : ℕ) → find p xs ≡ Some n → find p (xs ++ ys) ≡ Some n
find_append_some p [] ys n h = absurd (cc)
find_append_some p (x ∷ xs) ys n h = go (p x) h (find_append_some p xs ys n)
  where
    go : (b : Bool) → cond b (Some x) (find p xs) ≡ Some n → (find p xs ≡ Some n → find p (xs ++ ys) ≡ Some n) → cond b (Some x) (find p (xs ++ ys)) ≡ Some n
    go true h ih = h
    go false h ih = ih h

numbered : (p : ℕ → Bool) (n : ℕ) → Numbered p n (find p (numbers n))
unfolding numbers Numbered
numbered p zero = λ t a b. absurd (omega arith)
numbered p (suc n) = go (find p (numbers n)) refl (numbered p n)
  where
    last : (b : Bool) → p (suc n) ≡ b → ((t : ℕ) → 0 < t → t ≤ n → p t ≡ false) → Numbered p (suc n) (cond b (Some (suc n)) None)
    last true q h = record { passes = q; above = omega arith; within = omega arith; first = λ u a l. h u a (omega arith) }
    last false q h = λ t a l. elim (cases_order t (suc n)) [ inl e ↦ subst (λ (m : ℕ). p m ≡ false) (sym e) q | inr (inl e) ↦ h t a (omega arith) | inr (inr e) ↦ absurd (omega arith) ]

    go : (o : Option ℕ) → find p (numbers n) ≡ o → Numbered p n o → Numbered p (suc n) (find p (numbers n ++ suc n ∷ []))
    go None q h = subst (λ (o : Option ℕ). Numbered p (suc n) o) (sym (find_append_none p (numbers n) (suc n ∷ []) q)) (last (p (suc n)) refl h)
    go (Some t) q h = subst (λ (o : Option ℕ). Numbered p (suc n) o) (sym (find_append_some p (numbers n) (suc n ∷ []) t q))
        (record { passes = h.passes; above = h.above; within = omega (arith, h.within); first = h.first })

-- t is the first element of an ascending list that passes
record IsFirstTxn (q : Txn → Bool) (ts : List Txn) (t : Txn) : Type 0 where
  passes : q t ≡ true
  among : has t.0 ts ≡ true
  first : (u : Txn) → has u.0 ts ≡ true → u.0 < t.0 → q u ≡ false

Listed : (Txn → Bool) → List Txn → Option Txn → Type 0
Listed q ts None = (t : Txn) → has t.0 ts ≡ true → q t ≡ false
Listed q ts (Some t) = IsFirstTxn q ts t

pub same_txn : (t u : Txn) → t.0 ≡ u.0 → t ≡ u
same_txn t u e = ap (λ (n : ℕ). record { 0 = n }) e

pub has-above : (n : ℕ) (ts : List Txn) → AllAbove number_of n ts → (t : ℕ) → has t ts ≡ true → n < t
unfolding has
has-above n [] h t a = absurd (cc)
has-above n (u ∷ us) h t a = go (eqb u.0 t) refl a (has-above n us h.1 t)
  where
    go : (b : Bool) → eqb u.0 t ≡ b → (b || has t us) ≡ true → (has t us ≡ true → n < t) → n < t
    go true e a ih = let same = eqb-true _ _ e in omega (arith, h.0)
    go false e a ih = ih a

listed : (q : Txn → Bool) (ts : List Txn) → IsAscendingBy number_of ts → Listed q ts (find q ts)
unfolding has Listed
listed q [] a = λ t h. absurd (clash false h refl)
listed q (x ∷ xs) a = go (q x) refl (find q xs) (listed q xs a.1)
  where
    split : (t : Txn) → has t.0 (x ∷ xs) ≡ true → (x ≡ t) ⊎ (has t.0 xs ≡ true)
    split t h = pick (eqb x.0 t.0) refl h
      where
        pick : (b : Bool) → eqb x.0 t.0 ≡ b → (b || has t.0 xs) ≡ true → (x ≡ t) ⊎ (has t.0 xs ≡ true)
        pick true e k = inl (same_txn x t (eqb-true _ _ e))
        pick false e k = inr k

    later : (t : Txn) → has t.0 xs ≡ true → has t.0 (x ∷ xs) ≡ true
    later t h = pick (eqb x.0 t.0)
      where
        pick : (b : Bool) → (b || has t.0 xs) ≡ true
        pick true = refl
        pick false = h

    go : (b : Bool) → q x ≡ b → (o : Option Txn) → Listed q xs o → Listed q (x ∷ xs) (cond b (Some x) o)
    go true e o ih = record {
      passes = e;
      among = ap (λ (b : Bool). b || has x.0 xs) (eq-eqb x.0 x.0 refl);
      first = λ u h l. elim (split u h) [ inl s ↦ absurd (let n = ap number_of s in omega arith) | inr k ↦ absurd (let n = has-above x.0 xs a.0 u.0 k in omega arith) ];
    }
    go false e None ih = λ t h. elim (split t h) [ inl s ↦ subst (λ (u : Txn). q u ≡ false) s e | inr k ↦ ih t k ]
    go false e (Some t) ih = record {
      passes = ih.passes;
      among = later t ih.among;
      first = λ u h l. elim (split u h) [ inl s ↦ subst (λ (w : Txn). q w ≡ false) s e | inr k ↦ ih.first u k l ];
    }

has-filter : (p : Txn → Bool) (ts : List Txn) (t : Txn) → has t.0 ts ≡ true → p t ≡ true → has t.0 (filter p ts) ≡ true
unfolding has
has-filter p [] t h k = h
has-filter p (x ∷ xs) t h k = go (p x) refl (eqb x.0 t.0) refl h (λ i. has-filter p xs t i k)
  where
    go : (b : Bool) → p x ≡ b → (c : Bool) → eqb x.0 t.0 ≡ c → (c || has t.0 xs) ≡ true → (has t.0 xs ≡ true → has t.0 (filter p xs) ≡ true) → has t.0 (cond b (x ∷ filter p xs) (filter p xs)) ≡ true
    go true e true f h ih = ap (λ (b : Bool). b || has t.0 (filter p xs)) f
    go true e false f h ih = ap (λ (b : Bool). b || has t.0 (filter p xs)) f ∙ ih h
    go false e true f h ih = absurd (clash (p t) k (ap p (sym (same_txn x t (eqb-true _ _ f))) ∙ e))
    go false e false f h ih = ih h

filter-passes : (p : Txn → Bool) (ts : List Txn) (t : Txn) → has t.0 (filter p ts) ≡ true → p t ≡ true
unfolding has
filter-passes p [] t h = absurd (cc)
filter-passes p (x ∷ xs) t h = go (p x) refl (eqb x.0 t.0) refl h (filter-passes p xs t)
  where
    go : (b : Bool) → p x ≡ b → (c : Bool) → eqb x.0 t.0 ≡ c → has t.0 (cond b (x ∷ filter p xs) (filter p xs)) ≡ true → (has t.0 (filter p xs) ≡ true → p t ≡ true) → p t ≡ true
    go true e true f h ih = ap p (sym (same_txn x t (eqb-true _ _ f))) ∙ e
    go true e false f h ih = ih (sym (ap (λ (b : Bool). b || has t.0 (filter p xs)) f) ∙ h)
    go false e c f h ih = ih h

-- a transaction is in the list of live transactions if and only if it is live
live_mentioned : (H : List Event) (t : Txn) → is_live H t.0 ≡ true → has t.0 (mentioned H) ≡ true
live_mentioned H t h = go (has t.0 (mentioned H)) refl
  where
    go : (b : Bool) → has t.0 (mentioned H) ≡ b → has t.0 (mentioned H) ≡ true
    go true q = q
    go false q = absurd (clash false (sym (ap stands_live (unmentioned H t q)) ∙ live_standing H t.0 ∙ h) refl)

pub live_listed : (H : List Event) (t : Txn) → is_live H t.0 ≡ true → has t.0 (live_txns H) ≡ true
live_listed H t h = has-filter (λ (u : Txn). is_live H u.0) (mentioned H) t (live_mentioned H t h) h

pub listed_live : (H : List Event) (t : Txn) → has t.0 (live_txns H) ≡ true → is_live H t.0 ≡ true
listed_live H t h = filter-passes (λ (u : Txn). is_live H u.0) (mentioned H) t h

module _ (H : List Event) (p : ℕ → Bool) (lives : (t : ℕ) → p t ≡ true → is_live H t ≡ true) where
  numbered_passes : (t : Txn) → (is_numbered H t && p t.0) ≡ true → (0 < t.0) × (t.0 ≤ begun_count H) × (p t.0 ≡ true)
  numbered_passes t h =
      let two = both (is_numbered H t) (p t.0) h in
      let number = both (ltb 0 t.0) (leb t.0 (begun_count H)) two.0 in
      (ltb-true 0 t.0 number.0, leb-true t.0 (begun_count H) number.1, two.1)

  passes_numbered : (t : Txn) → 0 < t.0 → t.0 ≤ begun_count H → p t.0 ≡ true → (is_numbered H t && p t.0) ≡ true
  passes_numbered t a l h = λ j. (lt-ltb 0 t.0 a j && le-leb t.0 (begun_count H) l j) && h j

  pub first_live : find (λ t. is_numbered H t && p t.0) (live_txns H) ≡ txn_of (find p (txns H))
  unfolding txns Numbered Listed
  first_live = go (find p (numbers (begun_count H))) (find (λ t. is_numbered H t && p t.0) (live_txns H)) (numbered p (begun_count H))
      (listed (λ t. is_numbered H t && p t.0) (live_txns H) (live-ascending H))
    where
      go : (o : Option ℕ) (r : Option Txn) → Numbered p (begun_count H) o → Listed (λ t. is_numbered H t && p t.0) (live_txns H) r → r ≡ txn_of o
      go None None a b = refl
      go None (Some t) a b = let is = numbered_passes t b.passes in absurd (clash _ is.2 (a t.0 is.0 is.1))
      go (Some n) None a b = absurd (clash _ (passes_numbered (record { 0 = n }) a.above a.within a.passes) (b (record { 0 = n }) (live_listed H (record { 0 = n }) (lives n a.passes))))
      go (Some n) (Some t) a b =
          let is = numbered_passes t b.passes in
          let is' = passes_numbered (record { 0 = n }) a.above a.within a.passes in
          elim (cases_order t.0 n) [
            | inl e ↦ ap (λ (m : ℕ). Some (record { 0 = m })) e
            | inr (inl l) ↦ absurd (clash _ is.2 (a.first t.0 is.0 l))
            | inr (inr l) ↦ absurd (clash _ is' (b.first (record { 0 = n }) (live_listed H (record { 0 = n }) (lives n a.passes)) l))
          ]
