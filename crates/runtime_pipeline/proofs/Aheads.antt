-- Which transactions are ahead of which after one more event.
use Rattle.std.proofs.Common.{◌≡◌, ℕ, suc, ◌<◌, ◌≤◌, Bool, true, false, cond, not, ◌||◌, ◌&&◌, eqb, List, [], ◌∷◌, map, filter, length, refl, sym, ◌∙◌, ap, subst, arith, inl, inr, lt-ltb, le-ltb}
use Rattle.std.proofs.lemmas.Bool.{cases_Bool, both_ways, and_parts, eqb-true, eq-eqb, ne_eqb}
use Rattle.teb_rules.specs.declared.names.Txn.{Txn}
use Rattle.teb_rules.specs.declared.names.Cell.{Cell}
use Rattle.teb_rules.proofs.lemmas.names.Bools.{or_true, or_false}
use Rattle.teb_rules.specs.declared.history.Event.{Event}
use Rattle.teb_rules.specs.history.Phases.{unfinished, txns}
use Rattle.teb_rules.specs.history.Ascending.{AllAbove, IsAscendingBy, put_by}
use Rattle.teb_rules.specs.history.Live.{number_of}
use Rattle.teb_rules.proofs.lemmas.history.AscendingLists.{above-filter, ascending-filter}
use Rattle.teb_rules.specs.Setup.{Setup, among}
use Rattle.teb_rules.specs.Controls.{blocks}
use Rattle.teb_rules.specs.Serializes.{In}
use Rattle.teb_rules.proofs.lemmas.laws.AscendingNumbers.{number, txns_ascending, above_in}
use Rattle.hold_book.specs.declared.Hold.{Hold}
use Rattle.hold_book.specs.Holders.{holds, hold_of, holds_in}
use Rattle.access_conflicts.specs.Blockers.{in_the_way}
use Rattle.access_conflicts.proofs.Blockers.{blocks_holds, blocks_held}
use Rattle.runtime_pipeline.specs.Predecessors.{numbered, is_ahead, before_in, unfinished_in, joined, without}

-- ascending numbers give ascending transactions
made_above : (n : ℕ) (us : List ℕ) → AllAbove number n us → AllAbove number_of n (map numbered us)
made_above n [] h = tt
made_above n (u ∷ us) h = (h.0, made_above n us h.1)

made_ascend : (us : List ℕ) → IsAscendingBy number us → IsAscendingBy number_of (map numbered us)
made_ascend [] h = tt
made_ascend (u ∷ us) h = (made_above u us h.0, made_ascend us h.1)

pub before_ascends : (S : Setup) (H : List Event) (n t : ℕ) → IsAscendingBy number_of (before_in S H n t)
before_ascends S H n t = made_ascend (filter (is_ahead S H n t) (txns H)) (ascending-filter number (is_ahead S H n t) (txns H) (txns_ascending H))

-- tests that agree on a list select the same from it
filter_agree : (p q : ℕ → Bool) (us : List ℕ) → ((u : ℕ) → In u us → q u ≡ p u) → filter q us ≡ filter p us
filter_agree p q [] f = refl
filter_agree p q (u ∷ us) f = λ j. cond (f u (inl refl) j) (u ∷ filter_agree p q us (λ v i. f v (inr i)) j) (filter_agree p q us (λ v i. f v (inr i)) j)

-- putting a lower-numbered transaction adds it at the front
put_front : (v : ℕ) (us : List ℕ) → AllAbove number v us → put_by number_of (numbered v) (map numbered us) ≡ numbered v ∷ map numbered us
put_front v [] h = refl
put_front v (u ∷ us) h = rw (le-ltb u v (let l : v < u = h.0 in omega arith), ne_eqb u v (λ e. let l : v < u = h.0 in omega arith)) refl

none_equal : (q : ℕ → Bool) (v : ℕ) (us : List ℕ) → AllAbove number v us → filter (λ u. q u || eqb v u) us ≡ filter q us
none_equal q v us h = filter_agree q (λ u. q u || eqb v u) us (λ u i. ap (λ (b : Bool). q u || b) (ne_eqb v u (λ e. let l = above_in v u us h i in omega arith)) ∙ or_false (q u))

put_among : (v : ℕ) (q : ℕ → Bool) (us : List ℕ) → IsAscendingBy number us → In v us → put_by number_of (numbered v) (map numbered (filter q us)) ≡ map numbered (filter (λ u. q u || eqb v u) us)
put_among v q [] a i = absurd i
put_among v q (u ∷ us) a i = elim i [
  | inl e ↦ here e (q u) ∙ sym
      (ap (λ (b : Bool). map numbered (cond b (u ∷ filter (λ w. q w || eqb v w) us) (filter (λ w. q w || eqb v w) us))) (ap (λ (b : Bool). q u || b) (eq-eqb v u (sym e)) ∙ or_true (q u)) ∙ rest e)
  | inr j ↦ later (above_in u v us a.0 j) (put_among v q us a.1 j) (q u)
]
  where
    rest : u ≡ v → map numbered (u ∷ filter (λ w. q w || eqb v w) us) ≡ numbered v ∷ map numbered (filter q us)
    rest e = λ k. numbered (e k) ∷ map numbered (none_equal q v us (subst (λ (z : ℕ). AllAbove number z us) e a.0) k)

    here : u ≡ v → (b : Bool) → put_by number_of (numbered v) (map numbered (cond b (u ∷ filter q us) (filter q us))) ≡ numbered v ∷ map numbered (filter q us)
    here e true = rw (le-ltb u v (omega arith), eq-eqb u v e) refl
    here e false = put_front v (filter q us) (above-filter number v q us (subst (λ (z : ℕ). AllAbove number z us) e a.0))

    later : u < v → put_by number_of (numbered v) (map numbered (filter q us)) ≡ map numbered (filter (λ w. q w || eqb v w) us) → (b : Bool)
        → put_by number_of (numbered v) (map numbered (cond b (u ∷ filter q us) (filter q us))) ≡ map numbered
        (cond (b || eqb v u) (u ∷ filter (λ w. q w || eqb v w) us) (filter (λ w. q w || eqb v w) us))
    later l ih true = rw (lt-ltb u v l) (ap (λ (ts : List Txn). numbered u ∷ ts) ih)
    later l ih false = ih ∙ sym (ap (λ (b : Bool). map numbered (cond b (u ∷ filter (λ w. q w || eqb v w) us) (filter (λ w. q w || eqb v w) us))) (ne_eqb v u (λ e. omega arith)))

among_in : (u : ℕ) (us : List ℕ) → In u us → among u us ≡ true
among_in u [] i = absurd i
among_in u (v ∷ us) i = elim i [
  | inl e ↦ ap (λ (b : Bool). b || among u us) (eq-eqb v u e)
  | inr j ↦ ap (λ (b : Bool). eqb v u || b) (among_in u us j) ∙ or_true (eqb v u)
]

-- the holders that block t's access, joined with a list of t's earlier predecessors
module _ (S : Setup) (H : List Event) (n t : ℕ) (x : Cell) (write : Bool) where
  with_it : (a b c d : Bool) → (b ≡ true → d ≡ true) → ((a || b) || (c && d)) ≡ (a || ((b || c) && d))
  with_it true b c d h = refl
  with_it false true c d h = sym (h refl)
  with_it false false c d h = refl

  without_it : (a b c d : Bool) → (b ≡ true → d ≡ false) → (a || (c && d)) ≡ (a || ((b || c) && d))
  without_it true b c d h = refl
  without_it false true true d h = refl
  without_it false true false d h = sym (h refl)
  without_it false false c d h = refl

  off_way : (v : ℕ) → holds S H n x v ≡ false → blocks S H n t x write v ≡ false
  off_way v e = elim (cases_Bool (blocks S H n t x write v)) [ inl b ↦ absurd (both_ways _ e (blocks_holds S H n t x write v b)) | inr b ↦ b ]

  at_it : (v : ℕ) (b : Bool) → blocks S H n t x write v ≡ b → (u : ℕ) → eqb v u ≡ true → blocks S H n t x write u ≡ b
  at_it v b e u h = ap (blocks S H n t x write) (sym (eqb-true v u h)) ∙ e

  abbrev Joined : List ℕ → List Hold → List Txn → (ℕ → Bool) → Type 0
  Joined all hs ts q = joined (in_the_way S H n t write) hs ts ≡ map numbered (filter q all)

  joined_among : (all us : List ℕ) → IsAscendingBy number all → ((u : ℕ) → In u us → In u all) → (q : ℕ → Bool)
      → joined (in_the_way S H n t write) (map (hold_of H x) (filter (holds S H n x) us)) (map numbered (filter q all)) ≡ map numbered
      (filter (λ u. q u || (among u us && blocks S H n t x write u)) all)
  joined_among all [] a i q = λ j. map numbered (filter (λ u. sym (or_false (q u)) j) all)
  joined_among all (v ∷ us) a i q = go (joined_among all us a (λ u j. i u (inr j))) (holds S H n x v) refl (blocks S H n t x write v) refl
    where
      skipped : ((q : ℕ → Bool) → Joined all (map (hold_of H x) (filter (holds S H n x) us)) (map numbered (filter q all)) (λ u. q u || (among u us && blocks S H n t x write u)))
          → blocks S H n t x write v ≡ false
          → Joined all (map (hold_of H x) (filter (holds S H n x) us)) (map numbered (filter q all)) (λ u. q u || ((eqb v u || among u us) && blocks S H n t x write u))
      skipped ih f = ih q ∙ (λ j. map numbered (filter (λ u. without_it (q u) (eqb v u) (among u us) (blocks S H n t x write u) (at_it v false f u) j) all))

      go : ((q : ℕ → Bool) → Joined all (map (hold_of H x) (filter (holds S H n x) us)) (map numbered (filter q all)) (λ u. q u || (among u us && blocks S H n t x write u)))
          → (o : Bool) → holds S H n x v ≡ o → (b : Bool) → blocks S H n t x write v ≡ b
          → Joined all (map (hold_of H x) (cond o (v ∷ filter (holds S H n x) us) (filter (holds S H n x) us))) (map numbered (filter q all))
          (λ u. q u || ((eqb v u || among u us) && blocks S H n t x write u))
      go ih false e b f = skipped ih (off_way v e)
      go ih true e false f =
          ap (λ (w : Bool). joined (in_the_way S H n t write) (map (hold_of H x) (filter (holds S H n x) us))
          (cond w (put_by number_of (numbered v) (map numbered (filter q all))) (map numbered (filter q all)))) (sym (blocks_held S H n t x write v e) ∙ f)
          ∙ skipped ih f
      go ih true e true f =
          ap (λ (w : Bool). joined (in_the_way S H n t write) (map (hold_of H x) (filter (holds S H n x) us))
          (cond w (put_by number_of (numbered v) (map numbered (filter q all))) (map numbered (filter q all)))) (sym (blocks_held S H n t x write v e) ∙ f)
          ∙ ap (joined (in_the_way S H n t write) (map (hold_of H x) (filter (holds S H n x) us))) (put_among v q all a (i v (inl refl)))
          ∙ ih (λ u. q u || eqb v u)
          ∙ (λ j. map numbered (filter (λ u. with_it (q u) (eqb v u) (among u us) (blocks S H n t x write u) (at_it v true f u) j) all))

  pub joined_all : (q : ℕ → Bool) → joined (in_the_way S H n t write) (holds_in S H n x) (map numbered (filter q (txns H))) ≡ map numbered (filter (λ u. q u || blocks S H n t x write u) (txns H))
  joined_all q =
      joined_among (txns H) (txns H) (txns_ascending H) (λ u i. i) q
      ∙ ap (map numbered) (filter_agree (λ u. q u || blocks S H n t x write u) (λ u. q u || (among u (txns H) && blocks S H n t x write u)) (txns H)
      (λ u i. ap (λ (b : Bool). q u || (b && blocks S H n t x write u)) (among_in u (txns H) i)))

-- each transaction that is ahead is unfinished
pub ahead_unfinished : (S : Setup) (H : List Event) (n t u : ℕ) → is_ahead S H n t u ≡ true → unfinished H u ≡ true
ahead_unfinished S H n t u h = (and_parts _ _ (and_parts _ _ h).0).0

-- a test that implies another is passed by at most as many
fewer : (p q : ℕ → Bool) → ((u : ℕ) → p u ≡ true → q u ≡ true) → (us : List ℕ) → length (filter p us) ≤ length (filter q us)
fewer p q f [] = omega arith
fewer p q f (u ∷ us) = go (p u) refl (q u) refl (fewer p q f us)
  where
    go : (a : Bool) → p u ≡ a → (b : Bool) → q u ≡ b → length (filter p us) ≤ length (filter q us) → length (cond a (u ∷ filter p us) (filter p us)) ≤ length (cond b (u ∷ filter q us) (filter q us))
    go true e true g ih = omega arith
    go true e false g ih = absurd (both_ways _ g (f u e))
    go false e true g ih = omega arith
    go false e false g ih = ih

length_made : {A : Type 0} (f : ℕ → A) (us : List ℕ) → length (map f us) ≡ length us
length_made f [] = refl
length_made f (u ∷ us) = ap suc (length_made f us)

holds_unfinished : (S : Setup) (H : List Event) (n : ℕ) (x : Cell) (u : ℕ) → holds S H n x u ≡ true → unfinished H u ≡ true
unfolding holds
holds_unfinished S H n x u h = (and_parts _ _ (and_parts _ _ h).0).1

pub few_holders : (S : Setup) (H : List Event) (n : ℕ) (x : Cell) → length (holds_in S H n x) ≤ length (unfinished_in H)
few_holders S H n x =
    let l = fewer (holds S H n x) (unfinished H) (holds_unfinished S H n x) (txns H) in
    let a = length_made (hold_of H x) (filter (holds S H n x) (txns H)) in
    let b = length_made numbered (filter (unfinished H) (txns H)) in
    omega arith

-- filtering out t is removing t from the list
pub filter_without : (t : ℕ) (p q : ℕ → Bool) → ((u : ℕ) → q u ≡ (p u && not (eqb u t))) → (us : List ℕ) → map numbered (filter q us) ≡ without t (map numbered (filter p us))
filter_without t p q f [] = refl
filter_without t p q f (u ∷ us) = ap (λ (b : Bool). map numbered (cond b (u ∷ filter q us) (filter q us))) (f u) ∙ go (p u) (eqb u t) refl (filter_without t p q f us)
  where
    go : (a b : Bool) → eqb u t ≡ b → map numbered (filter q us) ≡ without t (map numbered (filter p us))
        → map numbered (cond (a && not b) (u ∷ filter q us) (filter q us)) ≡ without t (map numbered (cond a (u ∷ filter p us) (filter p us)))
    go true true e ih = ih ∙ sym (ap (λ (b : Bool). cond (not b) (numbered u ∷ without t (map numbered (filter p us))) (without t (map numbered (filter p us)))) e)
    go true false e ih = ap (λ (ts : List Txn). numbered u ∷ ts) ih
        ∙ sym (ap (λ (b : Bool). cond (not b) (numbered u ∷ without t (map numbered (filter p us))) (without t (map numbered (filter p us)))) e)
    go false b e ih = ih
