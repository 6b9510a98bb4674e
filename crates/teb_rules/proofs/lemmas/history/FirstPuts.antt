-- A transaction's first Put of a cell, found by walking its own events from the newest backward.
use Rattle.std.proofs.Common.{◌≡◌, ℕ, suc, ◌+◌, ◌-◌, ◌<◌, ◌≤◌, Bool, true, false, cond, ◌&&◌, ltb, is_some, List, []}
use Rattle.std.proofs.Common.{◌∷◌, length, get_or, reverse, refl, sym, ◌∙◌, ap, subst, arith, lt-ltb, le-ltb, ltb-true}
use Rattle.std.proofs.lemmas.Bool.{eqb-true, ltb-false}
use Rattle.std.proofs.lemmas.List.{length-reverse, reverse-reverse}
use Rattle.teb_rules.specs.declared.names.Cell.{Cell}
use Rattle.teb_rules.specs.declared.history.Event.{Event}
use Rattle.teb_rules.specs.history.Positions.{upto, first, first_event, newest}
use Rattle.teb_rules.specs.history.Accesses.{is_put, put_at}
use Rattle.teb_rules.specs.history.OwnEvents.{event_txn, is_of, own_end, links, put_in}
use Rattle.teb_rules.proofs.lemmas.history.Any.{first_le}
use Rattle.teb_rules.proofs.lemmas.history.OwnWalks.{put_own}
use Rattle.teb_rules.proofs.lemmas.history.Chains.{own_end-le, upto-older, upto-newest, upto-upto, upto-suc, upto-zero, links-at, length-links, length-upto}

-- the position of t's first Put of x, or d if there is none
unfoldable pub first_put_or : List Event → ℕ → Cell → ℕ → ℕ
first_put_or [] t x d = d
first_put_or (e ∷ P) t x d = first_put_or P t x (cond (is_put t x e) (length P) d)

-- the end of t's events is unchanged if the history is cut there
pub own_end_own : (t : ℕ) (P : List Event) → own_end (upto (own_end P t) P) t ≡ own_end P t
unfolding own_end upto
own_end_own t [] = refl
own_end_own t (e ∷ P) = go (is_of t e) refl (own_end_own t P)
  where
    go : (b : Bool) → is_of t e ≡ b → own_end (upto (own_end P t) P) t ≡ own_end P t → own_end (upto (cond b (suc (length P)) (own_end P t)) (e ∷ P)) t ≡ cond b (suc (length P)) (own_end P t)
    go true q ih = ap (λ (Q : List Event). own_end Q t) (upto-newest e P) ∙ ap (λ (b : Bool). cond b (suc (length P)) (own_end P t)) q
    go false q ih = ap (λ (Q : List Event). own_end Q t) (upto-older (own_end P t) e P (own_end-le P t)) ∙ ih

module _ (t : ℕ) (x : Cell) where
  first_put_or_at : (P : List Event) (d : ℕ) → first_put_or P t x d ≡ cond (ltb (put_at P t x) (length P)) (put_at P t x) d
  unfolding first_put_or put_at first_event first
  first_put_or_at [] d = refl
  first_put_or_at (e ∷ P) d =
      go (ltb (put_at P t x) (length P)) refl (is_put t x e) (first_put_or_at P (cond (is_put t x e) (length P) d))
    where
      go : (b : Bool) → ltb (put_at P t x) (length P) ≡ b → (c : Bool) → first_put_or P t x (cond c (length P) d) ≡ cond b (put_at P t x) (cond c (length P) d)
          → first_put_or P t x (cond c (length P) d)
          ≡ (let i = cond b (put_at P t x) (cond c (length P) (suc (length P))) in cond (ltb i (suc (length P))) i d)
      go true q c ih = let z = ltb-true _ _ q in ih ∙ rw (lt-ltb (put_at P t x) (suc (length P)) (omega arith)) refl
      go false q true ih = ih ∙ rw (lt-ltb (length P) (suc (length P)) (let l : length P < suc (length P) = omega arith in l)) refl
      go false q false ih = ih ∙ rw (le-ltb (suc (length P)) (suc (length P)) (let l : suc (length P) ≤ suc (length P) = omega arith in l)) refl

  pub put_at_first : (H : List Event) → put_at H t x ≡ first_put_or H t x (length H)
  unfolding put_at first_event
  put_at_first H = go (ltb (put_at H t x) (length H)) refl (first_put_or_at H (length H))
    where
      go : (b : Bool) → ltb (put_at H t x) (length H) ≡ b → first_put_or H t x (length H) ≡ cond b (put_at H t x) (length H) → put_at H t x ≡ first_put_or H t x (length H)
      go true q h = sym h
      go false q h = (let z = ltb-false (put_at H t x) (length H) q in let y = first_le (newest (is_put t x)) H in let same : put_at H t x ≡ length H = omega arith in same) ∙ sym h

  -- there is no Put of t after its last event
  first_put_or_own : (P : List Event) (d : ℕ) → first_put_or P t x d ≡ first_put_or (upto (own_end P t) P) t x d
  unfolding first_put_or own_end upto
  first_put_or_own [] d = refl
  first_put_or_own (e ∷ P) d = go (is_of t e) (put_own t x e) (first_put_or_own P d)
    where
      go : (b : Bool) → is_put t x e ≡ (b && is_some (put_in x e)) → first_put_or P t x d ≡ first_put_or (upto (own_end P t) P) t x d
          → first_put_or (e ∷ P) t x d ≡ first_put_or (upto (cond b (suc (length P)) (own_end P t)) (e ∷ P)) t x d
      go true q ih = ap (λ (Q : List Event). first_put_or Q t x d) (sym (upto-newest e P))
      go false q ih = ap (λ (b : Bool). first_put_or P t x (cond b (length P) d)) q ∙ ih ∙ ap (λ (Q : List Event). first_put_or Q t x d) (sym (upto-older (own_end P t) e P (own_end-le P t)))

  -- the state of the walk: t's events before `end` remain, and `found` is t's first Put of x among the later ones, if there is one
  pub record IsWalked (H : List Event) (end found : ℕ) : Type 0 where
    pub within : end ≤ length H
    pub own : own_end (upto end H) t ≡ end
    pub first : put_at H t x ≡ first_put_or (upto end H) t x found

  pub walk_begins : (H : List Event) → IsWalked H (own_end H t) (length H)
  walk_begins H = record {
    within = own_end-le H t;
    own = own_end_own t H;
    first = put_at_first H ∙ first_put_or_own H (length H);
  }

  pub walk_ends : (H : List Event) (end first : ℕ) → end ≡ 0 → IsWalked H end first → put_at H t x ≡ first
  unfolding first_put_or
  walk_ends H end first z w = w.first ∙ ap (λ (n : ℕ). first_put_or (upto n H) t x first) z ∙ ap (λ (Q : List Event). first_put_or Q t x first) (upto-zero H)

  -- the walk steps back over one event
  walk_over : (H : List Event) (i first : ℕ) (e : Event) (P : List Event) (m : ℕ) → i < length H → P ≡ upto i H → upto (i + 1) H ≡ e ∷ P → m ≡ own_end P (event_txn e).0
      → IsWalked H (i + 1) first → IsWalked H m (cond (is_some (put_in x e)) i first)
  unfolding first_put_or own_end
  walk_over H i first e P m l before more link w =
      go (is_of t e) refl (put_own t x e) (ap (λ (Q : List Event). own_end Q t) (sym more) ∙ w.own) (w.first ∙ ap (λ (Q : List Event). first_put_or Q t x first) more)
    where
      long : length P ≡ i
      long = ap (λ (Q : List Event). length Q) before ∙ length-upto i H (omega arith)

      go : (b : Bool) → is_of t e ≡ b → is_put t x e ≡ (b && is_some (put_in x e)) → cond b (suc (length P)) (own_end P t) ≡ i + 1
          → put_at H t x ≡ first_put_or P t x (cond (is_put t x e) (length P) first)
          → IsWalked H m (cond (is_some (put_in x e)) i first)
      go false q p n f = absurd (let z = own_end-le P t in omega (arith, long))
      go true q p n f =
          let same : (event_txn e).0 ≡ t = eqb-true _ _ q in
          let end : m ≡ own_end P t = link ∙ ap (λ (u : ℕ). own_end P u) same in
          let short : own_end P t ≤ i = (let z = own_end-le P t in omega (arith, long)) in
          let behind : upto (own_end P t) P ≡ upto (own_end P t) H = ap (upto (own_end P t)) before ∙ upto-upto (own_end P t) i H short in
          subst (λ (m : ℕ). IsWalked H m (cond (is_some (put_in x e)) i first)) (sym end) (record {
            within = omega arith;
            own = ap (λ (Q : List Event). own_end Q t) (sym behind) ∙ own_end_own t P;
            first = f ∙ (λ j. first_put_or P t x (cond (p j) (long j) first)) ∙ first_put_or_own P _ ∙ ap (λ (Q : List Event). first_put_or Q t x (cond (is_some (put_in x e)) i first)) behind;
          })

  -- the same for events with the oldest first and the links between them
  module _ (events : List Event) (previous : List ℕ) (linked : previous ≡ reverse (links (reverse events))) (end : ℕ) (some : 0 < end) (first : ℕ) (w : IsWalked (reverse events) end first) where
    pub walk_in : end - 1 < length events
    walk_in = omega (arith, w.within, length-reverse events)

    pub walk_in_links : end - 1 < length previous
    walk_in_links = omega (arith, walk_in, ap (λ (ns : List ℕ). length ns) linked, length-reverse (links (reverse events)), length-links (reverse events), length-reverse events)

    walk_at : end - 1 < length (reverse events)
    walk_at = omega (arith, w.within)

    link_of : (e : Event) → e ≡ get_or events (end - 1) e → get_or previous (end - 1) 0 ≡ own_end (upto (end - 1) (reverse events)) (event_txn e).0
    link_of e h = ap (λ (ns : List ℕ). get_or ns (end - 1) 0) linked ∙ links-at (end - 1) (reverse events) e walk_at
        ∙ ap (λ (d : Event). own_end (upto (end - 1) (reverse events)) (event_txn d).0) (ap (λ (es : List Event). get_or es (end - 1) e) (reverse-reverse events) ∙ sym h)

    -- a link is less than its event's end
    pub walk_falls : (e : Event) → e ≡ get_or events (end - 1) e → get_or previous (end - 1) 0 < end
    walk_falls e h = omega (arith, link_of e h, own_end-le (upto (end - 1) (reverse events)) (event_txn e).0, length-upto (end - 1) (reverse events) (omega (arith, walk_at)))

    pub walk_steps : (e : Event) → e ≡ get_or events (end - 1) e → IsWalked (reverse events) (get_or previous (end - 1) 0) (cond (is_some (put_in x e)) (end - 1) first)
    walk_steps e h =
        let next : end ≡ end - 1 + 1 = omega arith in
        walk_over (reverse events) (end - 1) first e (upto (end - 1) (reverse events)) _ walk_at refl
        (upto-suc (end - 1) (reverse events) e walk_at ∙ ap (λ (d : Event). d ∷ upto (end - 1) (reverse events)) (ap (λ (es : List Event). get_or es (end - 1) e) (reverse-reverse events) ∙ sym h))
        (link_of e h) (subst (λ (n : ℕ). IsWalked (reverse events) n first) next w)
