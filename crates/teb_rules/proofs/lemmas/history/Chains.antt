-- The events of one transaction, along the links between them.
use Rattle.std.proofs.Common.{◌≡◌, ℕ, suc, ◌+◌, ◌-◌, ◌<◌, ◌≤◌, Bool, true, false, cond, ltb, List, [], ◌∷◌, ◌++◌, length}
use Rattle.std.proofs.Common.{filter, get_or, reverse, refl, sym, ◌∙◌, ap, subst, arith, lt-ltb, le-ltb, ◌⊎◌, inl, inr}
use Rattle.std.proofs.lemmas.Bool.{eqb-true, eq-eqb}
use Rattle.std.proofs.lemmas.List.{reverse-append, reverse-reverse, length-reverse, get_or_append_left}
use Rattle.std.proofs.Math.Seq.{get_or-append_seam}
use Rattle.teb_rules.specs.declared.history.Event.{Event}
use Rattle.teb_rules.specs.history.Positions.{upto}
use Rattle.teb_rules.proofs.lemmas.history.Comparisons.{ltb_tells}
use Rattle.teb_rules.specs.history.OwnEvents.{event_txn, is_of, own_events, own_end, links, newest_own, own_before, IsLinked}

reverse-cons : {A : Type 0} (x : A) (xs : List A) → reverse (x ∷ xs) ≡ reverse xs ++ x ∷ []
reverse-cons x xs = reverse-append (x ∷ []) xs

-- x is last in the reverse of x ∷ xs, so the elements before it are those of the reverse of xs
get_or-reverse_older : {A : Type 0} (x : A) (xs : List A) (i : ℕ) (d : A) → i < length xs → get_or (reverse (x ∷ xs)) i d ≡ get_or (reverse xs) i d
get_or-reverse_older x xs i d h = ap (λ ys. get_or ys i d) (reverse-cons x xs) ∙ get_or_append_left (reverse xs) (x ∷ []) d i (omega (arith, length-reverse xs))

get_or-reverse_newest : {A : Type 0} (x : A) (xs : List A) (d : A) → get_or (reverse (x ∷ xs)) (length xs) d ≡ x
get_or-reverse_newest x xs d = ap (λ ys. get_or ys (length xs) d) (reverse-cons x xs) ∙ ap (λ n. get_or (reverse xs ++ x ∷ []) n d) (sym (length-reverse xs)) ∙ get_or-append_seam (reverse xs) x [] d

pub length-links : (H : List Event) → length (links H) ≡ length H
unfolding links
length-links [] = refl
length-links (e ∷ P) = ap suc (length-links P)

-- an end is at most the number of events
pub own_end-le : (H : List Event) (t : ℕ) → own_end H t ≤ length H
unfolding own_end
own_end-le [] t = omega arith
own_end-le (e ∷ P) t = go (is_of t e) (own_end-le P t)
  where
    go : (b : Bool) → own_end P t ≤ length P → cond b (suc (length P)) (own_end P t) ≤ suc (length P)
    go true h = omega arith
    go false h = omega arith

pub upto-older : (n : ℕ) (e : Event) (P : List Event) → n ≤ length P → upto n (e ∷ P) ≡ upto n P
unfolding upto
upto-older n e P h = rw (le-ltb (length P) n h) refl

pub upto-newest : (e : Event) (P : List Event) → upto (suc (length P)) (e ∷ P) ≡ e ∷ P
unfolding upto
upto-newest e P = rw (lt-ltb (length P) (suc (length P)) (let l : length P < suc (length P) = omega arith in l)) refl

pub upto-all : (H : List Event) → upto (length H) H ≡ H
unfolding upto
upto-all [] = refl
upto-all (e ∷ P) = upto-newest e P

pub upto-upto : (n m : ℕ) (H : List Event) → n ≤ m → upto n (upto m H) ≡ upto n H
unfolding upto
upto-upto n m [] h = refl
upto-upto n m (e ∷ P) h = go (ltb_tells (length P) m) (upto-upto n m P h)
  where
    go : ((ltb (length P) m ≡ true) × (length P < m)) ⊎ ((ltb (length P) m ≡ false) × (m ≤ length P)) → upto n (upto m P) ≡ upto n P → upto n (upto m (e ∷ P)) ≡ upto n (e ∷ P)
    go (inl q) ih = ap (λ (b : Bool). upto n (cond b (e ∷ P) (upto m P))) q.0
    go (inr q) ih = ap (λ (b : Bool). upto n (cond b (e ∷ P) (upto m P))) q.0 ∙ ih ∙ ap (λ (b : Bool). cond b (e ∷ P) (upto n P)) (sym (le-ltb (length P) n (omega arith)))

pub length-upto : (n : ℕ) (H : List Event) → n ≤ length H → length (upto n H) ≡ n
unfolding upto
length-upto n [] h = omega arith
length-upto n (e ∷ P) h = go (ltb_tells (length P) n) (length-upto n P)
  where
    go : ((ltb (length P) n ≡ true) × (length P < n)) ⊎ ((ltb (length P) n ≡ false) × (n ≤ length P)) → (n ≤ length P → length (upto n P) ≡ n) → length (upto n (e ∷ P)) ≡ n
    go (inl q) ih = ap (λ (b : Bool). length (cond b (e ∷ P) (upto n P))) q.0 ∙ (let l : suc (length P) ≡ n = omega (arith, q.1) in l)
    go (inr q) ih = ap (λ (b : Bool). length (cond b (e ∷ P) (upto n P))) q.0 ∙ ih q.1

-- a prefix of the history that is one event longer
pub upto-suc : (i : ℕ) (H : List Event) (d : Event) → i < length H → upto (i + 1) H ≡ get_or (reverse H) i d ∷ upto i H
upto-suc i [] d h = absurd (omega arith)
upto-suc i (e ∷ P) d h = go (ltb_tells i (length P)) (upto-suc i P d)
  where
    older : i < length P → upto (i + 1) P ≡ get_or (reverse P) i d ∷ upto i P → upto (i + 1) (e ∷ P) ≡ get_or (reverse (e ∷ P)) i d ∷ upto i (e ∷ P)
    older l ih = upto-older (i + 1) e P (omega arith) ∙ ih ∙ (λ j. sym (get_or-reverse_older e P i d l) j ∷ sym (upto-older i e P (omega arith)) j)

    newest : length P ≤ i → upto (i + 1) (e ∷ P) ≡ get_or (reverse (e ∷ P)) i d ∷ upto i (e ∷ P)
    newest l =
        let last : length P ≡ i = omega arith in
        let more : suc (length P) ≡ length P + 1 = omega arith in
        let this : upto (length P + 1) (e ∷ P) ≡ get_or (reverse (e ∷ P)) (length P) d ∷ upto (length P) (e ∷ P) =
        ap (λ n. upto n (e ∷ P)) (sym more) ∙ upto-newest e P ∙ (λ j. sym (get_or-reverse_newest e P d) j ∷ sym (upto-older (length P) e P (omega arith) ∙ upto-all P) j) in
        subst (λ (n : ℕ). upto (n + 1) (e ∷ P) ≡ get_or (reverse (e ∷ P)) n d ∷ upto n (e ∷ P)) last this

    go : ((ltb i (length P) ≡ true) × (i < length P)) ⊎ ((ltb i (length P) ≡ false) × (length P ≤ i)) → (i < length P → upto (i + 1) P ≡ get_or (reverse P) i d ∷ upto i P)
        → upto (i + 1) (e ∷ P) ≡ get_or (reverse (e ∷ P)) i d ∷ upto i (e ∷ P)
    go (inl q) ih = older q.1 (ih q.1)
    go (inr q) ih = newest q.1

-- the link of an event is the end of its transaction's earlier events
pub links-at : (i : ℕ) (H : List Event) (d : Event) → i < length H → get_or (reverse (links H)) i 0 ≡ own_end (upto i H) (event_txn (get_or (reverse H) i d)).0
unfolding links
links-at i [] d h = absurd (omega arith)
links-at i (e ∷ P) d h = go (ltb_tells i (length P)) (links-at i P d)
  where
    link : ℕ
    link = own_end P (event_txn e).0

    older : i < length P → get_or (reverse (links P)) i 0 ≡ own_end (upto i P) (event_txn (get_or (reverse P) i d)).0 → get_or (reverse (link ∷ links P)) i 0 ≡ own_end (upto i (e ∷ P))
        (event_txn (get_or (reverse (e ∷ P)) i d)).0
    older l ih = get_or-reverse_older link (links P) i 0 (omega (arith, length-links P)) ∙ ih
        ∙ (λ j. own_end (sym (upto-older i e P (omega arith)) j) (event_txn (sym (get_or-reverse_older e P i d l) j)).0)

    newest : length P ≤ i → get_or (reverse (link ∷ links P)) i 0 ≡ own_end (upto i (e ∷ P)) (event_txn (get_or (reverse (e ∷ P)) i d)).0
    newest l =
        let last : length P ≡ i = omega arith in
        let this : get_or (reverse (link ∷ links P)) (length P) 0 ≡ own_end (upto (length P) (e ∷ P)) (event_txn (get_or (reverse (e ∷ P)) (length P) d)).0 =
        ap (λ n. get_or (reverse (link ∷ links P)) n 0) (sym (length-links P)) ∙ get_or-reverse_newest link (links P) 0
        ∙ (λ j. own_end (sym (upto-older (length P) e P (omega arith) ∙ upto-all P) j) (event_txn (sym (get_or-reverse_newest e P d) j)).0) in
        subst (λ (n : ℕ). get_or (reverse (link ∷ links P)) n 0 ≡ own_end (upto n (e ∷ P)) (event_txn (get_or (reverse (e ∷ P)) n d)).0) last this

    go : ((ltb i (length P) ≡ true) × (i < length P)) ⊎ ((ltb i (length P) ≡ false) × (length P ≤ i))
        → (i < length P → get_or (reverse (links P)) i 0 ≡ own_end (upto i P) (event_txn (get_or (reverse P) i d)).0)
        → get_or (reverse (link ∷ links P)) i 0 ≡ own_end (upto i (e ∷ P)) (event_txn (get_or (reverse (e ∷ P)) i d)).0
    go (inl q) ih = older q.1 (ih q.1)
    go (inr q) ih = newest q.1

-- the events that are linked from t's newest are t's own
pub newest_own-end : (H : List Event) (t : ℕ) → newest_own (upto (own_end H t) H) ≡ own_events H t
unfolding newest_own own_end own_events upto
newest_own-end [] t = refl
newest_own-end (e ∷ P) t = go (is_of t e) refl (newest_own-end P t)
  where
    go : (b : Bool) → is_of t e ≡ b → newest_own (upto (own_end P t) P) ≡ own_events P t → newest_own (upto (cond b (suc (length P)) (own_end P t)) (e ∷ P)) ≡ cond b (e ∷ filter (is_of t) P)
        (filter (is_of t) P)
    go true q ih =
        let same : (event_txn e).0 ≡ t = eqb-true _ _ q in
        ap newest_own (upto-newest e P) ∙ ap (λ (n : ℕ). filter (is_of n) (e ∷ P)) same ∙ ap (λ (b : Bool). cond b (e ∷ filter (is_of t) P) (filter (is_of t) P)) q
    go false q ih = ap newest_own (upto-older (own_end P t) e P (own_end-le P t)) ∙ ih

-- one step along the links
pub newest_own-step : (i : ℕ) (H : List Event) (d : Event) → i < length H → newest_own (upto (i + 1) H) ≡ get_or (reverse H) i d ∷ newest_own (upto (get_or (reverse (links H)) i 0) H)
unfolding newest_own own_events
newest_own-step i H d h =
    let e = get_or (reverse H) i d in
    let t = (event_txn e).0 in
    let short : own_end (upto i H) t ≤ i = omega (arith, own_end-le (upto i H) t, length-upto i H (omega arith)) in
    ap newest_own (upto-suc i H d h)
    ∙ ap (λ (b : Bool). cond b (e ∷ filter (is_of t) (upto i H)) (filter (is_of t) (upto i H))) (eq-eqb t t refl)
    ∙ ap (λ (es : List Event). e ∷ es) (sym (newest_own-end (upto i H) t) ∙ ap newest_own (upto-upto (own_end (upto i H) t) i H short) ∙ ap (λ (n : ℕ). newest_own (upto n H)) (sym (links-at i H d h)))

pub upto-zero : (H : List Event) → upto 0 H ≡ []
unfolding upto
upto-zero [] = refl
upto-zero (e ∷ P) = rw (le-ltb (length P) 0 (omega arith)) (upto-zero P)

-- the same for events with the oldest first
pub own_before-none : (events : List Event) (n : ℕ) → n ≡ 0 → own_before events n ≡ []
unfolding newest_own
own_before-none events n h = ap (own_before events) h ∙ ap newest_own (upto-zero (reverse events))

-- a link is at most the number of events, whichever event it belongs to
link_within : (events : List Event) (previous : List ℕ) (i : ℕ) → previous ≡ reverse (links (reverse events)) → i < length (reverse events) → get_or previous i 0 ≤ length events
link_within [] previous i h l = absurd (omega arith)
link_within (e ∷ es) previous i h l =
    let H = reverse (e ∷ es) in
    let t = (event_txn (get_or (reverse H) i e)).0 in
    let at : get_or previous i 0 ≡ own_end (upto i H) t = ap (λ (ps : List ℕ). get_or ps i 0) h ∙ links-at i H e l in
    omega (arith, own_end-le (upto i H) t, length-upto i H (omega arith), length-reverse (e ∷ es))

module _ (events : List Event) (previous : List ℕ) (n : ℕ) (linked : IsLinked events previous n) where
  pub links_within : length previous ≡ length events
  links_within = ap length linked.links ∙ length-reverse (links (reverse events)) ∙ length-links (reverse events) ∙ length-reverse events

  pub own_before-step : 0 < n → (d : Event) → own_before events n ≡ get_or events (n - 1) d ∷ own_before events (get_or previous (n - 1) 0)
  own_before-step h d =
      let i = n - 1 in
      let in_range : i < length (reverse events) = omega (arith, length-reverse events, linked.within) in
      let next : n ≡ i + 1 = omega arith in
      ap (own_before events) next ∙ newest_own-step i (reverse events) d in_range
      ∙ (λ j. get_or (reverse-reverse events j) i d ∷ own_before events (get_or (sym linked.links j) i 0))

  pub linked_before : 0 < n → IsLinked events previous (get_or previous (n - 1) 0)
  linked_before h =
      let i = n - 1 in
      let H = reverse events in
      let in_range : i < length H = omega (arith, length-reverse events, linked.within) in
      record {
        links = linked.links;
        within = link_within events previous i linked.links in_range;
      }
