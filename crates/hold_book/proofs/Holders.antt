-- The holders of a cell after one more event.
use Rattle.std.proofs.Common.{◌≡◌, ◌≢◌, ℕ, ℤ, suc, Bool, true, false, cond, not, eqb, ◌&&◌, ◌||◌, List, [], ◌∷◌, ◌++◌}
use Rattle.std.proofs.Common.{◌⊎◌, filter, map, Option, refl, sym, ◌∙◌, ap, subst, arith, inl, inr, lt-ltb, le-ltb}
use Rattle.std.proofs.lemmas.Bool.{cases_Bool, cases_eq, cases_order, both_ways, and_from, or_left, or_right, eq-eqb, ne_eqb}
use Rattle.teb_rules.specs.declared.names.Txn.{Txn}
use Rattle.teb_rules.specs.declared.names.Session.{Session}
use Rattle.teb_rules.specs.declared.names.Kind.{Kind}
use Rattle.teb_rules.specs.declared.names.Cause.{Cause}
use Rattle.teb_rules.specs.declared.names.Cell.{Cell}
use Rattle.teb_rules.specs.names.Cells.{same_cell}
use Rattle.teb_rules.specs.declared.history.Event.{Event}
use Rattle.teb_rules.specs.declared.history.Event.TheVariants.{Began, Got, Put, Ready, Done, Gone, Told}
use Rattle.teb_rules.specs.history.Phases.{begun, committed, aborted, unfinished, begun_count, numbers, txns, spot_of}
use Rattle.teb_rules.specs.history.Accesses.{wrote, got}
use Rattle.teb_rules.specs.history.Ascending.{AllAbove, IsAscendingBy, put_by}
use Rattle.teb_rules.proofs.lemmas.history.AscendingLists.{ascending-filter, filter-put_in, above-mono}
use Rattle.teb_rules.specs.Setup.{Setup}
use Rattle.teb_rules.specs.Tree.{on, on_path}
use Rattle.teb_rules.specs.Serializes.{In}
use Rattle.teb_rules.proofs.lemmas.laws.AscendingNumbers.{number, numbers_ascending, above_in}
use Rattle.teb_rules.proofs.lemmas.laws.Locks.{In-numbers}
use Rattle.teb_rules.proofs.lemmas.laws.Holding.{unfinished_same}
use Rattle.hold_book.specs.declared.Hold.{Hold}
use Rattle.teb_rules.proofs.lemmas.names.SameCells.{same_cell-true, same_itself}
use Rattle.teb_rules.proofs.lemmas.names.Bools.{or_true, eqb_swap}
use Rattle.hold_book.specs.Books.{Held, shown, hold_number, has_put, accessed, released}
use Rattle.hold_book.specs.Holders.{holds, hold_of, holds_in, HoldsOf, MayHold, LeavesHolds}
use Rattle.teb_rules.proofs.lemmas.history.Newest.{wrote-cons, got-cons, unfinished-cons}

put_itself : (t : ℕ) (us : List ℕ) → IsAscendingBy number us → In t us → put_by number t us ≡ us
put_itself t [] h i = absurd i
put_itself t (u ∷ us) h i = elim i [
  | inl e ↦ rw (le-ltb u t (let z : u ≡ t = e in omega arith), eq-eqb u t e) (ap (λ (z : ℕ). z ∷ us) (sym e))
  | inr j ↦ rw (lt-ltb u t (above_in u t us h.0 j)) (ap (λ (l : List ℕ). u ∷ l) (put_itself t us h.1 j))
]

-- the hold of transaction u, where w says which transactions have put
abbrev pub hold_by : (ℕ → Bool) → ℕ → Hold
hold_by w u = record { txn = record { 0 = u }; wrote = w u }

module _ (t : ℕ) (w w' : ℕ → Bool) (same : (u : ℕ) → u ≢ t → w' u ≡ w u) where
  map_above : (us : List ℕ) → AllAbove number t us → map (hold_by w') us ≡ map (hold_by w) us
  map_above [] h = refl
  map_above (u ∷ us) h = λ j. (let k : Hold = record { txn = record { 0 = u }; wrote = same u (let l = h.0 in λ e. omega arith) j } in k) ∷ map_above us h.1 j

  map_put : (us : List ℕ) → IsAscendingBy number us → map (hold_by w') (put_by number t us) ≡ put_by hold_number (hold_by w' t) (map (hold_by w) us)
  map_put [] h = refl
  map_put (u ∷ us) h = elim (cases_order u t) [
    | inl e ↦ rw (le-ltb u t (let z : u ≡ t = e in omega arith), eq-eqb u t e) (ap (λ (l : List Hold). hold_by w' t ∷ l) (map_above us (subst (λ (z : ℕ). AllAbove number z us) e h.0)))
    | inr o ↦ elim o [
      | inl l ↦ rw (lt-ltb u t l) (λ j. (let k : Hold = record { txn = record { 0 = u }; wrote = same u (λ e. omega arith) j } in k) ∷ map_put us h.1 j)
      | inr l ↦ rw (le-ltb u t (omega arith), ne_eqb u t (λ e. omega arith)) (ap (λ (k : List Hold). hold_by w' t ∷ k) (map_above (u ∷ us) (l, above-mono number t u us (omega arith) h.0)))
    ]
  ]

  -- the holds of those that pass, if t passes now
  passes_too : (p p' : ℕ → Bool) → p' t ≡ true → ((u : ℕ) → u ≢ t → p' u ≡ p u) → (us : List ℕ) → IsAscendingBy number us → In t us
      → map (hold_by w') (filter p' us) ≡ put_by hold_number (hold_by w' t) (map (hold_by w) (filter p us))
  passes_too p p' here else us h i =
      ap (λ (l : List ℕ). map (hold_by w') (filter p' l)) (sym (put_itself t us h i))
      ∙ ap (map (hold_by w')) (filter-put_in number t p p' here else (λ x e. e) us h)
      ∙ map_put (filter p us) (ascending-filter number p us h)

put_none : (t : ℕ) (w : ℕ → Bool) → w t ≡ false → (us : List ℕ) → has_put t (map (hold_by w) us) ≡ false
put_none t w off [] = refl
put_none t w off (u ∷ us) = elim (cases_eq u t) [
  | inl e ↦ rw (ap w e ∙ off, eq-eqb u t e) (put_none t w off us)
  | inr ne ↦ rw (ne_eqb u t ne) (put_none t w off us)
]

put_some : (t : ℕ) (w p : ℕ → Bool) → w t ≡ true → p t ≡ true → (us : List ℕ) → In t us → has_put t (map (hold_by w) (filter p us)) ≡ true
put_some t w p on pass [] i = absurd i
put_some t w p on pass (u ∷ us) i = elim i [
  | inl e ↦ rw (ap p e ∙ pass, ap w e ∙ on, eq-eqb u t e) refl
  | inr j ↦ go (p u) (put_some t w p on pass us j)
]
  where
    go : (b : Bool) → has_put t (map (hold_by w) (filter p us)) ≡ true → has_put t (map (hold_by w) (cond b (u ∷ filter p us) (filter p us))) ≡ true
    go true ih = ap (λ (b : Bool). (eqb u t && w u) || b) ih ∙ or_true (eqb u t && w u)
    go false ih = ih

-- t has put if and only if its hold says so, if every transaction that has put passes
put_told : (t : ℕ) (w p : ℕ → Bool) → (w t ≡ true → p t ≡ true) → (us : List ℕ) → In t us → has_put t (map (hold_by w) (filter p us)) ≡ w t
put_told t w p pass us i = elim (cases_Bool (w t)) [ inl e ↦ put_some t w p e (pass e) us i ∙ sym e | inr e ↦ put_none t w e (filter p us) ∙ sym e ]

-- the holds of those that pass, if t no longer does
passes_no_more : (t : ℕ) (w p p' : ℕ → Bool) → ((u : ℕ) → p' u ≡ (p u && not (eqb u t))) → (us : List ℕ) → map (hold_by w) (filter p' us) ≡ released t (map (hold_by w) (filter p us))
passes_no_more t w p p' f [] = refl
passes_no_more t w p p' f (u ∷ us) = go (p u) (eqb u t) refl (f u) (passes_no_more t w p p' f us)
  where
    go : (a b : Bool) → eqb u t ≡ b → p' u ≡ (a && not b) → map (hold_by w) (filter p' us) ≡ released t (map (hold_by w) (filter p us))
        → map (hold_by w) (cond (p' u) (u ∷ filter p' us) (filter p' us)) ≡ released t (map (hold_by w) (cond a (u ∷ filter p us) (filter p us)))
    go true true q e ih = rw (e, q) ih
    go true false q e ih = rw (e, q) (ap (λ (l : List Hold). hold_by w u ∷ l) ih)
    go false b q e ih = rw e ih

-- the holds are the same if the tests agree, and the holds of those that pass do
same_holds : (w w' p p' : ℕ → Bool) → ((u : ℕ) → p' u ≡ p u) → ((u : ℕ) → p u ≡ true → w' u ≡ w u) → (us : List ℕ) → map (hold_by w') (filter p' us) ≡ map (hold_by w) (filter p us)
same_holds w w' p p' f g [] = refl
same_holds w w' p p' f g (u ∷ us) = go (p u) (f u) (g u) (same_holds w w' p p' f g us)
  where
    go : (a : Bool) → p' u ≡ a → (a ≡ true → w' u ≡ w u) → map (hold_by w') (filter p' us) ≡ map (hold_by w) (filter p us)
        → map (hold_by w') (cond (p' u) (u ∷ filter p' us) (filter p' us)) ≡ map (hold_by w) (cond a (u ∷ filter p us) (filter p us))
    go true e h ih = rw e (λ j. (let k : Hold = record { txn = record { 0 = u }; wrote = h refl j } in k) ∷ ih j)
    go false e h ih = rw e ih

last_off : (w p : ℕ → Bool) (m : ℕ) → p m ≡ false → (us : List ℕ) → map (hold_by w) (filter p (us ++ m ∷ [])) ≡ map (hold_by w) (filter p us)
last_off w p m off [] = rw off refl
last_off w p m off (u ∷ us) = go (p u) (last_off w p m off us)
  where
    go : (a : Bool) → map (hold_by w) (filter p (us ++ m ∷ [])) ≡ map (hold_by w) (filter p us) → map (hold_by w) (cond a (u ∷ filter p (us ++ m ∷ [])) (filter p (us ++ m ∷ []))) ≡ map (hold_by w)
        (cond a (u ∷ filter p us) (filter p us))
    go true ih = ap (λ (l : List Hold). hold_by w u ∷ l) ih
    go false ih = ih

-- what one more event changes in the state of each transaction
ends_done : (b d c a : Bool) → (b && not (d || c) && not a) ≡ (b && not c && not a && not d)
ends_done true true true a = refl
ends_done true true false true = refl
ends_done true true false false = refl
ends_done true false true a = refl
ends_done true false false true = refl
ends_done true false false false = refl
ends_done false d c a = refl

ends_gone : (b c d a : Bool) → (b && not c && not (d || a)) ≡ (b && not c && not a && not d)
ends_gone true true d a = refl
ends_gone true false true true = refl
ends_gone true false true false = refl
ends_gone true false false true = refl
ends_gone true false false false = refl
ends_gone false c d a = refl

unfinished_done : (P : List Event) (t : Txn) (u : ℕ) → unfinished (Done t ∷ P) u ≡ (unfinished P u && not (eqb u t.0))
unfinished_done P t u = unfinished-cons (Done t) P u ∙ ends_done (begun P u) (eqb t.0 u) (committed P u) (aborted P u)
    ∙ (unfold unfinished in ap (λ (b : Bool). unfinished P u && not b) (eqb_swap t.0 u))

unfinished_gone : (P : List Event) (t : Txn) (c : Cause) (u : ℕ) → unfinished (Gone t c ∷ P) u ≡ (unfinished P u && not (eqb u t.0))
unfinished_gone P t c u = unfinished-cons (Gone t c) P u ∙ ends_gone (begun P u) (committed P u) (eqb t.0 u) (aborted P u)
    ∙ (unfold unfinished in ap (λ (b : Bool). unfinished P u && not b) (eqb_swap t.0 u))

-- the order of three tests does not matter
moved_not : (a b c d : Bool) → (a && (b && d) && c) ≡ ((a && b && c) && d)
moved_not true true true true = refl
moved_not true true true false = refl
moved_not true true false true = refl
moved_not true true false false = refl
moved_not true false c true = refl
moved_not true false c false = refl
moved_not false b c d = refl

-- after t finishes, its holds are released
finished_holds : (S : Setup) (P : List Event) (n t : ℕ) (e : Event) (x : Cell) → begun_count (e ∷ P) ≡ begun_count P → ((u : ℕ) → on S (e ∷ P) n u ≡ on S P n u)
    → ((u : ℕ) → unfinished (e ∷ P) u ≡ (unfinished P u && not (eqb u t)))
    → ((u : ℕ) → wrote (e ∷ P) u x ≡ wrote P u x) → ((u : ℕ) → got (e ∷ P) u x ≡ got P u x) → holds_in S (e ∷ P) n x ≡ released t (holds_in S P n x)
unfolding holds txns
finished_holds S P n t e x c o f w g =
    (λ j. map (hold_by (λ u. w u j)) (filter (holds S (e ∷ P) n x) (numbers (c j))))
    ∙ passes_no_more t (λ u. wrote P u x) (holds S P n x) (holds S (e ∷ P) n x)
    (λ u. (λ j. o u j && f u j && (w u j || g u j)) ∙ moved_not (on S P n u) (unfinished P u) (wrote P u x || got P u x) (not (eqb u t))) (numbers (begun_count P))

-- one that does not hold x has no hold to release
pub released_off : (S : Setup) (P : List Event) (n : ℕ) (x : Cell) (t : ℕ) → holds S P n x t ≡ false → released t (holds_in S P n x) ≡ holds_in S P n x
released_off S P n x t off = sym (passes_no_more t (λ u. wrote P u x) (holds S P n x) (holds S P n x) (λ u. go u (holds S P n x u) refl (cases_eq u t)) (txns P))
  where
    go : (u : ℕ) (b : Bool) → holds S P n x u ≡ b → (u ≡ t) ⊎ (u ≢ t) → b ≡ (b && not (eqb u t))
    go u true h o = elim o [ inl e ↦ absurd (both_ways _ (ap (holds S P n x) e ∙ off) h) | inr ne ↦ sym (ap not (ne_eqb u t ne)) ]
    go u false h o = refl

-- a transaction that holds x has accessed it
pub holder_accessed : (S : Setup) (P : List Event) (n : ℕ) (x : Cell) (t : ℕ) → (wrote P t x || got P t x) ≡ false → holds S P n x t ≡ false
unfolding holds
holder_accessed S P n x t h = ap (λ (b : Bool). on S P n t && unfinished P t && b) h ∙ none (on S P n t) (unfinished P t)
  where
    none : (a b : Bool) → (a && b && false) ≡ false
    none true true = refl
    none true false = refl
    none false b = refl

done_holds : (S : Setup) (P : List Event) (n : ℕ) (t : Txn) (x : Cell) → holds_in S (Done t ∷ P) n x ≡ released t.0 (holds_in S P n x)
done_holds S P n t x = finished_holds S P n t.0 (Done t) x (unfold begun_count in refl) (λ u. unfold on in unfold spot_of in refl) (unfinished_done P t) (λ u. wrote-cons (Done t) P u x)
    (λ u. got-cons (Done t) P u x)

gone_holds : (S : Setup) (P : List Event) (n : ℕ) (t : Txn) (c : Cause) (x : Cell) → holds_in S (Gone t c ∷ P) n x ≡ released t.0 (holds_in S P n x)
gone_holds S P n t c x = finished_holds S P n t.0 (Gone t c) x (unfold begun_count in refl) (λ u. unfold on in unfold spot_of in refl) (unfinished_gone P t c) (λ u. wrote-cons (Gone t c) P u x)
    (λ u. got-cons (Gone t c) P u x)

-- the holds of x are the same after an event that changes none of them
kept_holds : (S : Setup) (P : List Event) (n : ℕ) (e : Event) (x : Cell) → begun_count (e ∷ P) ≡ begun_count P → ((u : ℕ) → holds S (e ∷ P) n x u ≡ holds S P n x u)
    → ((u : ℕ) → holds S P n x u ≡ true → wrote (e ∷ P) u x ≡ wrote P u x) → holds_in S (e ∷ P) n x ≡ holds_in S P n x
unfolding txns
kept_holds S P n e x c h w = ap (λ (m : ℕ). map (hold_of (e ∷ P) x) (filter (holds S (e ∷ P) n x) (numbers m))) c
    ∙ same_holds (λ u. wrote P u x) (λ u. wrote (e ∷ P) u x) (holds S P n x) (holds S (e ∷ P) n x) h w (numbers (begun_count P))

-- after t accesses x, the holds of x are those before it with this access
accessed_holds : (S : Setup) (P : List Event) (n : ℕ) (t : Txn) (wr : Bool) (e : Event) (x : Cell) → MayHold S P n t.0 → begun_count (e ∷ P) ≡ begun_count P
    → ((u : ℕ) → u ≢ t.0 → holds S (e ∷ P) n x u ≡ holds S P n x u)
    → ((u : ℕ) → u ≢ t.0 → wrote (e ∷ P) u x ≡ wrote P u x) → holds S (e ∷ P) n x t.0 ≡ true → wrote (e ∷ P) t.0 x ≡ (wr || wrote P t.0 x) → holds_in S (e ∷ P) n x ≡ accessed t wr (holds_in S P n x)
unfolding holds txns
accessed_holds S P n t wr e x m c h w here put =
    let us = numbers (begun_count P) in
    let i = In-numbers (begun_count P) t.0 m.some m.begun in
    let told : has_put t.0 (holds_in S P n x) ≡ wrote P t.0 x = put_told t.0 (λ u. wrote P u x) (holds S P n x) (λ q. and_from _ _ (and_from _ _ m.on m.unfinished) (or_left _ _ q)) us i in
    ap (λ (m : ℕ). map (hold_of (e ∷ P) x) (filter (holds S (e ∷ P) n x) (numbers m))) c
    ∙ passes_too t.0 (λ u. wrote P u x) (λ u. wrote (e ∷ P) u x) w (holds S P n x) (holds S (e ∷ P) n x) here h us (numbers_ascending (begun_count P)) i
    ∙ (λ j. put_by hold_number (let k : Hold = record { txn = t; wrote = (put ∙ ap (λ (b : Bool). wr || b) (sym told)) j } in k) (holds_in S P n x))

module _ (S : Setup) (P : List Event) (n : ℕ) (t : Txn) (m : MayHold S P n t.0) where
  pub got_here : (x : Cell) (w : Txn) (v : Option ℤ) → holds_in S (Got t x w v ∷ P) n x ≡ accessed t false (holds_in S P n x)
  unfolding begun_count on spot_of holds
  got_here x w v =
      let e : Event = Got t x w v in
      let unended = λ (u : ℕ). unfinished_same e P u refl refl refl in
      let puts = λ (u : ℕ). wrote-cons e P u x in
      let gets : (u : ℕ) → u ≢ t.0 → got (e ∷ P) u x ≡ got P u x = λ u ne. got-cons e P u x ∙ ap (λ (b : Bool). (b && same_cell x x) || got P u x) (ne_eqb t.0 u (λ q. ne (sym q))) in
      let mine : got (e ∷ P) t.0 x ≡ true = got-cons e P t.0 x ∙ or_left _ _ (and_from _ _ (eq-eqb t.0 t.0 refl) (same_itself x)) in
      accessed_holds S P n t false e x m refl (λ u ne j. on S P n u && unended u j && (puts u j || gets u ne j)) (λ u ne. puts u)
      (and_from _ _ (and_from _ _ m.on (unended t.0 ∙ m.unfinished)) (or_right _ _ mine)) (puts t.0)

  pub put_here : (x : Cell) (v : Option ℤ) → holds_in S (Put t x v ∷ P) n x ≡ accessed t true (holds_in S P n x)
  unfolding begun_count on spot_of holds
  put_here x v =
      let e : Event = Put t x v in
      let unended = λ (u : ℕ). unfinished_same e P u refl refl refl in
      let gets = λ (u : ℕ). got-cons e P u x in
      let puts : (u : ℕ) → u ≢ t.0 → wrote (e ∷ P) u x ≡ wrote P u x = λ u ne. wrote-cons e P u x ∙ ap (λ (b : Bool). (b && same_cell x x) || wrote P u x) (ne_eqb t.0 u (λ q. ne (sym q))) in
      let mine : wrote (e ∷ P) t.0 x ≡ true = wrote-cons e P t.0 x ∙ or_left _ _ (and_from _ _ (eq-eqb t.0 t.0 refl) (same_itself x)) in
      accessed_holds S P n t true e x m refl (λ u ne j. on S P n u && unended u j && (puts u ne j || gets u j)) puts
      (and_from _ _ (and_from _ _ m.on (unended t.0 ∙ m.unfinished)) (or_left _ _ mine)) mine

-- an access of another cell
and_false : (b c d : Bool) → c ≡ false → ((b && c) || d) ≡ d
and_false true c d e = ap (λ (c : Bool). c || d) e
and_false false c d e = refl

pub got_elsewhere : (S : Setup) (P : List Event) (n : ℕ) (t : Txn) (x y : Cell) (w : Txn) (v : Option ℤ) → same_cell x y ≡ false → holds_in S (Got t x w v ∷ P) n y ≡ holds_in S P n y
unfolding begun_count on spot_of holds
got_elsewhere S P n t x y w v o =
    let e : Event = Got t x w v in
    let unended = λ (u : ℕ). unfinished_same e P u refl refl refl in
    let puts = λ (u : ℕ). wrote-cons e P u y in
    let gets : (u : ℕ) → got (e ∷ P) u y ≡ got P u y = λ u. got-cons e P u y ∙ and_false (eqb t.0 u) (same_cell x y) (got P u y) o in
    kept_holds S P n e y refl (λ u j. on S P n u && unended u j && (puts u j || gets u j)) (λ u _. puts u)

pub put_elsewhere : (S : Setup) (P : List Event) (n : ℕ) (t : Txn) (x y : Cell) (v : Option ℤ) → same_cell x y ≡ false → holds_in S (Put t x v ∷ P) n y ≡ holds_in S P n y
unfolding begun_count on spot_of holds
put_elsewhere S P n t x y v o =
    let e : Event = Put t x v in
    let unended = λ (u : ℕ). unfinished_same e P u refl refl refl in
    let gets = λ (u : ℕ). got-cons e P u y in
    let puts : (u : ℕ) → wrote (e ∷ P) u y ≡ wrote P u y = λ u. wrote-cons e P u y ∙ and_false (eqb t.0 u) (same_cell x y) (wrote P u y) o in
    kept_holds S P n e y refl (λ u j. on S P n u && unended u j && (puts u j || gets u j)) (λ u _. puts u)

-- the book after one more event
module _ (b b' : Held) (S : Setup) (P : List Event) (n : ℕ) (t : Txn) (stood : HoldsOf b S P n) where
  pub stands_got : (x : Cell) (w : Txn) (v : Option ℤ) → MayHold S P n t.0 → shown b' x ≡ accessed t false (shown b x) → ((y : Cell) → same_cell x y ≡ false → shown b' y ≡ shown b y)
      → HoldsOf b' S (Got t x w v ∷ P) n
  stands_got x w v m here else = record {
    shows = λ y. elim (cases_Bool (same_cell x y)) [
      | inl e ↦ subst (λ (z : Cell). shown b' z ≡ holds_in S (Got t x w v ∷ P) n z) (same_cell-true x y e) (here ∙ ap (accessed t false) (stood.shows x) ∙ sym (got_here S P n t m x w v))
      | inr e ↦ else y e ∙ stood.shows y ∙ sym (got_elsewhere S P n t x y w v e)
    ];
  }

  pub stands_put : (x : Cell) (v : Option ℤ) → MayHold S P n t.0 → shown b' x ≡ accessed t true (shown b x) → ((y : Cell) → same_cell x y ≡ false → shown b' y ≡ shown b y)
      → HoldsOf b' S (Put t x v ∷ P) n
  stands_put x v m here else = record {
    shows = λ y. elim (cases_Bool (same_cell x y)) [
      | inl e ↦ subst (λ (z : Cell). shown b' z ≡ holds_in S (Put t x v ∷ P) n z) (same_cell-true x y e) (here ∙ ap (accessed t true) (stood.shows x) ∙ sym (put_here S P n t m x v))
      | inr e ↦ else y e ∙ stood.shows y ∙ sym (put_elsewhere S P n t x y v e)
    ];
  }

  pub stands_done : ((y : Cell) → shown b' y ≡ released t.0 (shown b y)) → HoldsOf b' S (Done t ∷ P) n
  stands_done f = record { shows = λ y. f y ∙ ap (released t.0) (stood.shows y) ∙ sym (done_holds S P n t y) }

  pub stands_gone : (c : Cause) → ((y : Cell) → shown b' y ≡ released t.0 (shown b y)) → HoldsOf b' S (Gone t c ∷ P) n
  stands_gone c f = record { shows = λ y. f y ∙ ap (released t.0) (stood.shows y) ∙ sym (gone_holds S P n t c y) }

-- an event that leaves all holds as they are
kept_inert : (S : Setup) (P : List Event) (n : ℕ) (e : Event) (x : Cell) → begun_count (e ∷ P) ≡ begun_count P → ((u : ℕ) → on S (e ∷ P) n u ≡ on S P n u)
    → ((u : ℕ) → unfinished (e ∷ P) u ≡ unfinished P u)
    → ((u : ℕ) → wrote (e ∷ P) u x ≡ wrote P u x) → ((u : ℕ) → got (e ∷ P) u x ≡ got P u x) → holds_in S (e ∷ P) n x ≡ holds_in S P n x
unfolding holds
kept_inert S P n e x c o f w g = kept_holds S P n e x c (λ u j. o u j && f u j && (w u j || g u j)) (λ u _. w u)

-- an event of a transaction that does not hold x, before or after it
kept_off : (S : Setup) (P : List Event) (n t : ℕ) (e : Event) (x : Cell) → begun_count (e ∷ P) ≡ begun_count P → holds S P n x t ≡ false → holds S (e ∷ P) n x t ≡ false
    → ((u : ℕ) → u ≢ t → holds S (e ∷ P) n x u ≡ holds S P n x u) → ((u : ℕ) → u ≢ t → wrote (e ∷ P) u x ≡ wrote P u x) → holds_in S (e ∷ P) n x ≡ holds_in S P n x
kept_off S P n t e x c before after h w = kept_holds S P n e x c
    (λ u. elim (cases_eq u t) [ inl q ↦ ap (holds S (e ∷ P) n x) q ∙ after ∙ sym (ap (holds S P n x) q ∙ before) | inr ne ↦ h u ne ])
    (λ u p. elim (cases_eq u t) [ inl q ↦ absurd (both_ways _ (ap (holds S P n x) q ∙ before) p) | inr ne ↦ w u ne ])

off_holds : (S : Setup) (H : List Event) (n : ℕ) (x : Cell) (u : ℕ) → on S H n u ≡ false → holds S H n x u ≡ false
unfolding holds
off_holds S H n x u e = ap (λ (b : Bool). b && unfinished H u && (wrote H u x || got H u x)) e

-- an event that changes no other transaction
others_same : (S : Setup) (P : List Event) (n t : ℕ) (e : Event) (x : Cell) → ((u : ℕ) → u ≢ t → on S (e ∷ P) n u ≡ on S P n u) → ((u : ℕ) → u ≢ t → unfinished (e ∷ P) u ≡ unfinished P u)
    → ((u : ℕ) → u ≢ t → wrote (e ∷ P) u x ≡ wrote P u x) → ((u : ℕ) → u ≢ t → got (e ∷ P) u x ≡ got P u x) → (u : ℕ) → u ≢ t → holds S (e ∷ P) n x u ≡ holds S P n x u
unfolding holds
others_same S P n t e x o f w g u ne = λ j. o u ne j && f u ne j && (w u ne j || g u ne j)

not_other : (t u : ℕ) → u ≢ t → eqb t u ≡ false
not_other t u ne = ne_eqb t u (λ q. ne (sym q))

-- a new transaction, which has not accessed x
began_holds : (S : Setup) (P : List Event) (n : ℕ) (t : Txn) (s : Session) (k : Kind) (i : ℕ) (x : Cell) → t.0 ≡ suc (begun_count P) → wrote P t.0 x ≡ false → got P t.0 x ≡ false
    → holds_in S (Began t s k i ∷ P) n x ≡ holds_in S P n x
unfolding begun_count numbers txns on spot_of
began_holds S P n t s k i x new put get =
    let e : Event = Began t s k i in
    let before : holds S P n x t.0 ≡ false = none P put get in
    let after : holds S (e ∷ P) n x t.0 ≡ false = none (e ∷ P) (wrote-cons e P t.0 x ∙ put) (got-cons e P t.0 x ∙ get) in
    let puts : (u : ℕ) → wrote (e ∷ P) u x ≡ wrote P u x = λ u. wrote-cons e P u x in
    let else : (u : ℕ) → u ≢ t.0 → holds S (e ∷ P) n x u ≡ holds S P n x u =
    others_same S P n t.0 e x (λ u ne. ap (λ (b : Bool). on_path S.tree n (cond b (record { kind = k; instance = i }) (spot_of P u))) (not_other t.0 u ne))
    (λ u ne. unfinished_same e P u (not_other t.0 u ne) refl refl) (λ u _. puts u) (λ u _. got-cons e P u x) in
    same_holds (λ u. wrote P u x) (λ u. wrote (e ∷ P) u x) (holds S P n x) (holds S (e ∷ P) n x)
    (λ u. elim (cases_eq u t.0) [ inl q ↦ ap (holds S (e ∷ P) n x) q ∙ after ∙ sym (ap (holds S P n x) q ∙ before) | inr ne ↦ else u ne ])
    (λ u _. puts u) (numbers (suc (begun_count P)))
    ∙ last_off (λ u. wrote P u x) (holds S P n x) (suc (begun_count P)) (ap (holds S P n x) (sym new) ∙ before) (numbers (begun_count P))
  where
    nobody : (a b : Bool) → (a && b && (false || false)) ≡ false
    nobody true true = refl
    nobody true false = refl
    nobody false b = refl

    none : (H : List Event) → wrote H t.0 x ≡ false → got H t.0 x ≡ false → holds S H n x t.0 ≡ false
    none H w g = unfold holds in (λ j. on S H n t.0 && unfinished H t.0 && (w j || g j)) ∙ nobody (on S H n t.0) (unfinished H t.0)

pub holds_left : (S : Setup) (P : List Event) (n : ℕ) (e : Event) → LeavesHolds S P n e → (x : Cell) → holds_in S (e ∷ P) n x ≡ holds_in S P n x
unfolding begun_count on spot_of
holds_left S P n (Ready t) h x = kept_inert S P n (Ready t) x refl (λ u. refl) (λ u. unfinished_same (Ready t) P u refl refl refl) (λ u. wrote-cons (Ready t) P u x) (λ u. got-cons (Ready t) P u x)
holds_left S P n (Told t) h x = kept_inert S P n (Told t) x refl (λ u. refl) (λ u. unfinished_same (Told t) P u refl refl refl) (λ u. wrote-cons (Told t) P u x) (λ u. got-cons (Told t) P u x)
holds_left S P n (Got t y w v) h x =
    let e : Event = Got t y w v in
    let puts : (u : ℕ) → wrote (e ∷ P) u x ≡ wrote P u x = λ u. wrote-cons e P u x in
    kept_off S P n t.0 e x refl (off_holds S P n x t.0 h) (off_holds S (e ∷ P) n x t.0 h)
    (others_same S P n t.0 e x (λ u _. refl) (λ u _. unfinished_same e P u refl refl refl) (λ u _. puts u)
    (λ u ne. got-cons e P u x ∙ ap (λ (b : Bool). (b && same_cell y x) || got P u x) (not_other t.0 u ne)))
    (λ u _. puts u)
holds_left S P n (Put t y v) h x =
    let e : Event = Put t y v in
    let puts : (u : ℕ) → u ≢ t.0 → wrote (e ∷ P) u x ≡ wrote P u x = λ u ne. wrote-cons e P u x ∙ ap (λ (b : Bool). (b && same_cell y x) || wrote P u x) (not_other t.0 u ne) in
    kept_off S P n t.0 e x refl (off_holds S P n x t.0 h) (off_holds S (e ∷ P) n x t.0 h)
    (others_same S P n t.0 e x (λ u _. refl) (λ u _. unfinished_same e P u refl refl refl) puts (λ u _. got-cons e P u x))
    puts
holds_left S P n (Done t) h x =
    let e : Event = Done t in
    let puts : (u : ℕ) → wrote (e ∷ P) u x ≡ wrote P u x = λ u. wrote-cons e P u x in
    kept_off S P n t.0 e x refl (off_holds S P n x t.0 h) (off_holds S (e ∷ P) n x t.0 h)
    (others_same S P n t.0 e x (λ u _. refl) (λ u ne. unfinished_same e P u refl (not_other t.0 u ne) refl) (λ u _. puts u) (λ u _. got-cons e P u x))
    (λ u _. puts u)
holds_left S P n (Gone t c) h x =
    let e : Event = Gone t c in
    let puts : (u : ℕ) → wrote (e ∷ P) u x ≡ wrote P u x = λ u. wrote-cons e P u x in
    kept_off S P n t.0 e x refl (off_holds S P n x t.0 h) (off_holds S (e ∷ P) n x t.0 h)
    (others_same S P n t.0 e x (λ u _. refl) (λ u ne. unfinished_same e P u refl refl (not_other t.0 u ne)) (λ u _. puts u) (λ u _. got-cons e P u x))
    (λ u _. puts u)
holds_left S P n (Began t s k i) h x = began_holds S P n t s k i x h.0 (h.1 x).0 (h.1 x).1

-- if an event leaves the holds, a book that is right for the history before it is right for the history with it
pub stands_left : (b : Held) (S : Setup) (P : List Event) (n : ℕ) (e : Event) → LeavesHolds S P n e → HoldsOf b S P n → HoldsOf b S (e ∷ P) n
stands_left b S P n e l stood = record { shows = λ x. stood.shows x ∙ sym (holds_left S P n e l x) }
