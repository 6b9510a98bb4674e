-- A transaction that blocks an access is found among the holders of its cell.
use Rattle.std.proofs.Common.{◌≡◌, ℕ, zero, suc, ◌+◌, ◌<◌, ◌≤◌, Bool, true, false, cond, ◌||◌, ◌&&◌, List, [], ◌∷◌, length}
use Rattle.std.proofs.Common.{drop, map, filter, find, get_or, Option, Some, None, refl, sym, ◌∙◌, ap, arith, inl, inr}
use Rattle.std.specs.Option.{option_map}
use Rattle.std.proofs.lemmas.Bool.{and_parts, and_from, or_cases, or_left, or_right, both_ways}
use Rattle.std.proofs.Math.Seq.{drop-cons}
use Rattle.teb_rules.specs.declared.names.Txn.{Txn}
use Rattle.teb_rules.specs.declared.names.Cell.{Cell}
use Rattle.teb_rules.specs.declared.history.Event.{Event}
use Rattle.teb_rules.specs.history.Phases.{txns, unfinished}
use Rattle.teb_rules.specs.history.Accesses.{wrote, got}
use Rattle.teb_rules.specs.Setup.{Setup}
use Rattle.teb_rules.specs.Tree.{meets}
use Rattle.teb_rules.specs.Controls.{blocks}
use Rattle.teb_rules.proofs.lemmas.laws.Nodes.{meets_parts}
use Rattle.phase_api.specs.declared.facts.Facts.{Facts}
use Rattle.phase_api.specs.FactsView.{IsOrderly, IsTyped, setup_of, events_of}
use Rattle.hold_book.specs.declared.Hold.{Hold}
use Rattle.hold_book.specs.Holders.{holds, hold_of, holds_in}
use Rattle.access_conflicts.specs.Blockers.{in_the_way}
use Rattle.access_conflicts.specs.Waits.{some_txn}
use Rattle.access_conflicts.proofs.Orderly.{unfinished_begun}
use Rattle.access_conflicts.proofs.Noting.{typed_now}

-- the transaction of the hold that was found, if any
abbrev pub holder : Option Hold → Option Txn
holder o = option_map (λ h. h.txn) o

held_parts : (S : Setup) (H : List Event) (n : ℕ) (x : Cell) (u : ℕ) → holds S H n x u ≡ true → (unfinished H u ≡ true) × ((wrote H u x || got H u x) ≡ true)
unfolding holds
held_parts S H n x u h = let p = and_parts _ _ h in ((and_parts _ _ p.0).1, p.1)

same_test : (w g m write : Bool) → (w || g) ≡ true → (m && (w || (write && g))) ≡ ((write || w) && m)
same_test true g true true h = refl
same_test true g true false h = refl
same_test true g false true h = refl
same_test true g false false h = refl
same_test false true true true h = refl
same_test false true true false h = refl
same_test false true false true h = refl
same_test false true false false h = refl
same_test false false m write h = absurd (cc)

-- a holder blocks if and only if its hold is in the way
pub blocks_held : (S : Setup) (H : List Event) (n t : ℕ) (x : Cell) (write : Bool) (u : ℕ) → holds S H n x u ≡ true → blocks S H n t x write u ≡ in_the_way S H n t write (hold_of H x u)
unfolding blocks
blocks_held S H n t x write u h =
    let p = held_parts S H n x u h in
    ap (λ (b : Bool). b && meets S H n t u && (wrote H u x || (write && got H u x))) p.0 ∙ same_test (wrote H u x) (got H u x) (meets S H n t u) write p.1

-- a transaction that blocks is a holder
pub blocks_holds : (S : Setup) (H : List Event) (n t : ℕ) (x : Cell) (write : Bool) (u : ℕ) → blocks S H n t x write u ≡ true → holds S H n x u ≡ true
unfolding blocks holds
blocks_holds S H n t x write u h =
    let p = and_parts _ _ h in
    let q = and_parts _ _ p.0 in
    and_from _ _ (and_from _ _ (meets_parts S H n t u q.1).1 q.0)
    (elim (or_cases (wrote H u x) (write && got H u x) p.1) [ inl w ↦ or_left (wrote H u x) (got H u x) w | inr g ↦ or_right (wrote H u x) (got H u x) (and_parts _ _ g).1 ])

module _ (S : Setup) (H : List Event) (n : ℕ) (x : Cell) where
  -- if only holders pass a test and their holds decide it, a search among the holds finds the same transaction
  module _ (q : ℕ → Bool) (p : Hold → Bool) (only : (u : ℕ) → q u ≡ true → holds S H n x u ≡ true) (same : (u : ℕ) → holds S H n x u ≡ true → q u ≡ p (hold_of H x u)) where
    found_in : (us : List ℕ) → holder (find p (map (hold_of H x) (filter (holds S H n x) us))) ≡ some_txn (find q us)
    found_in [] = refl
    found_in (u ∷ us) = go (holds S H n x u) refl (q u) refl (found_in us)
      where
        go : (a : Bool) → holds S H n x u ≡ a → (b : Bool) → q u ≡ b → holder (find p (map (hold_of H x) (filter (holds S H n x) us))) ≡ some_txn (find q us)
            → holder (find p (map (hold_of H x) (cond a (u ∷ filter (holds S H n x) us) (filter (holds S H n x) us)))) ≡ some_txn (cond b (Some u) (find q us))
        go true e true f ih = rw (sym (same u e) ∙ f) refl
        go true e false f ih = rw (sym (same u e) ∙ f) ih
        go false e true f ih = absurd (both_ways _ e (only u f))
        go false e false f ih = ih

    pub found_among_holders : holder (find p (holds_in S H n x)) ≡ some_txn (find q (txns H))
    found_among_holders = found_in (txns H)

  -- each hold belongs to an unfinished transaction
  held_at : (us : List ℕ) (i : ℕ) (d : Hold) → i < length (map (hold_of H x) (filter (holds S H n x) us)) → unfinished H (get_or (map (hold_of H x) (filter (holds S H n x) us)) i d).txn.0 ≡ true
  held_at [] i d l = absurd (omega arith)
  held_at (u ∷ us) i d l = go (holds S H n x u) refl i (held_at us) l
    where
      go : (a : Bool) → holds S H n x u ≡ a → (i : ℕ)
          → ((j : ℕ) (d : Hold) → j < length (map (hold_of H x) (filter (holds S H n x) us)) → unfinished H (get_or (map (hold_of H x) (filter (holds S H n x) us)) j d).txn.0 ≡ true)
          → i < length (map (hold_of H x) (cond a (u ∷ filter (holds S H n x) us) (filter (holds S H n x) us)))
          → unfinished H (get_or (map (hold_of H x) (cond a (u ∷ filter (holds S H n x) us) (filter (holds S H n x) us))) i d).txn.0 ≡ true
      go true e zero ih l = (held_parts S H n x u e).0
      go true e (suc j) ih l = ih j d (omega arith)
      go false e i ih l = ih i d l

  pub held_unfinished : (i : ℕ) (d : Hold) → i < length (holds_in S H n x) → unfinished H (get_or (holds_in S H n x) i d).txn.0 ≡ true
  held_unfinished i d l = held_at (txns H) i d l

-- the transaction of a hold has begun and has a type of the tree
pub held_typed : (f : Facts) (n : ℕ) (x : Cell) (hs : List Hold) (i : ℕ) (d : Hold) → IsOrderly (setup_of f) (events_of f) → hs ≡ holds_in (setup_of f) (events_of f) n x → i < length hs
    → IsTyped f (get_or hs i d).txn.0
held_typed f n x hs i d o e l =
    let there : i < length (holds_in (setup_of f) (events_of f) n x) = omega (arith, ap (λ (l : List Hold). length l) e) in
    let open_ : unfinished (events_of f) (get_or hs i d).txn.0 ≡ true = ap (λ (l : List Hold). unfinished (events_of f) (get_or l i d).txn.0) e
    ∙ held_unfinished (setup_of f) (events_of f) n x i d there in
    typed_now f (get_or hs i d).txn.0 o (unfinished_begun (events_of f) (get_or hs i d).txn.0 open_)

-- a linear search for the first element that passes
module _ {A : Type 0} (p : A → Bool) (hs : List A) where
  pub find_here : (i : ℕ) (d : A) → i < length hs → p (get_or hs i d) ≡ true → find p (drop i hs) ≡ find p hs → Some (get_or hs i d) ≡ find p hs
  find_here i d l e f = sym (ap (find p) (drop-cons hs i d l) ∙ ap (λ (b : Bool). cond b (Some (get_or hs i d)) (find p (drop (suc i) hs))) e) ∙ f

  pub find_next : (i : ℕ) (d : A) → i < length hs → p (get_or hs i d) ≡ false → find p (drop i hs) ≡ find p hs → find p (drop (i + 1) hs) ≡ find p hs
  find_next i d l e f =
      let n : suc i ≡ i + 1 = omega arith in
      ap (λ (k : ℕ). find p (drop k hs)) (sym n) ∙ sym (ap (find p) (drop-cons hs i d l) ∙ ap (λ (b : Bool). cond b (Some (get_or hs i d)) (find p (drop (suc i) hs))) e) ∙ f

  pub find_end : (i : ℕ) → length hs ≤ i → find p (drop i hs) ≡ find p hs → None ≡ find p hs
  find_end i l f = sym (ap (find p) (drop_end hs i l)) ∙ f
    where
      drop_end : (xs : List A) (i : ℕ) → length xs ≤ i → drop i xs ≡ []
      drop_end [] zero l = refl
      drop_end [] (suc i) l = refl
      drop_end (x ∷ xs) zero l = absurd (omega arith)
      drop_end (x ∷ xs) (suc i) l = drop_end xs i (omega arith)
