-- A transaction numbered below the horizon of another was in a batch that closed before the other's batch started.
use Rattle.std.proofs.Common.{◌≡◌, ℕ, zero, suc, ◌<◌, ◌≤◌, Bool, true, false, cond, eqb, List, [], ◌∷◌, length, get_or, map, Option, Some, None, ◌∙◌, ap, subst₂, inl, inr, arith, refl, eq-eqb}
use Rattle.std.specs.List.{list_any}
use Rattle.std.proofs.lemmas.Bool.{cases_lt, or_left, or_right}
use Rattle.teb_rules.specs.declared.history.Event.{Event}
use Rattle.teb_rules.specs.history.Ascending.{AllAbove, IsAscendingBy}
use Rattle.teb_rules.specs.history.Phases.{txns}
use Rattle.teb_rules.specs.history.Positions.{came}
use Rattle.teb_rules.specs.Setup.{Setup}
use Rattle.teb_rules.specs.Serializes.{In}
use Rattle.teb_rules.specs.Tree.{on}
use Rattle.teb_rules.specs.Batches.{start, close}
use Rattle.batch_book.specs.declared.members.Member.{Member}
use Rattle.batch_book.specs.declared.members.Batch.{Batch}
use Rattle.batch_book.specs.Book.{Row, Book}
use Rattle.batch_book.specs.Histories.{BatchesOf, ClosedBelow, closing, members, row_of}
use Rattle.batch_book.specs.Fields.{batch_at, member_number, row_shown}
use Rattle.batch_book.specs.Settled.{no_member, IsClosedBefore, IsKept}
use Rattle.batch_book.proofs.Numbered.{txns-In}
use Rattle.teb_rules.proofs.lemmas.laws.Serial.{In-filter}

above_at : (n : ℕ) (J : List Member) (i : ℕ) → AllAbove member_number n J → i < length J → n < member_number (get_or J i no_member)
above_at n [] i h l = absurd (omega arith)
above_at n (m ∷ J) zero h l = h.0
above_at n (m ∷ J) (suc i) h l = above_at n J i h.1 (omega arith)

-- in an ascending list, a later member has no smaller number
ascends : (J : List Member) (i j : ℕ) → IsAscendingBy member_number J → i ≤ j → j < length J → member_number (get_or J i no_member) ≤ member_number (get_or J j no_member)
ascends [] i j h k l = absurd (omega arith)
ascends (m ∷ J) zero zero h k l = omega arith
ascends (m ∷ J) zero (suc j) h k l = let a = above_at m.txn.0 J j h.0 (omega arith) in omega arith
ascends (m ∷ J) (suc i) zero h k l = absurd (omega arith)
ascends (m ∷ J) (suc i) (suc j) h k l = ascends J i j h.1 (omega arith) (omega arith)

-- the index of a member's row
listed : (B : List Batch) (f : ℕ → Row) (J : List Member) (us : List ℕ) (u : ℕ) → map (row_shown B) J ≡ map f us → In u us → (j : ℕ) × (j < length J) × (row_shown B (get_or J j no_member) ≡ f u)
listed B f J [] u e i = absurd i
listed B f [] (v ∷ us) u e i = absurd (cc)
listed B f (m ∷ J) (v ∷ us) u e i =
    let a : row_shown B m ≡ f v = cc in
    let b : map (row_shown B) J ≡ map f us = cc in
    elim i [
      | inl q ↦ (0, omega arith, a ∙ ap f q)
      | inr k ↦ (let r = listed B f J us u b k in (suc r.0, (let z = r.1 in omega arith), r.2))
    ]

-- a member of the list has joined
pub joined_at : (B : List Batch) (J : List Member) (i : ℕ) → i < length J → list_any (λ (r : Row). eqb r.txn (get_or J i no_member).txn.0) (map (row_shown B) J) ≡ true
joined_at B [] i l = absurd (omega arith)
joined_at B (m ∷ J) zero l = or_left (eqb m.txn.0 m.txn.0) _ (eq-eqb m.txn.0 m.txn.0 refl)
joined_at B (m ∷ J) (suc i) l = or_right (eqb m.txn.0 (get_or J i no_member).txn.0) _ (joined_at B J i (omega arith))

closed_before : (S : Setup) (H : List Event) (n u i : ℕ) → IsClosedBefore i (closing S H n u) → close S H n u < i
unfolding closing
closed_before S H n u i h = go (came H (close S H n u)) h
  where
    go : (b : Bool) → IsClosedBefore i (cond b (Some (close S H n u)) None) → close S H n u < i
    go true h = h
    go false h = absurd h

pub closed_below : (b : Book) (J R : List Member) (B : List Batch) (S : Setup) (H : List Event) (n t : ℕ) (m : Member) → IsKept J R B → map (row_shown B) J ≡ b.rows → BatchesOf b S H n
    → m.batch < length B → row_shown B m ≡ row_of S H n t →
    ClosedBelow S H n t (get_or J (batch_at B m).settled no_member).txn.0
closed_below b J R B S H n t m k shown h w r u l bu ou =
    let i = In-filter (on S H n) u (txns H) (txns-In H u h.numbered bu) ou in
    let p = listed B (row_of S H n) J (members S H n) u (shown ∙ h.rows) i in
    let number : (get_or J p.0 no_member).txn.0 ≡ u = ap (λ (z : Row). z.txn) p.2 in
    let less : p.0 < (batch_at B m).settled = elim (cases_lt p.0 (batch_at B m).settled) [
      | inl q ↦ q
      | inr q ↦ (let z = ascends J (batch_at B m).settled p.0 k.held.ascending q p.1 in absurd (omega arith))
    ] in
    closed_before S H n u (start S H n t)
    (subst₂ (λ (s : ℕ) (c : Option ℕ). IsClosedBefore s c) (ap (λ (z : Row). z.start) r) (ap (λ (z : Row). z.close) p.2) (k.settled.closed m.batch w p.0 less))
