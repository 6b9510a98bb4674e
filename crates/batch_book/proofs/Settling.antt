-- What each batch records about the batches that closed before it started, when a member joins and when one finishes.
use Rattle.std.proofs.Common.{◌≡◌, ℕ, ◌+◌, ◌<◌, ◌≤◌, List, [], ◌∷◌, ◌++◌, length, get_or, set, Some, None, refl, sym, ◌∙◌, ap, subst, inl, inr, arith, length-append}
use Rattle.std.proofs.Math.ListN.{length-set}
use Rattle.std.specs.List.{All}
use Rattle.std.proofs.lemmas.Bool.{cases_eq, cases_lt}
use Rattle.std.proofs.lemmas.List.{get_or-set_other, get_or_append_left}
use Rattle.std.proofs.lemmas.List.Elements.{All-get_or}
use Rattle.batch_book.specs.declared.members.Member.{Member}
use Rattle.batch_book.specs.declared.members.Batch.{Batch}
use Rattle.batch_book.specs.Fields.{no_batch, batch_at}
use Rattle.batch_book.specs.Settled.{no_member, IsClosedBefore, AreClosed, IsSettled}
use Rattle.batch_book.proofs.Entering.{set_keeps}

module _ (J : List Member) (B : List Batch) where
  -- a change that keeps each `settled` and `start`, and keeps closed batches closed, preserves the invariant
  carried : (C : List Batch) (n m : ℕ) → n ≤ m → length C ≡ length B → ((i : ℕ) → (get_or C i no_batch).settled ≡ (get_or B i no_batch).settled)
      → ((i : ℕ) → (get_or C i no_batch).start ≡ (get_or B i no_batch).start) →
      ((i p : ℕ) → IsClosedBefore p (get_or B i no_batch).close → IsClosedBefore p (get_or C i no_batch).close) → IsSettled J B n → IsSettled J C m
  carried C n m l e f g k h = record {
    fewer = λ i p. (let z = h.fewer i (omega arith) in let y = f i in omega arith);
    closed = λ i p j q. subst (λ (s : ℕ). IsClosedBefore s (batch_at C (get_or J j no_member)).close) (sym (g i))
        (k (get_or J j no_member).batch (get_or B i no_batch).start (h.closed i (omega arith) j (let y = f i in omega arith)));
  }

  -- a batch admits one more member
  pub settled_more : (b : ℕ) (y : Batch) → b < length B → y ≡ get_or B b no_batch → IsSettled J B (length J) →
      IsSettled J (set B b (record { side = y.side; start = y.start; close = y.close; admitted = y.admitted + 1; settled = y.settled })) (length J + 1)
  settled_more b y l q h =
      let x : Batch = record { side = y.side; start = y.start; close = y.close; admitted = y.admitted + 1; settled = y.settled } in
      carried (set B b x) (length J) (length J + 1) (omega arith) (length-set B b x)
      (set_keeps (λ (z : Batch). z.settled) B b x l (ap (λ (z : Batch). z.settled) q))
      (set_keeps (λ (z : Batch). z.start) B b x l (ap (λ (z : Batch). z.start) q))
      (λ i p c. subst (IsClosedBefore p) (sym (set_keeps (λ (z : Batch). z.close) B b x l (ap (λ (z : Batch). z.close) q) i)) c)
      h

  -- an open batch closes
  pub settled_closed : (b at : ℕ) (y : Batch) → b < length B → y ≡ get_or B b no_batch → (get_or B b no_batch).close ≡ None → IsSettled J B (length J) →
      IsSettled J (set B b (record { side = y.side; start = y.start; close = Some at; admitted = y.admitted; settled = y.settled })) (length J)
  settled_closed b at y l q o h =
      let x : Batch = record { side = y.side; start = y.start; close = Some at; admitted = y.admitted; settled = y.settled } in
      carried (set B b x) (length J) (length J) (omega arith) (length-set B b x)
      (set_keeps (λ (z : Batch). z.settled) B b x l (ap (λ (z : Batch). z.settled) q))
      (set_keeps (λ (z : Batch). z.start) B b x l (ap (λ (z : Batch). z.start) q))
      (λ i p c. elim (cases_eq i b) [
        | inl e ↦ absurd (subst (IsClosedBefore p) (ap (λ (k : ℕ). (get_or B k no_batch).close) e ∙ o) c)
        | inr e ↦ subst (λ (z : Batch). IsClosedBefore p z.close) (sym (get_or-set_other B b i x no_batch e)) c
      ])
      h

  -- a batch opens
  pub settled_opened : (x : Batch) → All (λ m. m.batch < length B) J → x.settled ≤ length J → AreClosed J B x.start x.settled → IsSettled J B (length J) → IsSettled J (B ++ x ∷ []) (length J + 1)
  settled_opened x w few known h = record {
    fewer = λ k p. elim (cases_lt k (length B)) [
      | inl r ↦ subst (λ (z : Batch). z.settled < length J + 1) (sym (left k r)) (let z = h.fewer k r in omega arith)
      | inr r ↦ subst (λ (z : Batch). z.settled < length J + 1) (sym (own k r p)) (omega arith)
    ];
    closed = λ k p j q. elim (cases_lt k (length B)) [
      | inl r ↦ (let s : j < (get_or B k no_batch).settled = subst (λ (z : Batch). j < z.settled) (left k r) q in
          let z = h.fewer k r in
          subst (λ (z : Batch). IsClosedBefore z.start (batch_at (B ++ x ∷ []) (get_or J j no_member)).close) (sym (left k r)) (there _ j (omega arith) (h.closed k r j s)))
      | inr r ↦ (let s : j < x.settled = subst (λ (z : Batch). j < z.settled) (own k r p) q in
          subst (λ (z : Batch). IsClosedBefore z.start (batch_at (B ++ x ∷ []) (get_or J j no_member)).close) (sym (own k r p)) (there _ j (omega arith) (known j s)))
    ];
  }
    where
      left : (k : ℕ) → k < length B → get_or (B ++ x ∷ []) k no_batch ≡ get_or B k no_batch
      left k r = get_or_append_left B (x ∷ []) no_batch k r

      last_one : (B : List Batch) → get_or (B ++ x ∷ []) (length B) no_batch ≡ x
      last_one [] = refl
      last_one (y ∷ B) = last_one B

      own : (k : ℕ) → length B ≤ k → k < length (B ++ x ∷ []) → get_or (B ++ x ∷ []) k no_batch ≡ x
      own k r p = let e : k ≡ length B = omega (arith, length-append B (x ∷ [])) in ap (λ (i : ℕ). get_or (B ++ x ∷ []) i no_batch) e ∙ last_one B

      there : (s j : ℕ) → j < length J → IsClosedBefore s (batch_at B (get_or J j no_member)).close → IsClosedBefore s (batch_at (B ++ x ∷ []) (get_or J j no_member)).close
      there s j r c = subst (λ (z : Batch). IsClosedBefore s z.close) (sym (left (get_or J j no_member).batch (All-get_or (λ (m : Member). m.batch < length B) J j no_member r w))) c

  -- the member of the new batch has joined
  pub settled_joined : (t : Member) → IsSettled J B (length J + 1) → IsSettled (J ++ t ∷ []) B (length (J ++ t ∷ []))
  settled_joined t h = record {
    fewer = λ k p. (let z = h.fewer k p in omega (arith, length-append J (t ∷ [])));
    closed = λ k p j q. (let z = h.fewer k p in let l : j < length J = omega arith in
        subst (λ (m : Member). IsClosedBefore (get_or B k no_batch).start (batch_at B m).close) (sym (get_or_append_left J (t ∷ []) no_member j l)) (h.closed k p j q));
  }

-- no batch has opened
pub settled_none : (J : List Member) (B : List Batch) → B ≡ [] → IsSettled J B (length J)
settled_none J B e = subst (λ (C : List Batch). IsSettled J C (length J)) (sym e) (record { fewer = λ k p. absurd (omega arith); closed = λ k p. absurd (omega arith) })
