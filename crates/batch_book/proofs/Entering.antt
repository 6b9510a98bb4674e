-- One more member in a book.
use Rattle.std.proofs.Common.{◌≡◌, ◌≢◌, ℕ, suc, ◌+◌, ◌<◌, ◌≤◌, Bool, true, false, cond, eqb, leb, List, [], ◌∷◌, ◌++◌, length, get_or}
use Rattle.std.proofs.Common.{set, map, find, Some, None, refl, sym, ◌∙◌, ap, subst, inl, inr, arith, length-append, add-one, eq-eqb}
use Rattle.std.proofs.Math.ListN.{length-set}
use Rattle.std.specs.List.{All}
use Rattle.std.proofs.lemmas.Bool.{cases_Bool, cases_eq, both_ways, eqb-true}
use Rattle.std.proofs.lemmas.List.{get_or-set_same, get_or-set_other, get_or_append_left, get_or_default, map-append}
use Rattle.std.proofs.lemmas.List.Elements.{All-weaker, All-push}
use Rattle.batch_book.specs.declared.members.Member.{Member}
use Rattle.batch_book.specs.declared.members.Batch.{Batch}
use Rattle.batch_book.specs.Book.{full_on, start_on, admitted_on, admit, rows_joined, running_joined, AllBelow}
use Rattle.batch_book.specs.Fields.{no_batch, batch_at, member_number, row_shown, running_shown, Has, IsHeld, Entered}
use Rattle.batch_book.proofs.Elements.{Has-push_cases, Has-append_left, Has-push, found_Has, unfound_Has, All-Has, ascending_push}
use Rattle.batch_book.proofs.Idle.{row_path, running_path}

-- a write that keeps a field of a batch keeps that field of all batches
pub set_keeps : {Y : Type 0} (f : Batch → Y) (B : List Batch) (b : ℕ) (x : Batch) → b < length B → f x ≡ f (get_or B b no_batch) → (i : ℕ) → f (get_or (set B b x) i no_batch) ≡ f (get_or B i no_batch)
set_keeps f B b x l e i = elim (cases_eq i b) [
  | inl q ↦ rw q (ap f (get_or-set_same B b x no_batch l) ∙ e)
  | inr q ↦ ap f (get_or-set_other B b i x no_batch q)
]

module _ (B : List Batch) (s : ℕ) where
  abbrev on_side : Member → Bool
  on_side m = eqb (batch_at B m).side s

  found_start : (R : List Member) (first : Member) (at : ℕ) → find on_side R ≡ Some first → start_on (map (running_shown B) R) s at ≡ (batch_at B first).start
  found_start [] first at h = absurd (cc)
  found_start (m ∷ R) first at h = elim (cases_Bool (on_side m)) [
    | inl t ↦ rw t (let q : Some m ≡ Some first = rw t at h in let r : m ≡ first = cc in ap (λ (o : Member). (batch_at B o).start) r)
    | inr t ↦ rw t (found_start R first at (rw t at h))
  ]

  found_admitted : (R : List Member) (first : Member) → find on_side R ≡ Some first → admitted_on (map (running_shown B) R) s ≡ (batch_at B first).admitted
  found_admitted [] first h = absurd (cc)
  found_admitted (m ∷ R) first h = elim (cases_Bool (on_side m)) [
    | inl t ↦ rw t (let q : Some m ≡ Some first = rw t at h in let r : m ≡ first = cc in ap (λ (o : Member). (batch_at B o).admitted) r)
    | inr t ↦ rw t (found_admitted R first (rw t at h))
  ]

  unfound_start : (R : List Member) (at : ℕ) → find on_side R ≡ None → start_on (map (running_shown B) R) s at ≡ at
  unfound_start [] at h = refl
  unfound_start (m ∷ R) at h = elim (cases_Bool (on_side m)) [
    | inl t ↦ absurd (let q : Some m ≡ None = rw t at h in cc)
    | inr t ↦ rw t (unfound_start R at (rw t at h))
  ]

  unfound_admitted : (R : List Member) → find on_side R ≡ None → admitted_on (map (running_shown B) R) s ≡ 0
  unfound_admitted [] h = refl
  unfound_admitted (m ∷ R) h = elim (cases_Bool (on_side m)) [
    | inl t ↦ absurd (let q : Some m ≡ None = rw t at h in cc)
    | inr t ↦ rw t (unfound_admitted R (rw t at h))
  ]

  -- if the side has a running member, the batch of the first one says whether the side is full
  pub found_full : (R : List Member) (first : Member) (size : ℕ) → find on_side R ≡ Some first → full_on size s (map (running_shown B) R) ≡ cond (leb size (batch_at B first).admitted)
      (Some first.txn.0) None
  found_full [] first size h = absurd (cc)
  found_full (m ∷ R) first size h = elim (cases_Bool (on_side m)) [
    | inl t ↦ rw t (let q : Some m ≡ Some first = rw t at h in let r : m ≡ first = cc in ap (λ (o : Member). cond (leb size (batch_at B o).admitted) (Some o.txn.0) None) r)
    | inr t ↦ rw t (found_full R first size (rw t at h))
  ]

  pub unfound_full : (R : List Member) (size : ℕ) → find on_side R ≡ None → full_on size s (map (running_shown B) R) ≡ None
  unfound_full [] size h = refl
  unfound_full (m ∷ R) size h = elim (cases_Bool (on_side m)) [
    | inl t ↦ absurd (let q : Some m ≡ None = rw t at h in cc)
    | inr t ↦ rw t (unfound_full R size (rw t at h))
  ]

  module _ (R : List Member) (w : All (λ m. m.batch < length B) R) where
    -- the side has an open batch: the member joins it
    pub entered_first : (first : Member) (at : ℕ) (y : Batch) → find on_side R ≡ Some first → y ≡ get_or B first.batch y → ((m : Member) → Has m R → (batch_at B m).close ≡ None) →
        ((m o : Member) → Has m R → Has o R → (batch_at B m).side ≡ (batch_at B o).side → m.batch ≡ o.batch) →
        Entered R B (set B first.batch (record { side = y.side; start = y.start; close = y.close; admitted = y.admitted + 1; settled = y.settled })) s at first.batch
    entered_first first at y h is unclosed one =
        let f = found_Has on_side first R h in
        let l = All-Has (λ (m : Member). m.batch < length B) first R w f.0 in
        let x : Batch = record { side = y.side; start = y.start; close = y.close; admitted = y.admitted + 1; settled = y.settled } in
        let q : y ≡ batch_at B first = is ∙ get_or_default B first.batch y no_batch l in
        let sd : (batch_at B first).side ≡ s = eqb-true _ _ f.1 in
        let here = get_or-set_same B first.batch x no_batch l in
        record {
          within = rw (length-set B first.batch x) l;
          longer = rw (length-set B first.batch x) (omega arith);
          side = λ m k. set_keeps (λ (z : Batch). z.side) B first.batch x l (ap (λ (z : Batch). z.side) q) m.batch;
          start = λ m k. set_keeps (λ (z : Batch). z.start) B first.batch x l (ap (λ (z : Batch). z.start) q) m.batch;
          close = λ m k. set_keeps (λ (z : Batch). z.close) B first.batch x l (ap (λ (z : Batch). z.close) q) m.batch;
          admitted = λ m k. elim (cases_Bool (on_side m)) [
            | inl t ↦ (let e = one m first k f.0 (eqb-true _ _ t ∙ sym sd) in
                rw (t, e) (ap (λ (z : Batch). z.admitted) here ∙ add-one y.admitted ∙ ap (λ (z : Batch). suc z.admitted) q))
            | inr t ↦ (let ne : m.batch ≢ first.batch = (λ e. both_ways _ t (eq-eqb _ _ (ap (λ (i : ℕ). (get_or B i no_batch).side) e ∙ sd))) in
                rw t (ap (λ (z : Batch). z.admitted) (get_or-set_other B first.batch m.batch x no_batch ne)))
          ];
          mine = λ m k e. one m first k f.0 (e ∙ sym sd);
          own_side = ap (λ (z : Batch). z.side) (here) ∙ ap (λ (z : Batch). z.side) q ∙ sd;
          own_start = ap (λ (z : Batch). z.start) here ∙ ap (λ (z : Batch). z.start) q ∙ sym (found_start R first at h);
          own_close = ap (λ (z : Batch). z.close) here ∙ ap (λ (z : Batch). z.close) q ∙ unclosed first f.0;
          own_admitted = ap (λ (z : Batch). z.admitted) here ∙ add-one y.admitted ∙ ap (λ (z : Batch). suc z.admitted) q ∙ ap (λ (k : ℕ). suc k) (sym (found_admitted R first h));
        }

    -- the side has no open batch: a new one is appended
    pub entered_none : (at k : ℕ) → find on_side R ≡ None → Entered R B (B ++ record { side = s; start = at; close = None; admitted = 1; settled = k } ∷ []) s at (length B)
    entered_none at k h =
        let x : Batch = record { side = s; start = at; close = None; admitted = 1; settled = k } in
        let here : get_or (B ++ x ∷ []) (length B) no_batch ≡ x = last_one B x in
        let left = λ (m : Member) (k : m.batch < length B). get_or_append_left B (x ∷ []) no_batch m.batch k in
        record {
          within = omega (arith, length-append B (x ∷ []));
          longer = omega (arith, length-append B (x ∷ []));
          side = λ m k. ap (λ (z : Batch). z.side) (left m k);
          start = λ m k. ap (λ (z : Batch). z.start) (left m k);
          close = λ m k. ap (λ (z : Batch). z.close) (left m k);
          admitted = λ m k. rw (unfound_Has on_side m R h k) (ap (λ (z : Batch). z.admitted) (left m (All-Has (λ (o : Member). o.batch < length B) m R w k)));
          mine = λ m k e. absurd (both_ways _ (unfound_Has on_side m R h k) (eq-eqb _ _ e));
          own_side = ap (λ (z : Batch). z.side) here;
          own_start = ap (λ (z : Batch). z.start) here ∙ sym (unfound_start R at h);
          own_close = ap (λ (z : Batch). z.close) here;
          own_admitted = ap (λ (z : Batch). z.admitted) here ∙ ap (λ (k : ℕ). suc k) (sym (unfound_admitted R h));
        }
      where
        last_one : (B : List Batch) (x : Batch) → get_or (B ++ x ∷ []) (length B) no_batch ≡ x
        last_one [] x = refl
        last_one (y ∷ B) x = last_one B x

-- the book after one more member has joined
module _ (J R : List Member) (B C : List Batch) (s at b : ℕ) (h : IsHeld J R B) (e : Entered R B C s at b) where
  in_joined : (m : Member) → Has m J → m.batch < length B
  in_joined m k = All-Has (λ (o : Member). o.batch < length B) m J h.joined_within k

  in_running : (m : Member) → Has m R → m.batch < length B
  in_running m k = All-Has (λ (o : Member). o.batch < length B) m R h.running_within k

  map_Has : {Y : Type 0} (f g : Member → Y) (ms : List Member) → ((m : Member) → Has m ms → f m ≡ g m) → map f ms ≡ map g ms
  unfolding Has
  map_Has f g [] k = refl
  map_Has f g (m ∷ ms) k = λ i. k m (inl refl) i ∷ map_Has f g ms (λ o j. k o (inr j)) i

  pub entered_rows : (t : Member) → t.batch ≡ b → map (row_shown C) (J ++ t ∷ []) ≡ rows_joined (map (running_shown B) R) (map (row_shown B) J) s t.txn.0 at
  entered_rows t q =
      map-append (row_shown C) J (t ∷ [])
      ∙ (λ i. map_Has (row_shown C) (row_shown B) J (λ m k. row_path m.txn.0 _ _ _ _ _ _ (e.side m (in_joined m k)) (e.start m (in_joined m k)) (e.close m (in_joined m k))) i
      ++ (ap (λ (z : ℕ). row_shown C (record { txn = t.txn; side = t.side; batch = z })) q ∙ row_path t.txn.0 _ _ _ _ _ _ e.own_side e.own_start e.own_close) i ∷ [])

  pub entered_running : (t : Member) → t.batch ≡ b → map (running_shown C) (R ++ t ∷ []) ≡ running_joined (map (running_shown B) R) s t.txn.0 at
  entered_running t q =
      map-append (running_shown C) R (t ∷ [])
      ∙ (λ i. each i ++ (ap (λ (z : ℕ). running_shown C (record { txn = t.txn; side = t.side; batch = z })) q ∙ running_path t.txn.0 _ _ _ _ _ _ e.own_side e.own_start e.own_admitted) i ∷ [])
    where
      fuse : (ms : List Member) → map (admit s) (map (running_shown B) ms) ≡ map (λ m. admit s (running_shown B m)) ms
      fuse [] = refl
      fuse (m ∷ ms) = λ i. admit s (running_shown B m) ∷ fuse ms i

      each : map (running_shown C) R ≡ map (admit s) (map (running_shown B) R)
      each = map_Has (running_shown C) (λ m. admit s (running_shown B m)) R (λ m k. running_path m.txn.0 _ _ _ _ _ _ (e.side m (in_running m k)) (e.start m (in_running m k)) (e.admitted m k))
          ∙ sym (fuse R)

  few_on : (ms : List Member) → ((m : Member) → Has m ms → (batch_at B m).admitted ≤ length J) → admitted_on (map (running_shown B) ms) s ≤ length J
  unfolding Has
  few_on [] f = omega arith
  few_on (m ∷ ms) f = go (eqb (batch_at B m).side s) (f m (inl refl)) (few_on ms (λ o j. f o (inr j)))
    where
      go : (c : Bool) → (batch_at B m).admitted ≤ length J → admitted_on (map (running_shown B) ms) s ≤ length J → cond c (batch_at B m).admitted (admitted_on (map (running_shown B) ms) s) ≤ length J
      go true a b = a
      go false a b = b

  pub entered_held : (t : Member) → t.batch ≡ b → t.side ≡ s → AllBelow member_number t.txn.0 J → AllBelow member_number t.txn.0 R → IsHeld (J ++ t ∷ []) (R ++ t ∷ []) C
  entered_held t q on above_j above_r =
      record {
        ascending = ascending_push member_number t J h.ascending above_j;
        running_ascending = ascending_push member_number t R h.running_ascending above_r;
        joined_within = All-push (λ (m : Member). m.batch < length C) J t
            (All-weaker (λ (m : Member). m.batch < length B) (λ (m : Member). m.batch < length C) (λ m k. let z = e.longer in longer k z) J h.joined_within) own_within;
        running_within = All-push (λ (m : Member). m.batch < length C) R t
            (All-weaker (λ (m : Member). m.batch < length B) (λ (m : Member). m.batch < length C) (λ m k. let z = e.longer in longer k z) R h.running_within) own_within;
        sides = λ m k. elim (Has-push_cases m t R k) [
          | inl j ↦ h.sides m j ∙ sym (e.side m (in_running m j))
          | inr p ↦ subst (λ (o : Member). o.side ≡ (batch_at C o).side) p
              (on ∙ sym (own (λ z. z.side) s e.own_side))
        ];
        unclosed = λ m k. elim (Has-push_cases m t R k) [
          | inl j ↦ e.close m (in_running m j) ∙ h.unclosed m j
          | inr p ↦ subst (λ (o : Member). (batch_at C o).close ≡ None) p
              (own (λ z. z.close) None e.own_close)
        ];
        busy = λ m k c. elim (Has-push_cases m t J k) [
          | inl j ↦ (let r = h.busy m j (sym (e.close m (in_joined m j)) ∙ c) in (r.0, Has-append_left r.0 R (t ∷ []) r.1, r.2))
          | inr p ↦ (t, Has-push t R, ap (λ (o : Member). o.batch) p)
        ];
        one_side = λ m o j k c. elim (Has-push_cases m t R j) [
          | inl j ↦ elim (Has-push_cases o t R k) [
            | inl k ↦ h.one_side m o j k (sym (e.side m (in_running m j)) ∙ c ∙ e.side o (in_running o k))
            | inr p ↦ e.mine m j (sym (e.side m (in_running m j)) ∙ c ∙ ap (λ (o : Member). (batch_at C o).side) (sym p) ∙ own (λ z. z.side) s e.own_side) ∙ sym q ∙ ap (λ (o : Member). o.batch) p
          ]
          | inr r ↦ elim (Has-push_cases o t R k) [
            | inl k ↦ ap (λ (o : Member). o.batch) (sym r) ∙ q
                ∙ sym (e.mine o k (sym (e.side o (in_running o k)) ∙ sym c ∙ ap (λ (o : Member). (batch_at C o).side) (sym r) ∙ own (λ z. z.side) s e.own_side))
            | inr p ↦ ap (λ (o : Member). o.batch) (sym r ∙ p)
          ]
        ];
        few = λ m k. elim (Has-push_cases m t R k) [
          | inl j ↦ rw (e.admitted m j) (grown (eqb (batch_at B m).side s) (batch_at B m).admitted (h.few m j))
          | inr p ↦ subst (λ (o : Member). (batch_at C o).admitted ≤ length (J ++ t ∷ [])) p own_few
        ];
      }
    where
      longer : {a b c : ℕ} → a < b → b ≤ c → a < c
      longer k z = omega arith

      own_within : t.batch < length C
      own_within = rw q e.within

      own : {Y : Type 0} (f : Batch → Y) (y : Y) → f (get_or C b no_batch) ≡ y → f (batch_at C t) ≡ y
      own f y k = ap (λ (z : ℕ). f (get_or C z no_batch)) q ∙ k

      grown : (c : Bool) (a : ℕ) → a ≤ length J → cond c (suc a) a ≤ length (J ++ t ∷ [])
      grown true a l = omega (arith, length-append J (t ∷ []))
      grown false a l = omega (arith, length-append J (t ∷ []))

      own_few : (batch_at C t).admitted ≤ length (J ++ t ∷ [])
      own_few = rw (own (λ z. z.admitted) _ e.own_admitted) (let z = few_on R h.few in omega (arith, length-append J (t ∷ [])))
