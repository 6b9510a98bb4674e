-- A member of a book that finishes.
use Rattle.std.proofs.Common.{◌≡◌, ◌≢◌, ℕ, ◌<◌, Bool, true, false, cond, not, ◌||◌, eqb, List, [], ◌∷◌, length, get_or}
use Rattle.std.proofs.Common.{set, map, find, filter, Option, Some, None, refl, sym, ◌∙◌, ap, subst, inl, inr, eq-eqb}
use Rattle.std.proofs.Math.ListN.{length-set}
use Rattle.std.specs.List.{list_any}
use Rattle.std.proofs.lemmas.Bool.{cases_eq, eqb-true, eqb-false, ne_eqb, not_from_false}
use Rattle.std.proofs.lemmas.List.{get_or-set_same, get_or-set_other, get_or_default}
use Rattle.std.proofs.lemmas.List.Elements.{All-nil, All-filter}
use Rattle.batch_book.specs.declared.members.Member.{Member}
use Rattle.batch_book.specs.declared.members.Batch.{Batch}
use Rattle.batch_book.specs.Book.{Running, closed_at, is_busy, running_finished, row_finished, rows_finished}
use Rattle.teb_rules.proofs.lemmas.history.AscendingLists.{ascending-filter}
use Rattle.batch_book.specs.Fields.{no_batch, batch_at, member_number, row_shown, running_shown, Has, IsHeld}
use Rattle.batch_book.proofs.Elements.{filter-Has, Has-filter, found_Has, unfound_Has, any_Has, Has-any, none_Has, Has-none, All-Has, one_Has}
use Rattle.batch_book.proofs.Lists.{map-map, filter-map}
use Rattle.batch_book.proofs.Idle.{row_path}

map_Has : {Y : Type 0} (f g : Member → Y) (ms : List Member) → ((m : Member) → Has m ms → f m ≡ g m) → map f ms ≡ map g ms
unfolding Has
map_Has f g [] k = refl
map_Has f g (m ∷ ms) k = λ i. k m (inl refl) i ∷ map_Has f g ms (λ o j. k o (inr j)) i

or_same : (b c d : Bool) → c ≡ d → (b || c) ≡ (b || d)
or_same b c d e = ap (λ (z : Bool). b || z) e

busy_any : (B : List Batch) (a : ℕ) (ms : List Member) → is_busy (map (running_shown B) ms) a ≡ list_any (λ m. eqb (batch_at B m).side a) ms
busy_any B a [] = refl
busy_any B a (m ∷ ms) = or_same (eqb (batch_at B m).side a) _ _ (busy_any B a ms)

filter_all : {A : Type 0} (p : A → Bool) (xs : List A) → ((x : A) → Has x xs → p x ≡ true) → filter p xs ≡ xs
unfolding Has
filter_all p [] f = refl
filter_all p (x ∷ xs) f = ap (λ (b : Bool). cond b (x ∷ filter p xs) (filter p xs)) (f x (inl refl)) ∙ ap (λ (ys : List _). x ∷ ys) (filter_all p xs (λ y h. f y (inr h)))

-- the members without t
abbrev pub without : ℕ → List Member → List Member
without t ms = filter (λ m. not (eqb m.txn.0 t)) ms

pub absent_left : (t : ℕ) (R : List Member) → find (λ m. eqb m.txn.0 t) R ≡ None → without t R ≡ R
absent_left t R e = filter_all (λ m. not (eqb m.txn.0 t)) R (λ m k. not_from_false _ (unfound_Has (λ m. eqb m.txn.0 t) m R e k))

shown_without : (B : List Batch) (t : ℕ) (R : List Member) → running_finished (map (running_shown B) R) t ≡ map (running_shown B) (without t R)
shown_without B t R = filter-map (running_shown B) (λ r. not (eqb r.txn t)) R

pub left_running : (B : List Batch) (t : ℕ) (R : List Member) → map (running_shown B) (without t R) ≡ running_finished (map (running_shown B) R) t
left_running B t R = sym (shown_without B t R)

module _ (J R : List Member) (B : List Batch) (t : ℕ) (h : IsHeld J R B) where
  left_Has : (m : Member) → Has m (without t R) → Has m R
  left_Has m k = (filter-Has (λ m. not (eqb m.txn.0 t)) m R k).0

  stays : (m : Member) → Has m R → m.txn.0 ≢ t → Has m (without t R)
  stays m k ne = Has-filter (λ m. not (eqb m.txn.0 t)) m R k (not_from_false _ (ne_eqb _ _ ne))

  same_side : (m o : Member) → m.batch ≡ o.batch → (batch_at B m).side ≡ (batch_at B o).side
  same_side m o e = ap (λ (i : ℕ). (get_or B i no_batch).side) e

  -- a side with a remaining member is busy
  left_busy : (m o : Member) → Has o (without t R) → o.batch ≡ m.batch → is_busy (map (running_shown B) (without t R)) (batch_at B m).side ≡ true
  left_busy m o k e = busy_any B (batch_at B m).side (without t R) ∙ Has-any (λ z. eqb (batch_at B z).side (batch_at B m).side) o (without t R) k (eq-eqb _ _ (same_side o m e))

  -- the row of an open batch does not change if some member of the batch remains
  row_same : (at : ℕ) (m : Member) → ((batch_at B m).close ≡ None → (o : Member) × Has o (without t R) × (o.batch ≡ m.batch)) → row_shown B m ≡ row_finished (map (running_shown B) (without t R)) at
      (row_shown B m)
  row_same at m f = row_path m.txn.0 _ _ _ _ _ _ refl refl (sym (go (batch_at B m).close refl))
    where
      go : (c : Option ℕ) → (batch_at B m).close ≡ c → closed_at (not (is_busy (map (running_shown B) (without t R)) (batch_at B m).side)) at c ≡ c
      go (Some c) e = refl
      go None e = let r = f e in ap (λ (b : Bool). cond (not b) (Some at) None) (left_busy m r.0 r.1 r.2)

  rows_of : (C : List Batch) (at : ℕ) → ((m : Member) → Has m J → row_shown C m ≡ row_finished (map (running_shown B) (without t R)) at (row_shown B m))
      → map (row_shown C) J ≡ rows_finished (map (running_shown B) R) (map (row_shown B) J) t at
  rows_of C at f =
      map_Has (row_shown C) (λ m. row_finished (map (running_shown B) (without t R)) at (row_shown B m)) J f
      ∙ sym (map-map (row_shown B) (row_finished (map (running_shown B) (without t R)) at) J)
      ∙ ap (λ (rs : List Running). map (row_finished rs at) (map (row_shown B) J)) (sym (shown_without B t R))

  -- t is not among the running members: nothing changes
  pub absent_rows : (at : ℕ) → find (λ m. eqb m.txn.0 t) R ≡ None → map (row_shown B) J ≡ rows_finished (map (running_shown B) R) (map (row_shown B) J) t at
  absent_rows at e = rows_of B at (λ m k. row_same at m (λ c. let r = h.busy m k c in (r.0, stays r.0 r.1 (eqb-false _ _ (unfound_Has (λ m. eqb m.txn.0 t) r.0 R e r.1)), r.2)))

  module _ (member : Member) (e : find (λ m. eqb m.txn.0 t) R ≡ Some member) where
    its : Has member R × (member.txn.0 ≡ t)
    its = let f = found_Has (λ m. eqb m.txn.0 t) member R e in (f.0, eqb-true _ _ f.1)

    -- a running member with t's number is in t's batch
    its_batch : (o : Member) → Has o R → o.txn.0 ≡ t → o.batch ≡ member.batch
    its_batch o k q = ap (λ (m : Member). m.batch) (one_Has member_number o member R h.running_ascending k its.0 (q ∙ sym its.1))

    -- other members of t's batch remain
    others : list_any (λ o. eqb o.batch member.batch) (without t R) ≡ true → (m : Member) → Has m J → (batch_at B m).close ≡ None → (o : Member) × Has o (without t R) × (o.batch ≡ m.batch)
    others a m k c =
        let r = h.busy m k c in
        elim (cases_eq r.0.txn.0 t) [
          | inl q ↦ (let x = any_Has (λ o. eqb o.batch member.batch) (without t R) a in (x.0, x.1, eqb-true _ _ x.2 ∙ sym (its_batch r.0 r.1 q) ∙ r.2))
          | inr q ↦ (r.0, stays r.0 r.1 q, r.2)
        ]

    pub one_rows : (at : ℕ) → list_any (λ o. eqb o.batch member.batch) (without t R) ≡ true → map (row_shown B) J ≡ rows_finished (map (running_shown B) R) (map (row_shown B) J) t at
    one_rows at a = rows_of B at (λ m k. row_same at m (others a m k))

    pub one_held : list_any (λ o. eqb o.batch member.batch) (without t R) ≡ true → IsHeld J (without t R) B
    one_held a = record {
      ascending = h.ascending;
      running_ascending = ascending-filter member_number (λ m. not (eqb m.txn.0 t)) R h.running_ascending;
      joined_within = h.joined_within;
      running_within = All-filter (λ m. not (eqb m.txn.0 t)) (λ (m : Member). m.batch < length B) R h.running_within;
      sides = λ m k. h.sides m (left_Has m k);
      unclosed = λ m k. h.unclosed m (left_Has m k);
      busy = others a;
      one_side = λ m o j k. h.one_side m o (left_Has m j) (left_Has o k);
      few = λ m k. h.few m (left_Has m k);
    }

    -- t was the last member of its batch
    module _ (a : list_any (λ o. eqb o.batch member.batch) (without t R) ≡ false) (at : ℕ) (y : Batch) (is : y ≡ get_or B member.batch y) where
      abbrev x : Batch
      x = record { side = y.side; start = y.start; close = Some at; admitted = y.admitted; settled = y.settled }

      abbrev C : List Batch
      C = set B member.batch x

      lies : member.batch < length B
      lies = All-Has (λ (o : Member). o.batch < length B) member R h.running_within its.0

      there : y ≡ batch_at B member
      there = is ∙ get_or_default B member.batch y no_batch lies

      here : get_or C member.batch no_batch ≡ x
      here = get_or-set_same B member.batch x no_batch lies

      apart : (m : Member) → m.batch ≢ member.batch → batch_at C m ≡ batch_at B m
      apart m ne = get_or-set_other B member.batch m.batch x no_batch ne

      left_apart : (m : Member) → Has m (without t R) → m.batch ≢ member.batch
      left_apart m k = eqb-false _ _ (none_Has (λ o. eqb o.batch member.batch) m (without t R) a k)

      -- the members of other batches remain
      others_apart : (m : Member) → Has m J → m.batch ≢ member.batch → (batch_at B m).close ≡ None → (o : Member) × Has o (without t R) × (o.batch ≡ m.batch)
      others_apart m k ne c = let r = h.busy m k c in (r.0, stays r.0 r.1 (λ q. ne (sym r.2 ∙ its_batch r.0 r.1 q)), r.2)

      idle_now : is_busy (map (running_shown B) (without t R)) (batch_at B member).side ≡ false
      idle_now = busy_any B (batch_at B member).side (without t R) ∙ Has-none (λ o. eqb (batch_at B o).side (batch_at B member).side) (without t R)
          (λ o k. ne_eqb _ _ (λ q. left_apart o k (h.one_side o member (left_Has o k) its.0 q)))

      pub last_rows : map (row_shown C) J ≡ rows_finished (map (running_shown B) R) (map (row_shown B) J) t at
      last_rows = rows_of C at (λ m k. elim (cases_eq m.batch member.batch) [
        | inl q ↦ (ap (λ (i : ℕ). row_shown C (record { txn = m.txn; side = m.side; batch = i })) q
            ∙ row_path m.txn.0 _ _ _ _ _ _ (ap (λ (z : Batch). z.side) (here) ∙ ap (λ (z : Batch). z.side) there) (ap (λ (z : Batch). z.start) here ∙ ap (λ (z : Batch). z.start) there)
            (ap (λ (z : Batch). z.close) here ∙ (λ i. cond (not (sym idle_now i)) (Some at) None)
            ∙ ap (closed_at (not (is_busy (map (running_shown B) (without t R)) (batch_at B member).side)) at) (sym (h.unclosed member its.0)))
            ∙ ap (λ (i : ℕ). row_finished (map (running_shown B) (without t R)) at (row_shown B (record { txn = m.txn; side = m.side; batch = i }))) (sym q))
        | inr q ↦ (ap (λ (z : Batch). record { txn = m.txn.0; side = z.side; start = z.start; close = z.close }) (apart m q) ∙ row_same at m (others_apart m k q))
      ])

      pub last_running : map (running_shown C) (without t R) ≡ running_finished (map (running_shown B) R) t
      last_running = map_Has (running_shown C) (running_shown B) (without t R)
          (λ m k. ap (λ (z : Batch). record { txn = m.txn.0; side = z.side; start = z.start; admitted = z.admitted }) (apart m (left_apart m k)))
          ∙ sym (shown_without B t R)

      pub last_held : IsHeld J (without t R) C
      last_held = record {
        ascending = h.ascending;
        running_ascending = ascending-filter member_number (λ m. not (eqb m.txn.0 t)) R h.running_ascending;
        joined_within = rw (length-set B member.batch x) h.joined_within;
        running_within = rw (length-set B member.batch x) (All-filter (λ m. not (eqb m.txn.0 t)) (λ (m : Member). m.batch < length B) R h.running_within);
        sides = λ m k. h.sides m (left_Has m k) ∙ sym (ap (λ (z : Batch). z.side) (apart m (left_apart m k)));
        unclosed = λ m k. ap (λ (z : Batch). z.close) (apart m (left_apart m k)) ∙ h.unclosed m (left_Has m k);
        busy = λ m k c. elim (cases_eq m.batch member.batch) [
          | inl q ↦ absurd (let z : Some at ≡ None = sym (ap (λ (i : ℕ). (get_or C i no_batch).close) q ∙ ap (λ (z : Batch). z.close) here) ∙ c in cc)
          | inr q ↦ others_apart m k q (ap (λ (z : Batch). z.close) (sym (apart m q)) ∙ c)
        ];
        one_side = λ m o j k c. h.one_side m o (left_Has m j) (left_Has o k) (ap (λ (z : Batch). z.side) (sym (apart m (left_apart m j))) ∙ c ∙ ap (λ (z : Batch). z.side) (apart o (left_apart o k)));
        few = λ m k. rw (apart m (left_apart m k)) (h.few m (left_Has m k));
      }

-- an empty book is sound
pub held_none : (J R : List Member) (B : List Batch) → J ≡ [] → R ≡ [] → IsHeld J R B
unfolding Has
held_none J R B j r = subst (λ (z : List Member). IsHeld z R B) (sym j) (subst (λ (z : List Member). IsHeld [] z B) (sym r) (record {
  ascending = tt;
  running_ascending = tt;
  joined_within = All-nil (λ (m : Member). m.batch < length B);
  running_within = All-nil (λ (m : Member). m.batch < length B);
  sides = λ m k. absurd k;
  unclosed = λ m k. absurd k;
  busy = λ m k c. absurd k;
  one_side = λ m o k. absurd k;
  few = λ m k. absurd k;
}))
