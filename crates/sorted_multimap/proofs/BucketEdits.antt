-- How an edit of the two lists of a bucket changes its values.
use Rattle.std.proofs.Common.{◌≡◌, ◌==◌, ℕ, zero, suc, ◌+◌, ◌-◌, ◌<◌, ◌≤◌, inl, inr, Bool, true, false, not, ltb, List, [], ◌∷◌, ◌++◌, cond}
use Rattle.std.proofs.Common.{length, set, take, drop, Result, Ok, Err, MatchResult, vec_len, vec_capacity, refl, sym, ◌∙◌, ap, subst, arith}
use Rattle.std.specs.declared.cmp.Ordering.{Ordering}
use Rattle.std.specs.Vec.{with_item}
use Rattle.std.specs.Cmp.{IsTotalOrder}
use Rattle.std.specs.Ordering.{is_eq}
use Rattle.std.specs.List.{insert, remove, remove_range}
use Rattle.std.proofs.lemmas.Bool.{eq-eqb, ne_eqb}
use Rattle.teb_rules.specs.history.Ascending.{IsAscendingBy, place_of, put_by}
use Rattle.teb_rules.proofs.lemmas.history.Comparisons.{ltb_tells}
use Rattle.teb_rules.proofs.lemmas.history.AscendingLists.{place_in, gap_in, put-set, put-insert}
use Rattle.sorted_multimap.specs.declared.bucket.Bucket.{Bucket}
use Rattle.sorted_multimap.specs.Buckets.{values_beside, bucket_values, Ascends, lows, tops, IsSorted, IsEdited}
use Rattle.sorted_multimap.specs.Places.{IsFound, IsMissing}
use Rattle.sorted_multimap.proofs.NumberedValues.{without, without_missing, without_found}
use Rattle.sorted_multimap.proofs.SortedEntries.{lows_tops, tops_length, values_range, values_length, values_kept, values_insert}
use Rattle.sorted_multimap.proofs.SortedEntries.{values_set, values_remove, values_cut, ascends_insert, ascends_remove, ascends_cut}

insert_end : {A : Type 0} (xs : List A) (v : A) → insert xs (length xs) v ≡ xs ++ v ∷ []
insert_end [] v = refl
insert_end {A} (x ∷ xs) v = ap (λ (ys : List A). x ∷ ys) (insert_end xs v)

remove_only : {A : Type 0} (xs : List A) (i : ℕ) → length xs ≡ 1 → i < 1 → remove xs i ≡ []
remove_only [] i e l = absurd (omega arith)
remove_only (x ∷ []) zero e l = refl
remove_only (x ∷ []) (suc i) e l = absurd (omega arith)
remove_only (x ∷ y ∷ xs) i e l = absurd (omega arith)

no_values : {V : Type 0} (vs : List V) → length vs ≡ 0 → vs ≡ []
no_values [] e = refl
no_values (v ∷ vs) e = absurd (omega arith)

module _ {K V : Type 0} (R : K → K → Ordering) (total : IsTotalOrder R) (p : Bucket K V) (s : IsSorted R p) where
  abbrev ks : List K
  ks = p.keys.items

  abbrev vs : List V
  vs = p.values.items

  paired : length p.keys.items ≡ length p.values.items
  paired = omega (arith, p.keys.ok.0, p.values.ok.0, s.paired)

  pub range_order : (k : K) → lows R p.keys.items k ≤ tops R p.keys.items k
  range_order k = lows_tops R total ks k s.ascends

  pub range_within : (k : K) → tops R p.keys.items k ≤ vec_len p.keys
  range_within k = omega (arith, tops_length R total ks k, p.keys.ok.0)

  pub range_values : (k : K) → take (tops R p.keys.items k - lows R p.keys.items k) (drop (lows R p.keys.items k) p.values.items) ≡ bucket_values R p k
  range_values k = values_range R total ks vs k s.ascends paired

  -- the number of values of k
  range_length : (k : K) → lows R p.keys.items k + length (bucket_values R p k) ≡ tops R p.keys.items k
  range_length k = values_length R total ks vs k s.ascends paired

  pub range_none : (k : K) → lows R p.keys.items k ≡ tops R p.keys.items k → bucket_values R p k ≡ []
  range_none k e = no_values (bucket_values R p k) (omega (arith, range_length k))

  -- whether k has values
  pub range_held : (k : K) (m n : ℕ) → m ≡ lows R p.keys.items k → n ≡ tops R p.keys.items k → ltb m n ≡ not (length (bucket_values R p k) == 0)
  range_held k m n low top = elim (ltb_tells m n) [
    | inl (some, less) ↦ some ∙ sym (ap not (ne_eqb (length (bucket_values R p k)) 0 (λ e. omega (arith, less, low, top, e, range_length k))))
    | inr (none, more) ↦ none ∙ sym (ap not (eq-eqb (length (bucket_values R p k)) 0 (omega (arith, more, low, top, range_length k))))
  ]

  -- nothing is edited
  pub left_alone : (k : K) (ws : List V) → bucket_values R p k ≡ ws → IsEdited R p p k ws 0
  left_alone k ws e = record {
    sorted = s;
    values = λ q. values_kept R total ks vs k q ∙ ap (λ (l : List V). cond (is_eq (R k q)) l (bucket_values R p q)) e;
    room = λ m n le h. record { keys = omega (arith, le, h.keys); values = omega (arith, le, h.values) };
  }

  -- equal values in another form
  pub reworded : (r : Bucket K V) (k : K) (ws us : List V) (n : ℕ) → ws ≡ us → IsEdited R p r k ws n → IsEdited R p r k us n
  reworded r k ws us n e h = subst (λ (l : List V). IsEdited R p r k l n) e h

  -- at most one reserved slot is used
  pub one_taken : (r : Bucket K V) (k : K) (ws us : List V) (taken : Bool) → ws ≡ us → IsEdited R p r k ws (cond taken 1 0) → IsEdited R p r k us 1
  one_taken r k ws us taken e h = record {
    sorted = h.sorted;
    values = λ q. h.values q ∙ ap (λ (l : List V). cond (is_eq (R k q)) l (bucket_values R p q)) e;
    room = λ m n le. h.room m n (at_most taken m n le);
  }
    where
      at_most : (b : Bool) (m n : ℕ) → n + 1 ≤ m → n + cond b 1 0 ≤ m
      at_most true m n le = le
      at_most false m n le = omega arith

  -- an edit that is made only if `joined` is true
  pub joined_edit : (joined : Bool) (r : Bucket K V) (k : K) (ws : List V) → (joined ≡ true → IsEdited R p r k ws 1) → (joined ≡ false → r ≡ p)
      → IsEdited R p r k (cond joined ws (bucket_values R p k)) (cond joined 1 0)
  joined_edit true r k ws edit kept = edit refl
  joined_edit false r k ws edit kept = subst (λ (b : Bucket K V). IsEdited R p b k (bucket_values R p k) 0) (sym (kept refl)) (left_alone k (bucket_values R p k) refl)

  -- the value at an index is replaced
  pub set_edited : (k : K) (at : ℕ) (v : V) → lows R p.keys.items k ≤ at → at < tops R p.keys.items k
      → IsEdited R p (record { keys = p.keys; values = with_item p.values at v }) k (set (bucket_values R p k) (at - lows R p.keys.items k) v) 0
  set_edited k at v low top = record {
    sorted = record { ascends = s.ascends; paired = s.paired };
    values = λ q. values_set R total ks vs at (at - lows R ks k) k v s.ascends paired (omega arith) top q;
    room = λ m n le h. record { keys = omega (arith, le, h.keys); values = omega (arith, le, h.values) };
  }

  module _ (r : Bucket K V) (k : K) where
    -- a value is inserted at an index
    pub put_edited : (at : ℕ) (v : V) → lows R p.keys.items k ≤ at → at ≤ tops R p.keys.items k
        → r.keys.items ≡ insert p.keys.items at k → r.values.items ≡ insert p.values.items at v
        → vec_len r.keys ≡ vec_len p.keys + 1 → vec_len r.values ≡ vec_len p.values + 1 → vec_capacity p.keys ≤ vec_capacity r.keys → vec_capacity p.values ≤ vec_capacity r.values
        → IsEdited R p r k (insert (bucket_values R p k) (at - lows R p.keys.items k) v) 1
    put_edited at v low top kin vin klen vlen kcap vcap = record {
      sorted = record { ascends = subst (Ascends R) (sym kin) (ascends_insert R total ks at k s.ascends low top); paired = omega (arith, klen, vlen, s.paired) };
      values = λ q. (λ j. values_beside R (kin j) (vin j) q) ∙ values_insert R total ks vs at (at - lows R ks k) k v s.ascends paired (omega arith) top q;
      room = λ m n le h. record { keys = omega (arith, le, h.keys, klen, kcap); values = omega (arith, le, h.values, vlen, vcap) };
    }

    -- the value at an index is removed
    pub take_edited : (at : ℕ) → lows R p.keys.items k ≤ at → at < tops R p.keys.items k
        → r.keys.items ≡ remove p.keys.items at → r.values.items ≡ remove p.values.items at
        → vec_len r.keys + 1 ≡ vec_len p.keys → vec_len r.values + 1 ≡ vec_len p.values → vec_capacity p.keys ≤ vec_capacity r.keys → vec_capacity p.values ≤ vec_capacity r.values
        → IsEdited R p r k (remove (bucket_values R p k) (at - lows R p.keys.items k)) 0
    take_edited at low top kin vin klen vlen kcap vcap = record {
      sorted = record { ascends = subst (Ascends R) (sym kin) (ascends_remove R total ks at s.ascends); paired = omega (arith, klen, vlen, s.paired) };
      values = λ q. (λ j. values_beside R (kin j) (vin j) q) ∙ values_remove R total ks vs at (at - lows R ks k) k s.ascends paired (omega arith) top q;
      room = λ m n le h. record { keys = omega (arith, le, h.keys, klen, kcap); values = omega (arith, le, h.values, vlen, vcap) };
    }

    -- the value that is removed is the only one
    pub only_edited : (at : ℕ) → lows R p.keys.items k ≤ at → at < tops R p.keys.items k → vec_len p.keys ≡ 1
        → r.keys.items ≡ [] → r.values.items ≡ []
        → vec_len r.keys ≡ 0 → vec_len r.values ≡ 0 → vec_capacity p.keys ≤ vec_capacity r.keys → vec_capacity p.values ≤ vec_capacity r.values
        → IsEdited R p r k (remove (bucket_values R p k) (at - lows R p.keys.items k)) 0
    only_edited at low top one kin vin klen vlen kcap vcap =
        let l : at < 1 = omega (arith, range_within k) in
        take_edited at low top (kin ∙ sym (remove_only ks at (omega (arith, p.keys.ok.0)) l)) (vin ∙ sym (remove_only vs at (omega (arith, paired, p.keys.ok.0)) l))
        (omega arith) (omega (arith, s.paired)) kcap vcap

    -- all values of k are removed
    pub cut_edited : (start end : ℕ) → start ≡ lows R p.keys.items k → end ≡ tops R p.keys.items k
        → r.keys.items ≡ remove_range p.keys.items start end → r.values.items ≡ remove_range p.values.items start end
        → vec_len r.keys + (end - start) ≡ vec_len p.keys → vec_len r.values + (end - start) ≡ vec_len p.values → vec_capacity p.keys ≤ vec_capacity r.keys
        → vec_capacity p.values ≤ vec_capacity r.values
        → IsEdited R p r k [] 0
    cut_edited start end low top kin vin klen vlen kcap vcap = record {
      sorted = record { ascends = subst (Ascends R) (sym kin) (ascends_cut R total ks start end (omega (arith, low, top, range_order k)) s.ascends); paired = omega (arith, klen, vlen, s.paired) };
      values = λ q.
          (λ j. values_beside R (kin j) (vin j) q)
          ∙ (λ j. values_beside R (remove_range ks (low j) (top j)) (remove_range vs (low j) (top j)) q)
          ∙ values_cut R total ks vs k q s.ascends paired;
      room = λ m n le h. record { keys = omega (arith, le, h.keys, klen, kcap); values = omega (arith, le, h.values, vlen, vcap) };
    }

  -- a value after the last of k
  pub put_behind : (k : K) (v : V) → insert (bucket_values R p k) (tops R p.keys.items k - lows R p.keys.items k) v ≡ bucket_values R p k ++ v ∷ []
  put_behind k v =
      let many : tops R ks k - lows R ks k ≡ length (bucket_values R p k) = omega (arith, range_length k) in
      ap (λ (i : ℕ). insert (bucket_values R p k) i v) many ∙ insert_end (bucket_values R p k) v

  -- what a search found, by its result
  module _ (key : V → ℕ) (k : K) (n at : ℕ) (place : Result ℕ ℕ) (told : MatchResult place (IsFound R key p k n) (IsMissing R key p k n)) where
    told_as : (r : Result ℕ ℕ) → place ≡ r → MatchResult r (IsFound R key p k n) (IsMissing R key p k n)
    told_as r e = subst (λ (q : Result ℕ ℕ). MatchResult q (IsFound R key p k n) (IsMissing R key p k n)) e told

    pub place_found : place ≡ Ok at → IsFound R key p k n at
    place_found e = told_as (Ok at) e

    pub place_missing : place ≡ Err at → IsMissing R key p k n at
    place_missing e = told_as (Err at) e

  -- a value is put under its number
  module _ (key : V → ℕ) (k : K) (v : V) (at : ℕ) where
    pub put_found : IsFound R key p k (key v) at → IsEdited R p (record { keys = p.keys; values = with_item p.values at v }) k (put_by key v (bucket_values R p k)) 0
    put_found f = reworded _ k _ _ 0 (sym (put-set key v (bucket_values R p k) (at - lows R ks k) f.is)) (set_edited k at v f.low f.top)

    pub put_missing : (r : Bucket K V) → IsMissing R key p k (key v) at → IsEdited R p r k (insert (bucket_values R p k) (at - lows R p.keys.items k) v) 1
        → IsEdited R p r k (put_by key v (bucket_values R p k)) 1
    put_missing r f h = reworded r k _ _ 1 (sym (put-insert key v (bucket_values R p k) (at - lows R ks k) f.is)) h

  -- the value with a number is removed
  module _ (key : V → ℕ) (k : K) (n at : ℕ) where
    module _ (a : IsAscendingBy key (bucket_values R p k)) where
      pub take_found : (r : Bucket K V) → IsFound R key p k n at → IsEdited R p r k (remove (bucket_values R p k) (at - lows R p.keys.items k)) 0
          → IsEdited R p r k (without key n (bucket_values R p k)) 0
      take_found r f h = reworded r k _ _ 0 (without_found key n (bucket_values R p k) (at - lows R ks k) a f.is) h

      pub take_missing : IsMissing R key p k n at → IsEdited R p p k (without key n (bucket_values R p k)) 0
      take_missing f = left_alone k _ (without_missing key n (bucket_values R p k) (at - lows R ks k) a f.is)

  -- what a search finds in the range of k
  module _ (key : V → ℕ) (k : K) (n i at : ℕ) (there : at ≡ lows R p.keys.items k + i) where
    abbrev off : i ≡ at - lows R p.keys.items k
    off = omega arith

    pub found_in : place_of key (bucket_values R p k) n ≡ Ok i → IsFound R key p k n at
    found_in e = record {
      low = omega arith;
      top = omega (arith, range_length k, place_in key (bucket_values R p k) n i e);
      is = e ∙ ap Ok off;
    }

    pub missing_in : place_of key (bucket_values R p k) n ≡ Err i → IsMissing R key p k n at
    missing_in e = record {
      low = omega arith;
      top = omega (arith, range_length k, gap_in key (bucket_values R p k) n i e);
      is = e ∙ ap Err off;
    }
