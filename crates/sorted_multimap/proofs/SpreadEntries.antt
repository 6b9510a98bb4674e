-- A multimap that is spread over buckets: a key's values are in one bucket, and an edit of the bucket is an edit of the multimap.
use Rattle.std.proofs.Common.{◌≡◌, ◌≢◌, ℕ, zero, suc, ◌+◌, ◌-◌, ◌%◌, ◌<◌, ◌≤◌, inl, inr, Bool, true, false, cond, List, [], ◌∷◌, ◌++◌, length, get_or, refl, sym, ◌∙◌, ap, subst, arith}
use mir.Val.{bool_byte}
use Rattle.std.proofs.Math.ListN.{set, length-set}
use Rattle.std.proofs.lemmas.List.{get_or-set_other, get_or_default, set-get_or}
use Rattle.std.proofs.lemmas.Bool.Decides.{eqb_tells}
use Rattle.std.proofs.lemmas.Grind.{get_or-set_at}
use Rattle.std.specs.declared.cmp.Ordering.{Ordering}
use Rattle.std.specs.Ordering.{is_eq}
use Rattle.sorted_multimap.specs.declared.bucket.Bucket.{Bucket}
use Rattle.sorted_multimap.specs.Multimap.{values_of}
use Rattle.sorted_multimap.specs.Buckets.{values_beside, bucket_values, beside, entries_of, HasRoom, IsSorted, IsEdited, IsBucket, IsSpread, IsKept, AreKept}

module _ {K V : Type 0} (R : K → K → Ordering) where
  values_of-append : (es fs : List (K × V)) (q : K) → values_of R (es ++ fs) q ≡ values_of R es q ++ values_of R fs q
  values_of-append [] fs q = refl
  values_of-append (e ∷ es) fs q = go (is_eq (R e.0 q)) (values_of-append es fs q)
    where
      go : (b : Bool) → values_of R (es ++ fs) q ≡ values_of R es q ++ values_of R fs q → cond b (e.1 ∷ values_of R (es ++ fs) q) (values_of R (es ++ fs) q) ≡ cond b (e.1 ∷ values_of R es q)
          (values_of R es q) ++ values_of R fs q
      go true h = ap (λ (vs : List V). e.1 ∷ vs) h
      go false h = h

  values_of-beside : (ks : List K) (vs : List V) (q : K) → values_of R (beside ks vs) q ≡ values_beside R ks vs q
  values_of-beside [] vs q = refl
  values_of-beside (k ∷ ks) [] q = refl
  values_of-beside (k ∷ ks) (v ∷ vs) q = ap (λ (r : List V). cond (is_eq (R k q)) (v ∷ r) r) (values_of-beside ks vs q)

  values_of-entries : (b : Bucket K V) (bs : List (Bucket K V)) (q : K) → values_of R (entries_of (b ∷ bs)) q ≡ bucket_values R b q ++ values_of R (entries_of bs) q
  values_of-entries b bs q = values_of-append (beside b.keys.items b.values.items) (entries_of bs) q ∙ ap (λ (vs : List V). vs ++ values_of R (entries_of bs) q)
      (values_of-beside b.keys.items b.values.items q)

  none_there : (bs : List (Bucket K V)) (q : K) → ((j : ℕ) (d : Bucket K V) → j < length bs → bucket_values R (get_or bs j d) q ≡ []) → values_of R (entries_of bs) q ≡ []
  none_there [] q h = refl
  none_there (b ∷ bs) q h = values_of-entries b bs q ∙ ap (λ (vs : List V). vs ++ values_of R (entries_of bs) q) (h 0 b (omega arith)) ∙ none_there bs q (λ j d lt. h (suc j) d (omega arith))

  append_none : (vs ws : List V) → ws ≡ [] → vs ++ ws ≡ vs
  append_none [] ws e = e
  append_none (v ∷ vs) ws e = ap (λ (us : List V). v ∷ us) (append_none vs ws e)

  -- if only one bucket has values of q, they are all values of q
  one_there : (bs : List (Bucket K V)) (q : K) (i : ℕ) (d : Bucket K V) → i < length bs → ((j : ℕ) (d : Bucket K V) → j < length bs → j ≢ i → bucket_values R (get_or bs j d) q ≡ [])
      → values_of R (entries_of bs) q ≡ bucket_values R (get_or bs i d) q
  one_there [] q i d lt h = absurd (omega arith)
  one_there (b ∷ bs) q zero d lt h = values_of-entries b bs q ∙ append_none (bucket_values R b q) _ (none_there bs q (λ j d lt. h (suc j) d (omega arith) (omega arith)))
  one_there (b ∷ bs) q (suc i) d lt h =
      values_of-entries b bs q ∙ ap (λ (vs : List V). vs ++ values_of R (entries_of bs) q) (h 0 b (omega arith) (omega arith))
      ∙ one_there bs q i d (omega arith) (λ j d lt off. h (suc j) d (omega arith) (omega arith))

module _ {K V : Type 0} (R : K → K → Ordering) (spread : K → ℕ) where
  -- the values of a key are in its bucket
  pub values_there : (bs : List (Bucket K V)) (n : ℕ) → IsSpread R spread bs n → (q : K) (i : ℕ) (d : Bucket K V) → i < length bs → i ≡ spread q % length bs
      → values_of R (entries_of bs) q ≡ bucket_values R (get_or bs i d) q
  values_there bs n is q i d lt at = one_there R bs q i d lt (λ j d lt off. (is.each j d lt).own q (omega arith))

module _ {K V : Type 0} (R : K → K → Ordering) where
  -- the first n of some buckets have room for `spare` more
  pub record IsMade (as_ bs : List (Bucket K V)) (n spare : ℕ) : Type 0 where
    pub kept : AreKept R as_ bs
    pub room : (i : ℕ) (d : Bucket K V) → i < n → HasRoom (get_or bs i d) spare

  kept_itself : (b : Bucket K V) → IsKept R b b
  kept_itself b = record { keys = refl; values = refl; sorted = λ s. s; room = λ n h. h }

  kept_twice : (a b c : Bucket K V) → IsKept R a b → IsKept R b c → IsKept R a c
  kept_twice a b c p q = record { keys = q.keys ∙ p.keys; values = q.values ∙ p.values; sorted = λ s. q.sorted (p.sorted s); room = λ n h. q.room n (p.room n h) }

  pub made_none : (bs : List (Bucket K V)) (spare : ℕ) → IsMade bs bs 0 spare
  made_none bs spare = record { kept = record { len = refl; each = λ i d lt. kept_itself (get_or bs i d) }; room = λ i d lt. absurd (omega arith) }

  pub kept_at : (as_ bs : List (Bucket K V)) (n : ℕ) (b d : Bucket K V) → AreKept R as_ bs → n < length as_ → IsKept R (get_or bs n d) b → AreKept R as_ (set bs n b)
  kept_at as_ bs n b d k lt h = record {
    len = length-set bs n b ∙ k.len;
    each = λ i e le. elim (eqb_tells i n) [
      | inl (hit, same) ↦ subst (λ (x : Bucket K V). IsKept R (get_or as_ i e) x) (sym (get_or-set_at bs n i b e same (omega (arith, k.len))))
          (kept_twice (get_or as_ i e) (get_or bs n d) b (subst (λ (x : Bucket K V). IsKept R (get_or as_ i e) x) (at_any i n e d same (omega (arith, k.len))) (k.each i e le)) h)
      | inr (miss, other) ↦ subst (λ (x : Bucket K V). IsKept R (get_or as_ i e) x) (sym (get_or-set_other bs n i b e other)) (k.each i e le)
    ];
  }
    where
      at_any : (i n : ℕ) (e d : Bucket K V) → i ≡ n → n < length bs → get_or bs i e ≡ get_or bs n d
      at_any i n e d same lt = ap (λ (j : ℕ). get_or bs j e) same ∙ get_or_default bs n e d lt

  pub made_more : (as_ bs : List (Bucket K V)) (n spare : ℕ) (b d : Bucket K V) → IsMade as_ bs n spare → n < length as_ → IsKept R (get_or bs n d) b → HasRoom b spare
      → IsMade as_ (set bs n b) (n + 1) spare
  made_more as_ bs n spare b d m lt h room = record {
    kept = kept_at as_ bs n b d m.kept lt h;
    room = λ i e le. elim (eqb_tells i n) [
      | inl (hit, same) ↦ subst (λ (x : Bucket K V). HasRoom x spare) (sym (get_or-set_at bs n i b e same (omega (arith, m.kept.len)))) room
      | inr (miss, other) ↦ subst (λ (x : Bucket K V). HasRoom x spare) (sym (get_or-set_other bs n i b e other)) (m.room i e (omega arith))
    ];
  }

  kept_entries_of : (as_ bs : List (Bucket K V)) → length bs ≡ length as_ → ((i : ℕ) (d : Bucket K V) → i < length as_ → IsKept R (get_or as_ i d) (get_or bs i d)) → entries_of bs ≡ entries_of as_
  kept_entries_of [] [] n h = refl
  kept_entries_of [] (b ∷ bs) n h = absurd (omega arith)
  kept_entries_of (a ∷ as_) [] n h = absurd (omega arith)
  kept_entries_of (a ∷ as_) (b ∷ bs) n h =
      let k = h 0 a (omega arith) in
      (λ j. beside (k.keys j) (k.values j) ++ kept_entries_of as_ bs (omega arith) (λ i d lt. h (suc i) d (omega arith)) j)

  pub kept_entries : (as_ bs : List (Bucket K V)) → AreKept R as_ bs → entries_of bs ≡ entries_of as_
  kept_entries as_ bs k = kept_entries_of as_ bs k.len k.each

module _ {K V : Type 0} (R : K → K → Ordering) (spread : K → ℕ) where
  -- kept buckets are spread as before
  pub kept_spread : (as_ bs : List (Bucket K V)) (n : ℕ) → IsSpread R spread as_ n → AreKept R as_ bs → IsSpread R spread bs n
  kept_spread as_ bs n is k = record {
    some = λ h. rw k.len (is.some h);
    each = λ i d lt.
        let le : i < length as_ = omega (arith, k.len) in
        let was = is.each i d le in
        let now = k.each i d le in
        record {
          sorted = now.sorted was.sorted;
          room = now.room n was.room;
          own = λ q off. (λ j. values_beside R (now.keys j) (now.values j) q) ∙ was.own q (subst (λ (m : ℕ). spread q % m ≢ i) k.len off);
        };
  }

  -- buckets with room for n have room for fewer
  pub less_spread : (bs : List (Bucket K V)) (m n : ℕ) → n ≤ m → IsSpread R spread bs m → IsSpread R spread bs n
  less_spread bs m n le is = record {
    some = λ h. is.some (omega arith);
    each = λ i d lt. let was = is.each i d lt in record { sorted = was.sorted; room = record { keys = omega (arith, was.room.keys); values = omega (arith, was.room.values) }; own = was.own };
  }

  -- one bucket is replaced: an edit of its values is the same edit of all values
  module _ (f : K → List V → List V) (bs : List (Bucket K V)) (i m n : ℕ) (b d : Bucket K V) (is : IsSpread R spread bs m) (lt : i < length bs) (le : n ≤ m)
      (sorted : IsSorted R b) (room : HasRoom b n) (edit : (q : K) → bucket_values R b q ≡ f q (bucket_values R (get_or bs i d) q))
      (elsewhere : (q : K) (vs : List V) → spread q % length bs ≢ i → f q vs ≡ vs) where
    abbrev edited : List (Bucket K V)
    edited = set bs i b

    pub edited_spread : IsSpread R spread edited n
    edited_spread = record {
      some = λ h. rw (length-set bs i b) (omega arith);
      each = λ j e lj. rw (length-set bs i b) (elim (eqb_tells j i) [
        | inl (hit, same) ↦ subst (IsBucket R spread (length bs) j n) (sym (get_or-set_at bs i j b e same lt)) (record {
          sorted = sorted;
          room = room;
          own = λ q off. let out : spread q % length bs ≢ i = subst (λ (x : ℕ). spread q % length bs ≢ x) same off in edit q ∙ elsewhere q _ out ∙ (is.each i d lt).own q out;
        })
        | inr (miss, other) ↦ subst (IsBucket R spread (length bs) j n) (sym (get_or-set_other bs i j b e other))
            ((less_spread bs m n le is).each j e (subst (λ (x : ℕ). j < x) (length-set bs i b) lj))
      ]);
    }

    pub edited_values : (q : K) → values_of R (entries_of edited) q ≡ f q (values_of R (entries_of bs) q)
    edited_values q = elim (eqb_tells (spread q % length bs) i) [
      | inl (hit, same) ↦ values_there R spread edited n edited_spread q i b (rw (length-set bs i b) lt) (sym same ∙ ap (λ (x : ℕ). spread q % x) (sym (length-set bs i b)))
          ∙ ap (λ (x : Bucket K V). bucket_values R x q) (get_or-set_at bs i i b b refl lt) ∙ edit q ∙ ap (f q) (sym (values_there R spread bs m is q i d lt (sym same)))
      | inr (miss, other) ↦
          let j = spread q % length bs in
          let lj : j < length bs = omega arith in
          values_there R spread edited n edited_spread q j d (rw (length-set bs i b) lj) (ap (λ (x : ℕ). spread q % x) (sym (length-set bs i b)))
          ∙ ap (λ (x : Bucket K V). bucket_values R x q) (get_or-set_other bs i j b d other)
          ∙ sym (values_there R spread bs m is q j d lj refl) ∙ sym (elsewhere q _ other)
    ]

  -- an edit in the bucket of a key
  module _ (agrees : (a b : K) → is_eq (R a b) ≡ true → spread a ≡ spread b) (bs : List (Bucket K V)) (i m n : ℕ) (b d : Bucket K V) (is : IsSpread R spread bs m) (lt : i < length bs) (le : n ≤ m)
      (sorted : IsSorted R b) (room : HasRoom b n) where
    -- a key in another bucket is a different key
    apart : (k q : K) → i ≡ spread k % length bs → spread q % length bs ≢ i → is_eq (R k q) ≡ false
    apart k q at off = go (is_eq (R k q)) refl
      where
        go : (b : Bool) → is_eq (R k q) ≡ b → b ≡ false
        go true h = absurd (off (sym (at ∙ ap (λ (s : ℕ). s % length bs) (agrees k q h))))
        go false h = refl

    -- the values of one key are replaced
    module _ (k : K) (at : i ≡ spread k % length bs) (new : List V) (edit : (q : K) → bucket_values R b q ≡ cond (is_eq (R k q)) new (bucket_values R (get_or bs i d) q)) where
      one : K → List V → List V
      one q vs = cond (is_eq (R k q)) new vs

      elsewhere_one : (q : K) (vs : List V) → spread q % length bs ≢ i → one q vs ≡ vs
      unfolding one
      elsewhere_one q vs off = ap (λ (o : Bool). cond o new vs) (apart k q at off)

      pub one_spread : IsSpread R spread (set bs i b) n
      unfolding one
      one_spread = edited_spread one bs i m n b d is lt le sorted room edit elsewhere_one

      pub one_values : (q : K) → values_of R (entries_of (set bs i b)) q ≡ cond (is_eq (R k q)) new (values_of R (entries_of bs) q)
      unfolding one
      one_values = edited_values one bs i m n b d is lt le sorted room edit elsewhere_one

-- every bucket is empty
abbrev pub AreEmpty : {K V : Type 0} → (K → K → Ordering) → List (Bucket K V) → Type 0
AreEmpty R [] = Unit {0}
AreEmpty R (b ∷ bs) = IsSorted R b × (b.keys.items ≡ []) × (b.values.items ≡ []) × AreEmpty R bs

module _ {K V : Type 0} (R : K → K → Ordering) (spread : K → ℕ) where
  empty_at : (bs : List (Bucket K V)) → AreEmpty R bs → (i : ℕ) (d : Bucket K V) → i < length bs → IsSorted R (get_or bs i d) × ((get_or bs i d).keys.items ≡ []) × ((get_or bs i d).values.items ≡ [])
  empty_at [] e i d lt = absurd (omega arith)
  empty_at (b ∷ bs) e zero d lt = (e.0, e.1, e.2)
  empty_at (b ∷ bs) e (suc i) d lt = empty_at bs e.3 i d (omega arith)

  pub empty_spread : (bs : List (Bucket K V)) → AreEmpty R bs → 0 < length bs → IsSpread R spread bs 0
  empty_spread bs e some = record {
    some = λ h. some;
    each = λ i d lt.
        let b = empty_at bs e i d lt in
        record {
          sorted = b.0;
          room = record { keys = omega (arith, (get_or bs i d).keys.ok.1); values = omega (arith, (get_or bs i d).values.ok.1) };
          own = λ q off. (λ j. values_beside R (b.1 j) (b.2 j) q);
        };
  }

  pub empty_entries : (bs : List (Bucket K V)) → AreEmpty R bs → entries_of bs ≡ []
  empty_entries [] e = refl
  empty_entries (b ∷ bs) e = (λ j. beside (e.1 j) (e.2 j) ++ entries_of bs) ∙ empty_entries bs e.3

  pub empty_more : (bs : List (Bucket K V)) (b : Bucket K V) → AreEmpty R bs → IsSorted R b → b.keys.items ≡ [] → b.values.items ≡ [] → AreEmpty R (bs ++ b ∷ [])
  empty_more [] b e s k v = (s, k, v, tt)
  empty_more (a ∷ as_) b e s k v = (e.0, e.1, e.2, empty_more as_ b e.3 s k v)

-- the reserved slots that are left if one is used, and if none is
left_room : (taken : Bool) (m n : ℕ) → 0 < m → n ≡ bool_byte taken → m - n + cond taken 1 0 ≤ m
left_room true m n some e = omega arith
left_room false m n some e = omega arith

-- k belongs in b, the bucket with index i
pub record IsLocated {K V : Type 0} (spread : K → ℕ) (bs : List (Bucket K V)) (k : K) (i : ℕ) (b : Bucket K V) : Type 0 where
  pub within : i < length bs
  pub at : i ≡ spread k % length bs
  pub is : b ≡ get_or bs i b

module _ {K V : Type 0} (R : K → K → Ordering) (spread : K → ℕ) where
  pub located : (xs bs : List (Bucket K V)) (k : K) (i : ℕ) (b : Bucket K V) → xs ≡ bs → i ≡ spread k % length xs → i < length xs → b ≡ get_or bs i b → IsLocated spread bs k i b
  located xs bs k i b e at lt is = record { within = omega (arith, ap length e); at = at ∙ ap (λ (l : List (Bucket K V)). spread k % length l) e; is = is }

  pub located_values : (bs : List (Bucket K V)) (m : ℕ) → IsSpread R spread bs m → (k : K) (i : ℕ) (b : Bucket K V) → IsLocated spread bs k i b → values_of R (entries_of bs) k ≡ bucket_values R b k
  located_values bs m is k i b l = values_there R spread bs m is k i b l.within l.at ∙ ap (λ (x : Bucket K V). bucket_values R x k) (sym l.is)

  pub located_same : (bs : List (Bucket K V)) (k : K) (i : ℕ) (b c : Bucket K V) → IsLocated spread bs k i b → c ≡ b → set bs i c ≡ bs
  located_same bs k i b c l e = ap (set bs i) (e ∙ l.is) ∙ set-get_or bs i b

  located_bucket : (bs : List (Bucket K V)) (m : ℕ) → IsSpread R spread bs m → (k : K) (i : ℕ) (b : Bucket K V) → IsLocated spread bs k i b → IsBucket R spread (length bs) i m b
  located_bucket bs m is k i b l = subst (IsBucket R spread (length bs) i m) (sym l.is) (is.each i b l.within)

  pub located_sorted : (bs : List (Bucket K V)) (m : ℕ) → IsSpread R spread bs m → (k : K) (i : ℕ) (b : Bucket K V) → IsLocated spread bs k i b → IsSorted R b
  located_sorted bs m is k i b l = (located_bucket bs m is k i b l).sorted

  pub located_room : (bs : List (Bucket K V)) (m : ℕ) → IsSpread R spread bs m → (k : K) (i : ℕ) (b : Bucket K V) → IsLocated spread bs k i b → HasRoom b m
  located_room bs m is k i b l = (located_bucket bs m is k i b l).room

  -- the values of k are edited in its bucket; `old` gives all values before the edit
  module _ (agrees : (a b : K) → is_eq (R a b) ≡ true → spread a ≡ spread b) (bs : List (Bucket K V)) (m n i : ℕ) (b c : Bucket K V) (is : IsSpread R spread bs m) (le : n ≤ m) (sorted : IsSorted R c)
      (room : HasRoom c n) where
    module _ (k : K) (l : IsLocated spread bs k i b) (new : List V) (edit : (q : K) → bucket_values R c q ≡ cond (is_eq (R k q)) new (bucket_values R b q)) where
      there : (q : K) → bucket_values R c q ≡ cond (is_eq (R k q)) new (bucket_values R (get_or bs i b) q)
      there q = edit q ∙ ap (λ (x : Bucket K V). cond (is_eq (R k q)) new (bucket_values R x q)) l.is

      pub put_spread : IsSpread R spread (set bs i c) n
      put_spread = one_spread R spread agrees bs i m n c b is l.within le sorted room k l.at new there

      pub put_values : (old : K → List V) → ((q : K) → values_of R (entries_of bs) q ≡ old q) → (q : K) → values_of R (entries_of (set bs i c)) q ≡ cond (is_eq (R k q)) new (old q)
      put_values old shown q = one_values R spread agrees bs i m n c b is l.within le sorted room k l.at new there q ∙ ap (λ (vs : List V). cond (is_eq (R k q)) new vs) (shown q)

  -- the bucket has the values of k in `old`
  pub located_shown : (bs : List (Bucket K V)) (m : ℕ) → IsSpread R spread bs m → (k : K) (i : ℕ) (b : Bucket K V) → IsLocated spread bs k i b
      → (old : K → List V) → ((q : K) → values_of R (entries_of bs) q ≡ old q) → bucket_values R b k ≡ old k
  located_shown bs m is k i b l old shown = sym (located_values bs m is k i b l) ∙ shown k

  -- the values become `new` of the old ones, and a reserved slot is used if `taken` is true
  module _ (agrees : (a b : K) → is_eq (R a b) ≡ true → spread a ≡ spread b) (bs : List (Bucket K V)) (m n i : ℕ) (b c : Bucket K V) (taken : Bool) (is : IsSpread R spread bs m) (some : 0 < m)
      (less : n ≡ bool_byte taken) where
    module _ (k : K) (l : IsLocated spread bs k i b) (new : List V → List V) (edit : IsEdited R b c k (new (bucket_values R b k)) (cond taken 1 0)) where
      left : HasRoom c (m - n)
      left = edit.room m (m - n) (left_room taken m n some less) (located_room bs m is k i b l)

      pub taken_spread : IsSpread R spread (set bs i c) (m - n)
      taken_spread = put_spread agrees bs m (m - n) i b c is (omega arith) edit.sorted left k l _ edit.values

      pub taken_values : (old : K → List V) → ((q : K) → values_of R (entries_of bs) q ≡ old q) → (q : K) → values_of R (entries_of (set bs i c)) q ≡ cond (is_eq (R k q)) (new (old k)) (old q)
      taken_values old shown q =
          put_values agrees bs m (m - n) i b c is (omega arith) edit.sorted left k l _ edit.values old shown q
          ∙ ap (λ (vs : List V). cond (is_eq (R k q)) (new vs) (old q)) (located_shown bs m is k i b l old shown)

-- all n buckets are empty
pub record AreNew {K V : Type 0} (R : K → K → Ordering) (bs : List (Bucket K V)) (n : ℕ) : Type 0 where
  pub empty : AreEmpty R bs
  pub count : length bs ≡ n
