-- The committed transactions in the order of their commits, and sorted by their keys.
use Rattle.std.proofs.Common.{◌≡◌, ◌≢◌, ℕ, zero, suc, ◌+◌, ◌<◌, ◌≤◌, Bool, true, false, cond, ◌&&◌, ◌||◌, eqb, ltb, List, [], ◌∷◌, ◌++◌, length, length-append}
use Rattle.std.proofs.Common.{le_refl, get_or, reverse, take, drop, slice_get, Some, refl, sym, ◌∙◌, ap, ap₂, subst, inl, inr, arith, eqb-true, eq-eqb}
use Rattle.std.proofs.lemmas.Bool.{both_ways, cases_lt, cases_eq}
use Rattle.std.proofs.lemmas.List.{reverse-append, take-append-le, take_all}
use Rattle.std.proofs.Math.Seq.{drop-append_seam}
use Rattle.std.proofs.lemmas.List.Sorted.{sum_by-IsPermutation, IsPermutation-map, All-permutation, sorted_far, ranks_by}
use Rattle.std.specs.List.{sum_by, All}
use Rattle.std.proofs.lemmas.List.Sums.{sum_by-cons}
use Rattle.std.specs.List.Sorted.{IsPermutation, IsSortedBy}
use Rattle.std.specs.Ordering.{nat_cmp, is_lt, ordering_then}
use Rattle.std.specs.declared.cmp.Ordering.{Ordering}
use Rattle.std.specs.declared.cmp.Ordering.TheVariants.{Less, Equal, Greater}
use Rattle.std.specs.Cmp.Lexicographic.{slice_cmp, nat_list_cmp_total}
use Rattle.teb_rules.specs.declared.names.Txn.{Txn}
use Rattle.teb_rules.specs.declared.history.Event.{Event}
use Rattle.teb_rules.specs.declared.history.Event.TheVariants.{Began, Got, Put, Ready, Done, Gone, Told}
use Rattle.teb_rules.specs.Ranks.{lex, serially, serial_order}
use Rattle.teb_rules.specs.Serializes.{In, Pairs}
use Rattle.teb_rules.specs.Setup.{Setup}
use Rattle.teb_rules.specs.laws.Lawful.{Lawful}
use Rattle.teb_rules.specs.laws.TreeFacts.{TreeFacts}
use Rattle.teb_rules.proofs.lemmas.laws.Lists.{Sorted, Distinct, sorted_unique}
use Rattle.teb_rules.proofs.lemmas.laws.Commits.{committed_in, committed-In, In-committed}
use Rattle.teb_rules.proofs.lemmas.laws.Serial.{Commits, committed_from, serial_strict, order_each, order_all, order_sorted, Pairs-append}
use Rattle.batch_book.proofs.Numbered.{unfinished_parts}
use Rattle.serial_order.specs.Commits.{commits_in}
use Rattle.serial_order.specs.Keys.{entry_numbers, key_of, cut_key, HasKey, HaveKeys}
use Rattle.serial_order.proofs.Cut.{serially_cut}
use Rattle.serial_order.specs.declared.serial.Entry.{Entry}

commits_append : (xs ys : List Event) → commits_in (xs ++ ys) ≡ commits_in xs ++ commits_in ys
commits_append [] ys = refl
commits_append (Done t ∷ xs) ys = ap (λ (ts : List ℕ). t.0 ∷ ts) (commits_append xs ys)
commits_append (Began t s k i ∷ xs) ys = commits_append xs ys
commits_append (Got t x w v ∷ xs) ys = commits_append xs ys
commits_append (Put t x v ∷ xs) ys = commits_append xs ys
commits_append (Ready t ∷ xs) ys = commits_append xs ys
commits_append (Gone t c ∷ xs) ys = commits_append xs ys
commits_append (Told t ∷ xs) ys = commits_append xs ys

step : (e : Event) (P : List Event) → commits_in (reverse (e ∷ P)) ≡ commits_in (reverse P) ++ commits_in (e ∷ [])
step e P = ap commits_in (reverse-append (e ∷ []) P) ∙ commits_append (reverse P) (e ∷ [])

append_none : (ts : List ℕ) → ts ++ [] ≡ ts
append_none [] = refl
append_none (t ∷ ts) = ap (λ (us : List ℕ). t ∷ us) (append_none ts)

pub commits_walk : (H : List Event) → commits_in (reverse H) ≡ committed_in H
commits_walk [] = refl
commits_walk (Done t ∷ P) = step (Done t) P ∙ ap (λ (ts : List ℕ). ts ++ t.0 ∷ []) (commits_walk P)
commits_walk (Began t s k i ∷ P) = step (Began t s k i) P ∙ append_none (commits_in (reverse P)) ∙ commits_walk P
commits_walk (Got t x w v ∷ P) = step (Got t x w v) P ∙ append_none (commits_in (reverse P)) ∙ commits_walk P
commits_walk (Put t x v ∷ P) = step (Put t x v) P ∙ append_none (commits_in (reverse P)) ∙ commits_walk P
commits_walk (Ready t ∷ P) = step (Ready t) P ∙ append_none (commits_in (reverse P)) ∙ commits_walk P
commits_walk (Gone t c ∷ P) = step (Gone t c) P ∙ append_none (commits_in (reverse P)) ∙ commits_walk P
commits_walk (Told t ∷ P) = step (Told t) P ∙ append_none (commits_in (reverse P)) ∙ commits_walk P

-- no transaction commits twice
commits_distinct : (S : Setup) (H : List Event) → Lawful S H → Distinct (committed_in H)
unfolding Lawful
commits_distinct S [] l = tt
commits_distinct S (Done u ∷ P) l = Pairs-append (λ t w. t ≢ w) (committed_in P) (u.0 ∷ []) (commits_distinct S P l.1) ((λ t i. absurd i), tt)
    (λ t w i j. elim j [ inl e ↦ (λ q. both_ways _ (unfinished_parts P u.0 l.0.unfinished).1 (committed_from P u.0 (subst (Commits P) (q ∙ sym e) (committed-In P t i)))) | inr k ↦ absurd k ])
commits_distinct S (Began u s k n ∷ P) l = commits_distinct S P l.1
commits_distinct S (Got u x w v ∷ P) l = commits_distinct S P l.1
commits_distinct S (Put u x v ∷ P) l = commits_distinct S P l.1
commits_distinct S (Ready u ∷ P) l = commits_distinct S P l.1
commits_distinct S (Gone u c ∷ P) l = commits_distinct S P l.1
commits_distinct S (Told u ∷ P) l = commits_distinct S P l.1

-- 1 if u is t, else 0
abbrev hits : ℕ → ℕ → ℕ
hits t u = cond (eqb u t) 1 0

count : ℕ → List ℕ → ℕ
count t [] = 0
count t (u ∷ us) = hits t u + count t us

count_sum : (t : ℕ) (us : List ℕ) → count t us ≡ sum_by (hits t) us
unfolding count
count_sum t [] = refl
count_sum t (u ∷ us) = ap (λ (k : ℕ). hits t u + k) (count_sum t us) ∙ sym (sum_by-cons (hits t) u us)

count-In : (t : ℕ) (us : List ℕ) → 0 < count t us → In t us
unfolding count
count-In t [] h = absurd (omega arith)
count-In t (u ∷ us) h = go (eqb u t) refl h (count-In t us)
  where
    go : (b : Bool) → eqb u t ≡ b → 0 < cond b 1 0 + count t us → (0 < count t us → In t us) → In t (u ∷ us)
    go true e k ih = inl (eqb-true u t e)
    go false e k ih = inr (ih (let z : 0 < 0 + count t us = k in omega arith))

In-count : (t : ℕ) (us : List ℕ) → In t us → 0 < count t us
unfolding count
In-count t [] i = absurd i
In-count t (u ∷ us) i = go (eqb u t) refl (In-count t us)
  where
    go : (b : Bool) → eqb u t ≡ b → (In t us → 0 < count t us) → 0 < cond b 1 0 + count t us
    go true e ih = (let z : 0 < 1 + count t us = omega arith in z)
    go false e ih = elim i [ inl q ↦ absurd (both_ways _ e (eq-eqb u t q)) | inr j ↦ (let z : 0 < count t us = ih j in let y : 0 < 0 + count t us = omega arith in y) ]

one_more : (b : Bool) (k : ℕ) → k ≤ 1 → (b ≡ true → 0 < k → ⊥) → cond b 1 0 + k ≤ 1
one_more true zero h f = (let z : 1 + 0 ≤ 1 = omega arith in z)
one_more true (suc k) h f = absurd (f refl (omega arith))
one_more false k h f = (let z : 0 + k ≤ 1 = omega arith in z)

count_distinct : (t : ℕ) (us : List ℕ) → Distinct us → count t us ≤ 1
unfolding count
count_distinct t [] d = omega arith
count_distinct t (u ∷ us) d = one_more (eqb u t) (count t us) (count_distinct t us d.1) (λ e z. d.0 t (count-In t us z) (eqb-true u t e))

less_one : (b : Bool) (k : ℕ) → cond b 1 0 + k ≤ 1 → k ≤ 1
less_one true k h = let z : 1 + k ≤ 1 = h in omega arith
less_one false k h = let z : 0 + k ≤ 1 = h in omega arith

twice : (b : Bool) (k : ℕ) → b ≡ true → 0 < k → cond b 1 0 + k ≤ 1 → ⊥
twice true k e z h = let y : 1 + k ≤ 1 = h in absurd (omega arith)
twice false k e z h = absurd (cc)

distinct_count : (us : List ℕ) → ((t : ℕ) → count t us ≤ 1) → Distinct us
unfolding count
distinct_count [] f = tt
distinct_count (u ∷ us) f = (
  (λ t i q. twice (eqb u u) (count u us) (eq-eqb u u refl) (In-count u us (subst (λ (k : ℕ). In k us) (sym q) i)) (f u)),
  distinct_count us (λ t. less_one (eqb u t) (count t us) (f t)),
)

count_moved : (t : ℕ) (us ws : List ℕ) → IsPermutation us ws → count t ws ≡ count t us
count_moved t us ws m = count_sum t ws ∙ sum_by-IsPermutation (hits t) us ws m ∙ sym (count_sum t us)

-- the lexicographic order of keys is that of std
pub lex_is : (xs ys : List ℕ) → lex xs ys ≡ is_lt (slice_cmp nat_cmp xs ys)
unfolding lex
lex_is [] [] = refl
lex_is (x ∷ xs) [] = refl
lex_is [] (y ∷ ys) = refl
lex_is (x ∷ xs) (y ∷ ys) = ap (λ (b : Bool). ltb x y || (eqb x y && b)) (lex_is xs ys) ∙ then_is (ltb x y) (eqb x y) (slice_cmp nat_cmp xs ys)
  where
    then_is : (a b : Bool) (o : Ordering) → (a || (b && is_lt o)) ≡ is_lt (ordering_then (cond a Less (cond b Equal Greater)) o)
    then_is true b o = refl
    then_is false true o = refl
    then_is false false o = refl

-- a list that holds each of the committed transactions once, and is sorted by their keys
module _ (S : Setup) (a : TreeFacts S) (H : List Event) (l : Lawful S H) where
  strict_pairs : (us : List ℕ) → Distinct us → ((t : ℕ) → In t us → Commits H t) → Pairs (λ t u. serially S H u t ≡ false) us → Sorted (serially S H) us
  strict_pairs [] d c p = tt
  strict_pairs (u ∷ us) d c p = ((λ t i. (serial_strict S a H l).total t u (c t (inr i)) (c u (inl refl)) (λ q. d.0 t i (sym q)) (p.0 t i)), strict_pairs us d.1 (λ t i. c t (inr i)) p.1)

  pub order_is : (us : List ℕ) → IsPermutation (committed_in H) us → Pairs (λ t u. serially S H u t ≡ false) us → us ≡ serial_order S H
  order_is us m p =
      let same : ((t : ℕ) → count t us ≡ count t (committed_in H)) = λ t. counts t in
      let d : Distinct us = distinct_count us (λ t. subst (λ (k : ℕ). k ≤ 1) (sym (same t)) (count_distinct t (committed_in H) (commits_distinct S H l))) in
      let each : ((t : ℕ) → In t us → Commits H t) = λ t i. committed-In H t (count-In t (committed_in H) (subst (λ (k : ℕ). 0 < k) (same t) (In-count t us i))) in
      sorted_unique (serially S H) (Commits H) (serial_strict S a H l) us (serial_order S H) each (order_each S a H l) (strict_pairs us d each p) (order_sorted S a H l)
      (λ t i. order_all S a H l t (each t i))
      (λ t i. count-In t us (subst (λ (k : ℕ). 0 < k) (sym (same t)) (In-count t (committed_in H) (In-committed H t (order_each S a H l t i)))))
    where
      counts : (t : ℕ) → count t us ≡ count t (committed_in H)
      counts t = count_moved t (committed_in H) us m

-- each number of the entries is that of an entry at some index
In_place : (u : ℕ) (es : List Entry) → In u (entry_numbers es) → (i : ℕ) × (i < length es) × ((d : Entry) → (get_or es i d).txn.0 ≡ u)
In_place u [] i = absurd i
In_place u (e ∷ es) i = elim i [ inl q ↦ (zero, omega arith, λ d. q) | inr j ↦ (let r = In_place u es j in (suc r.0, (let z = r.1 in omega arith), r.2)) ]

pairs_numbers : (R : ℕ → ℕ → Type 0) (es : List Entry) → ((i j : ℕ) (d : Entry) → i < j → j < length es → R (get_or es i d).txn.0 (get_or es j d).txn.0) → Pairs R (entry_numbers es)
pairs_numbers R [] f = tt
pairs_numbers R (e ∷ es) f = (
  (λ u i. let r = In_place u es i in subst (λ (k : ℕ). R e.txn.0 k) (r.2 e) (f zero (suc r.0) e (omega arith) (let z = r.1 in omega arith))),
  pairs_numbers R es (λ i j d h k. f (suc i) (suc j) d (omega arith) (omega arith)),
)

-- entries with their keys, sorted by std
module _ (S : Setup) (a : TreeFacts S) (H : List Event) (l : Lawful S H) (ns : List ℕ) (es : List Entry) (done : All (λ (e : Entry). Commits H e.txn.0) es) (have : HaveKeys S H ns es)
    (up : IsSortedBy (λ d e. is_lt (slice_cmp nat_cmp (key_of ns d) (key_of ns e))) es) where
  later : (i j : ℕ) (d : Entry) → i < j → j < length es → serially S H (get_or es j d).txn.0 (get_or es i d).txn.0 ≡ false
  later i j d h k =
      let e = get_or es j d in
      let f = get_or es i d in
      elim (cases_eq e.txn.0 f.txn.0) [
        | inl same ↦ subst (λ (t : ℕ). serially S H e.txn.0 t ≡ false) same ((serial_strict S a H l).irreflexive e.txn.0 (done j d k))
        | inr ne ↦ (
            let far = sorted_far (λ (x y : Entry). is_lt (slice_cmp nat_cmp (key_of ns x) (key_of ns y))) (ranks_by nat_list_cmp_total (key_of ns)) es up i j d (omega arith) k in
            serially_cut S a H e.txn.0 f.txn.0 l (done j d k) (done i d (omega arith)) ne ∙ ap₂ lex (sym (have j d k).is) (sym (have i d (omega arith)).is) ∙ lex_is (key_of ns e) (key_of ns f) ∙ far
            )
      ]

number_there : (es : List Entry) (k : ℕ) (d : Entry) → k < length es → In (get_or es k d).txn.0 (entry_numbers es)
number_there [] k d low = absurd (omega arith)
number_there (e ∷ es) zero d low = inl refl
number_there (e ∷ es) (suc k) d low = inr (number_there es k d (omega arith))

pub entries_ordered : (S : Setup) (a : TreeFacts S) (H : List Event) → Lawful S H → (ns : List ℕ) (xs es : List Entry) → entry_numbers xs ≡ commits_in (reverse H) → HaveKeys S H ns xs
    → IsPermutation xs es →
    IsSortedBy (λ d e. is_lt (slice_cmp nat_cmp (key_of ns d) (key_of ns e))) es → entry_numbers es ≡ serial_order S H
entries_ordered S a H l ns xs es numbers have m up =
    let all = numbers ∙ commits_walk H in
    let done : All (λ (e : Entry). Commits H e.txn.0) xs = λ k d low. committed-In H (get_or xs k d).txn.0 (subst (In (get_or xs k d).txn.0) all (number_there xs k d low)) in
    order_is S a H l (entry_numbers es) (subst (λ (us : List ℕ). IsPermutation us (entry_numbers es)) all (IsPermutation-map (λ (e : Entry). e.txn.0) xs es m))
    (pairs_numbers (λ u t. serially S H t u ≡ false) es
    (λ i j d. later S a H l ns es (All-permutation (λ (e : Entry). Commits H e.txn.0) xs es m done) (All-permutation (HasKey S H ns) xs es m have) up i j d))

-- the commits in a list of events, event by event
drop_there : (es : List Event) (i : ℕ) (e : Event) → slice_get es i ≡ Some e → drop i es ≡ e ∷ drop (i + 1) es
drop_there [] i e h = absurd (cc)
drop_there (d ∷ es) zero e h = let q : d ≡ e = cc in ap (λ (z : Event). z ∷ es) q ∙ ap (λ (k : ℕ). e ∷ drop k (d ∷ es)) (let z : suc 0 ≡ 0 + 1 = omega arith in z)
drop_there (d ∷ es) (suc i) e h = drop_there es i e h ∙ ap (λ (k : ℕ). e ∷ drop k (d ∷ es)) (let z : suc (i + 1) ≡ suc i + 1 = omega arith in z)

skip_commit : (e : Event) (es : List Event) → ((t : Txn) → e ≡ Done t → ⊥) → commits_in (e ∷ es) ≡ commits_in es
skip_commit (Done t) es n = absurd (n t refl)
skip_commit (Began t s k i) es n = refl
skip_commit (Got t x w v) es n = refl
skip_commit (Put t x v) es n = refl
skip_commit (Ready t) es n = refl
skip_commit (Gone t c) es n = refl
skip_commit (Told t) es n = refl

pub numbers_skip : (ns ts : List ℕ) (es : List Event) (i : ℕ) (e : Event) → slice_get es i ≡ Some e → ((t : Txn) → e ≡ Done t → ⊥) → ns ++ commits_in (drop i es) ≡ ts → ns
    ++ commits_in (drop (i + 1) es) ≡ ts
numbers_skip ns ts es i e h n q = ap (λ (us : List ℕ). ns ++ us) (sym (ap commits_in (drop_there es i e h) ∙ skip_commit e (drop (i + 1) es) n)) ∙ q

entries_append : (xs : List Entry) (e : Entry) → entry_numbers (xs ++ e ∷ []) ≡ entry_numbers xs ++ e.txn.0 ∷ []
entries_append [] e = refl
entries_append (x ∷ xs) e = ap (λ (us : List ℕ). x.txn.0 ∷ us) (entries_append xs e)

one_by_one : (ns us : List ℕ) (t : ℕ) → (ns ++ t ∷ []) ++ us ≡ ns ++ (t ∷ us)
one_by_one [] us t = refl
one_by_one (n ∷ ns) us t = ap (λ (ws : List ℕ). n ∷ ws) (one_by_one ns us t)

pub numbers_more : (xs : List Entry) (n : Entry) (ts : List ℕ) (es : List Event) (i : ℕ) (t : Txn) → slice_get es i ≡ Some (Done t) → n.txn ≡ t → entry_numbers xs ++ commits_in (drop i es) ≡ ts
    → entry_numbers (xs ++ n ∷ []) ++ commits_in (drop (i + 1) es) ≡ ts
numbers_more xs n ts es i t h e q =
    ap (λ (us : List ℕ). us ++ commits_in (drop (i + 1) es)) (entries_append xs n) ∙ one_by_one (entry_numbers xs) (commits_in (drop (i + 1) es)) n.txn.0
    ∙ ap (λ (u : Txn). entry_numbers xs ++ (u.0 ∷ commits_in (drop (i + 1) es))) e
    ∙ sym (ap (λ (us : List Event). entry_numbers xs ++ commits_in us) (drop_there es i (Done t) h)) ∙ q

get_or-before : (xs : List Entry) (b d : Entry) (n : ℕ) → n < length xs → get_or (xs ++ b ∷ []) n d ≡ get_or xs n d
get_or-before [] b d n h = absurd (omega arith)
get_or-before (x ∷ xs) b d zero h = refl
get_or-before (x ∷ xs) b d (suc n) h = get_or-before xs b d n (omega arith)

get_or-behind : (xs : List Entry) (b d : Entry) → get_or (xs ++ b ∷ []) (length xs) d ≡ b
get_or-behind [] b d = refl
get_or-behind (x ∷ xs) b d = get_or-behind xs b d

-- one more entry, whose key is after the numbers so far
module _ (S : Setup) (H : List Event) (ns ms : List ℕ) where
  key_still : (e : Entry) → HasKey S H ns e → HasKey S H (ns ++ ms) e
  key_still e h = record {
    within = (let y = h.within in let z = length-append ns ms in omega arith);
    is = ap (drop e.start) (take-append-le e.end ns ms h.within) ∙ h.is;
  }

  key_new : (e : Entry) → e.start ≡ length ns → e.end ≡ length (ns ++ ms) → ms ≡ cut_key S H e.txn.0 → HasKey S H (ns ++ ms) e
  key_new e s t q = record {
    within = omega arith;
    is = ap₂ (λ (i j : ℕ). drop i (take j (ns ++ ms))) s t ∙ ap (drop (length ns)) (take_all (length (ns ++ ms)) (ns ++ ms) (le_refl _)) ∙ drop-append_seam ns ms ∙ q;
  }

  pub keys_more : (xs : List Entry) (e : Entry) → HaveKeys S H ns xs → e.start ≡ length ns → e.end ≡ length (ns ++ ms) → ms ≡ cut_key S H e.txn.0 → HaveKeys S H (ns ++ ms) (xs ++ e ∷ [])
  keys_more xs e h s t q k d low = elim (cases_lt k (length xs)) [
    | inl r ↦ subst (HasKey S H (ns ++ ms)) (sym (get_or-before xs e d k r)) (key_still (get_or xs k d) (h k d r))
    | inr r ↦ (let z : length xs ≡ k = (let y = length-append xs (e ∷ []) in let w : k < length xs + 1 = subst (λ (m : ℕ). k < m) y low in omega arith) in
        subst (λ (m : ℕ). HasKey S H (ns ++ ms) (get_or (xs ++ e ∷ []) m d)) z (subst (HasKey S H (ns ++ ms)) (sym (get_or-behind xs e d)) (key_new e s t q)))
  ]
