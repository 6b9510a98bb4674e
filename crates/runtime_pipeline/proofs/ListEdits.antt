-- The effect of edits on the lists that are kept by transaction.
use Rattle.std.proofs.Common.{◌≡◌, ℕ, suc, ◌+◌, ◌<◌, ◌≤◌, Bool, true, false, cond, not, ◌||◌, eqb, List, [], ◌∷◌, length, drop, get_or, refl, sym, ◌∙◌, ap, subst, arith, IsFalse}
use Rattle.std.proofs.lemmas.Bool.{both_ways, eqb-true, eq-eqb, ne_eqb}
use Rattle.std.proofs.lemmas.List.Filters.{length-filter_both}
use Rattle.std.proofs.lemmas.Map.Views.{any-filter_same}
use Rattle.std.specs.Ordering.{is_eq}
use Rattle.std.proofs.Math.Seq.{drop-cons}
use Rattle.teb_rules.specs.declared.names.Txn.{Txn}
use Rattle.teb_rules.specs.history.Ascending.{IsAscendingBy, put_by}
use Rattle.teb_rules.specs.history.Live.{number_of}
use Rattle.teb_rules.proofs.lemmas.history.AscendingLists.{ascending-filter, ascending-put}
use Rattle.sorted_multimap.specs.Multimap.{Shown, values_in}
use Rattle.hold_book.specs.declared.Hold.{Hold}
use Rattle.sorted_multimap.specs.Keys.{txn_cmp}
use Rattle.sorted_multimap.proofs.TxnKeys.{eqb-is_eq}
use Rattle.dependency_book.specs.Dependencies.{has}
use Rattle.dependency_book.proofs.MultimapEdits.{one_txn}
use Rattle.runtime_pipeline.specs.Predecessors.{joined, without}

-- only the list of t is edited
module _ (f : Txn → List Txn) (g : List Txn → List Txn) (t v : Txn) where
  pub edited : (xs : List Txn) → xs ≡ g (f t) → cond (is_eq (txn_cmp t v)) xs (f v) ≡ cond (eqb t.0 v.0) (g (f v)) (f v)
  edited xs e = ap (λ (b : Bool). cond b xs (f v)) (sym (eqb-is_eq t.0 v.0)) ∙ go (eqb t.0 v.0) refl
    where
      go : (b : Bool) → eqb t.0 v.0 ≡ b → cond b xs (f v) ≡ cond b (g (f v)) (f v)
      go true h = e ∙ ap (λ (z : Txn). g (f z)) (one_txn t v h)
      go false h = refl

without_twice : (t : ℕ) (us : List Txn) → without t (without t us) ≡ without t us
without_twice t [] = refl
without_twice t (u ∷ us) = go (eqb u.0 t) refl (without_twice t us)
  where
    go : (b : Bool) → eqb u.0 t ≡ b → without t (without t us) ≡ without t us → without t (cond (not b) (u ∷ without t us) (without t us)) ≡ cond (not b) (u ∷ without t us) (without t us)
    go true e ih = ih
    go false e ih = ap (λ (b : Bool). cond (not b) (u ∷ without t (without t us)) (without t (without t us))) e ∙ ap (λ (l : List Txn). u ∷ l) ih

-- removing t from a list that has it makes the list shorter
pub without_less : (t : Txn) (us : List Txn) → has t us ≡ true → length (without t.0 us) < length us
without_less t [] h = absurd (cc)
without_less t (u ∷ us) h = go (eqb u.0 t.0) refl (without_less t us)
  where
    go : (b : Bool) → eqb u.0 t.0 ≡ b → (has t us ≡ true → length (without t.0 us) < length us) → length (cond (not b) (u ∷ without t.0 us) (without t.0 us)) < suc (length us)
    go true e ih = let l = length-filter_both (λ (u : Txn). not (eqb u.0 t.0)) (λ (u : Txn). not (not (eqb u.0 t.0))) (λ u. refl) us in omega arith
    go false e ih = let l = ih (sym (ap (λ (b : Bool). b || has t us) e) ∙ h) in omega arith

-- only the transactions in `behind` have lists; t is removed from the lists and from `behind`
module _ (t : Txn) (behind : List Txn) (lists : Txn → List Txn) (all : (v : Txn) → IsFalse (has v behind) → lists v ≡ []) where
  pub taken_out : (v : Txn) → cond (has v behind) (without t.0 (lists v)) (lists v) ≡ without t.0 (lists v)
  taken_out v = go (has v behind) refl
    where
      go : (b : Bool) → has v behind ≡ b → cond b (without t.0 (lists v)) (lists v) ≡ without t.0 (lists v)
      go true h = refl
      go false h = all v h ∙ sym (ap (without t.0) (all v h))

  pub finished : (left : List Txn) → left ≡ without t.0 behind → (v : Txn) → IsFalse (has v left) → cond (eqb t.0 v.0) [] (without t.0 (lists v)) ≡ []
  finished left is v n = go (eqb t.0 v.0) refl
    where
      go : (b : Bool) → eqb t.0 v.0 ≡ b → cond b [] (without t.0 (lists v)) ≡ []
      go true h = refl
      go false h = ap (without t.0)
          (all v (sym (any-filter_same (λ (u : Txn). eqb u.0 v.0) (λ u. not (eqb u.0 t.0)) true (λ u q. ap not (ne_eqb u.0 t.0 (λ e. both_ways _ h (eq-eqb t.0 v.0 (sym e ∙ eqb-true u.0 v.0 q)))))
          behind) ∙ ap (has v) (sym is) ∙ n))

-- t remains to be removed from the lists of `rest`; the result is the same as removing it from those of `us`, starting at a
pub record IsTaking (t : ℕ) (us rest : List Txn) (a b : Shown Txn Txn) : Type 0 where
  pub values : (v : Txn) → cond (has v rest) (without t (values_in txn_cmp b v)) (values_in txn_cmp b v) ≡ cond (has v us) (without t (values_in txn_cmp a v)) (values_in txn_cmp a v)
  pub ascending : (v : Txn) → IsAscendingBy number_of (values_in txn_cmp b v)
  pub spare : b.spare ≡ a.spare

-- the holders `rest` remain to be put into t's list, which gives the same as putting `hs` at a; `some` tells whether one was put
pub record IsPutting (p : Hold → Bool) (t : Txn) (hs rest : List Hold) (i : ℕ) (some : Bool) (a b : Shown Txn Txn) : Type 0 where
  pub values : (v : Txn) → cond (eqb t.0 v.0) (joined p rest (values_in txn_cmp b v)) (values_in txn_cmp b v) ≡ cond (eqb t.0 v.0) (joined p hs (values_in txn_cmp a v)) (values_in txn_cmp a v)
  pub ascending : IsAscendingBy number_of (values_in txn_cmp b t)
  pub none : IsFalse some → (v : Txn) → values_in txn_cmp b v ≡ values_in txn_cmp a v
  pub spare : a.spare ≤ b.spare + i

-- t is removed from one more list
module _ (t : ℕ) (us : List Txn) where
  one_more : (o r : Bool) (xs : List Txn) → cond r (without t (cond o (without t xs) xs)) (cond o (without t xs) xs) ≡ cond (o || r) (without t xs) xs
  one_more true true xs = without_twice t xs
  one_more true false xs = refl
  one_more false r xs = refl

  kept : (o : Bool) (xs : List Txn) → IsAscendingBy number_of xs → IsAscendingBy number_of (cond o (without t xs) xs)
  kept true xs h = ascending-filter number_of (λ u. not (eqb u.0 t)) xs h
  kept false xs h = h

  pub taking_more : (a b c : Shown Txn Txn) (i : ℕ) (d : Txn) → i < length us → IsTaking t us (drop i us) a b
      → ((v : Txn) → values_in txn_cmp c v ≡ cond (eqb (get_or us i d).0 v.0) (without t (values_in txn_cmp b v)) (values_in txn_cmp b v)) → c.spare ≡ b.spare
      → IsTaking t us (drop (i + 1) us) a c
  taking_more a b c i d l was taken spare =
      let n : suc i ≡ i + 1 = omega arith in
      let next : drop i us ≡ get_or us i d ∷ drop (i + 1) us = drop-cons us i d l ∙ ap (λ (k : ℕ). get_or us i d ∷ drop k us) n in
      let out = λ (v : Txn) (ts : List Txn). cond (has v ts) (without t (values_in txn_cmp b v)) (values_in txn_cmp b v) in
      record {
        values = λ v. ap (λ (xs : List Txn). cond (has v (drop (i + 1) us)) (without t xs) xs) (taken v)
            ∙ one_more (eqb (get_or us i d).0 v.0) (has v (drop (i + 1) us)) (values_in txn_cmp b v) ∙ ap (out v) (sym next) ∙ was.values v;
        ascending = λ v. subst (IsAscendingBy number_of) (sym (taken v)) (kept (eqb (get_or us i d).0 v.0) (values_in txn_cmp b v) (was.ascending v));
        spare = spare ∙ was.spare;
      }

-- one more holder is put into the list, or passed over
module _ (p : Hold → Bool) (t : Txn) (hs : List Hold) where
  one_put : (rest : List Hold) (o : Bool) (xs ys : List Txn) → cond o (joined p rest (cond o ys xs)) (cond o ys xs) ≡ cond o (joined p rest ys) xs
  one_put rest true xs ys = refl
  one_put rest false xs ys = refl

  put_kept : (o q : Bool) (u : Txn) (xs : List Txn) → IsAscendingBy number_of xs → IsAscendingBy number_of (cond o (cond q (put_by number_of u xs) xs) xs)
  put_kept true true u xs h = ascending-put number_of u xs h
  put_kept true false u xs h = h
  put_kept false q u xs h = h

  putting_more : (a b c : Shown Txn Txn) (i : ℕ) (d : Hold) (s o : Bool) → i < length hs → IsPutting p t hs (drop i hs) i s a b
      → ((v : Txn) → values_in txn_cmp c v ≡ cond (eqb t.0 v.0) (cond (p (get_or hs i d)) (put_by number_of (get_or hs i d).txn (values_in txn_cmp b v)) (values_in txn_cmp b v))
      (values_in txn_cmp b v)) → (IsFalse o → (v : Txn) → values_in txn_cmp c v ≡ values_in txn_cmp a v) → b.spare ≤ c.spare + 1
      → IsPutting p t hs (drop (i + 1) hs) (i + 1) o a c
  putting_more a b c i d s o l was put none spare =
      let n : suc i ≡ i + 1 = omega arith in
      let h = get_or hs i d in
      let next : drop i hs ≡ get_or hs i d ∷ drop (i + 1) hs = drop-cons hs i d l ∙ ap (λ (k : ℕ). get_or hs i d ∷ drop k hs) n in
      record {
        values = λ v. ap (λ (xs : List Txn). cond (eqb t.0 v.0) (joined p (drop (i + 1) hs) xs) xs) (put v)
            ∙ one_put (drop (i + 1) hs) (eqb t.0 v.0) (values_in txn_cmp b v) (cond (p h) (put_by number_of h.txn (values_in txn_cmp b v)) (values_in txn_cmp b v))
            ∙ ap (λ (ks : List Hold). cond (eqb t.0 v.0) (joined p ks (values_in txn_cmp b v)) (values_in txn_cmp b v)) (sym next) ∙ was.values v;
        ascending = subst (IsAscendingBy number_of) (sym (put t)) (put_kept (eqb t.0 t.0) (p h) h.txn (values_in txn_cmp b t) was.ascending);
        none = none;
        spare = omega (arith, was.spare);
      }

  same : (o : Bool) (xs : List Txn) → xs ≡ cond o xs xs
  same true xs = refl
  same false xs = refl

  pub putting_in : (a b c : Shown Txn Txn) (i : ℕ) (d : Hold) (s : Bool) → i < length hs → IsPutting p t hs (drop i hs) i s a b → p (get_or hs i d) ≡ true
      → ((v : Txn) → values_in txn_cmp c v ≡ cond (eqb t.0 v.0) (put_by number_of (get_or hs i d).txn (values_in txn_cmp b v)) (values_in txn_cmp b v)) → b.spare ≤ c.spare + 1
      → IsPutting p t hs (drop (i + 1) hs) (i + 1) true a c
  putting_in a b c i d s l was q put spare = putting_more a b c i d s true l was
      (λ v. put v ∙ sym (ap (λ (o : Bool). cond (eqb t.0 v.0) (cond o (put_by number_of (get_or hs i d).txn (values_in txn_cmp b v)) (values_in txn_cmp b v)) (values_in txn_cmp b v)) q))
      (λ n. absurd (cc)) spare

  pub putting_none : (a b : Shown Txn Txn) (i : ℕ) (d : Hold) (s : Bool) → i < length hs → IsPutting p t hs (drop i hs) i s a b → p (get_or hs i d) ≡ false
      → IsPutting p t hs (drop (i + 1) hs) (i + 1) s a b
  putting_none a b i d s l was q = putting_more a b b i d s s l was
      (λ v. same (eqb t.0 v.0) (values_in txn_cmp b v)
      ∙ sym (ap (λ (o : Bool). cond (eqb t.0 v.0) (cond o (put_by number_of (get_or hs i d).txn (values_in txn_cmp b v)) (values_in txn_cmp b v)) (values_in txn_cmp b v)) q)) was.none
      (omega arith)
