-- Lists in which each element is in a relation to itself and to all later ones.
use Rattle.std.proofs.Common.{◌≡◌, Bool, true, false, cond, List, [], ◌∷◌, ◌++◌, length, filter, arith}
use Rattle.timestamp_node.proofs.Readers.{AllOf, all_push}

module _ {A : Type 0} where
  unfoldable pub IsOrderedBy : (A → A → Type 0) → List A → Type 0
  IsOrderedBy R [] = Unit {0}
  IsOrderedBy R (x ∷ xs) = AllOf (R x) (x ∷ xs) × IsOrderedBy R xs

  all_with : (p q r : A → Type 0) → ((x : A) → p x → q x → r x) → (xs : List A) → AllOf p xs → AllOf q xs → AllOf r xs
  all_with p q r f [] h k = tt
  all_with p q r f (x ∷ xs) h k = (f x h.0 k.0, all_with p q r f xs h.1 k.1)

  pub all_within : (p : A → Type 0) (xs : List A) (a : A) (ys : List A) → AllOf p (xs ++ a ∷ ys) → p a
  all_within p [] a ys h = h.0
  all_within p (x ∷ xs) a ys h = all_within p xs a ys h.1

  pub all_none : (p : A → Type 0) (xs : List A) → length xs ≡ 0 → AllOf p xs
  all_none p [] h = tt
  all_none p (x ∷ xs) h = absurd (omega arith)

  all_kept : (p : A → Type 0) (q : A → Bool) (xs : List A) → AllOf p xs → AllOf p (filter q xs)
  all_kept p q [] h = tt
  all_kept p q (x ∷ xs) h = go (q x) (all_kept p q xs h.1)
    where
      go : (b : Bool) → AllOf p (filter q xs) → AllOf p (cond b (x ∷ filter q xs) (filter q xs))
      go true ih = (h.0, ih)
      go false ih = ih

  pub ordered_push : (R : A → A → Type 0) (xs : List A) (a : A) → IsOrderedBy R xs → AllOf (λ x. R x a) xs → R a a → IsOrderedBy R (xs ++ a ∷ [])
  unfolding IsOrderedBy
  ordered_push R [] a o h r = ((r, tt), tt)
  ordered_push R (x ∷ xs) a o h r = (all_push (R x) (x ∷ xs) a o.0 h.0, ordered_push R xs a o.1 h.1 r)

  pub ordered_filter : (R : A → A → Type 0) (q : A → Bool) (xs : List A) → IsOrderedBy R xs → IsOrderedBy R (filter q xs)
  unfolding IsOrderedBy
  ordered_filter R q [] o = tt
  ordered_filter R q (x ∷ xs) o = go (q x) (ordered_filter R q xs o.1)
    where
      go : (b : Bool) → IsOrderedBy R (filter q xs) → IsOrderedBy R (cond b (x ∷ filter q xs) (filter q xs))
      go true ih = ((o.0.0, all_kept (R x) q xs o.0.1), ih)
      go false ih = ih

  pub ordered_map : (p : A → Type 0) (R Q : A → A → Type 0) → ((x y : A) → p x → p y → R x y → Q x y) → (xs : List A) → AllOf p xs → IsOrderedBy R xs → IsOrderedBy Q xs
  unfolding IsOrderedBy
  ordered_map p R Q f [] h o = tt
  ordered_map p R Q f (x ∷ xs) h o = (all_with p (R x) (Q x) (λ y k r. f x y h.0 k r) (x ∷ xs) h o.0, ordered_map p R Q f xs h.1 o.1)

  -- every element up to a given one is related to it
  pub ordered_upto : (R : A → A → Type 0) (xs : List A) (a : A) (ys : List A) → IsOrderedBy R (xs ++ a ∷ ys) → AllOf (λ x. R x a) (xs ++ a ∷ [])
  unfolding IsOrderedBy
  ordered_upto R [] a ys o = (o.0.0, tt)
  ordered_upto R (x ∷ xs) a ys o = (all_within (R x) xs a ys o.0.1, ordered_upto R xs a ys o.1)
