-- The least with a property, found piece by piece.
use Rattle.std.proofs.Common.{◌≡◌, ℕ, ◌<◌, ◌≤◌, Bool, true, false, cond, ltb, List, [], ◌∷◌, ◌⊎◌, inl, inr, Option, Some, None, refl, sym, ◌∙◌, ap, subst, arith}
use Rattle.std.proofs.lemmas.Bool.{cases_lt, lt-ltb, le-ltb}
use Rattle.teb_rules.specs.declared.names.Txn.{Txn}
use Rattle.batch_book.specs.Fields.{Has}
use Rattle.snapshot_node.specs.Pivots.{IsLeast, lesser_of}

-- if two properties hold of the same numbers, their least is the same
pub least_as : (P Q : ℕ → Type 0) (o : Option Txn) → ((u : ℕ) → P u → Q u) → ((u : ℕ) → Q u → P u) → IsLeast P o → IsLeast Q o
least_as P Q None f g h = λ u q. h u (g u q)
least_as P Q (Some t) f g h = (f t.0 h.0, λ u q. h.1 u (g u q))

-- the least with one of two properties
pub least_either : (P Q : ℕ → Type 0) (a b : Option Txn) → IsLeast P a → IsLeast Q b → IsLeast (λ u. P u ⊎ Q u) (lesser_of a b)
least_either P Q None None p q = λ u h. elim h [ inl x ↦ p u x | inr y ↦ q u y ]
least_either P Q None (Some w) p q = (inr q.0, λ u h. elim h [ inl x ↦ absurd (p u x) | inr y ↦ q.1 u y ])
least_either P Q (Some t) None p q = (inl p.0, λ u h. elim h [ inl x ↦ p.1 u x | inr y ↦ absurd (q u y) ])
least_either P Q (Some t) (Some w) p q = elim (cases_lt w.0 t.0) [
  | inl l ↦ subst (λ (b : Bool). IsLeast (λ u. P u ⊎ Q u) (Some (cond b w t))) (sym (lt-ltb w.0 t.0 l)) (inr q.0, λ u h. elim h [ inl x ↦ (let z = p.1 u x in omega arith) | inr y ↦ q.1 u y ])
  | inr l ↦ subst (λ (b : Bool). IsLeast (λ u. P u ⊎ Q u) (Some (cond b w t))) (sym (le-ltb w.0 t.0 l)) (inl p.0, λ u h. elim h [ inl x ↦ p.1 u x | inr y ↦ (let z = q.1 u y in omega arith) ])
]

pub lesser_none : (o : Option Txn) → lesser_of o None ≡ o
lesser_none None = refl
lesser_none (Some t) = refl

-- some item of a list has the property Q with u
abbrev pub Along : {X : Type 0} → (X → ℕ → Type 0) → List X → ℕ → Type 0
Along Q [] u = ⊥
Along Q (x ∷ xs) u = Q x u ⊎ Along Q xs u

-- the lesser of two numbers
lesser_number : ℕ → ℕ → ℕ
lesser_number t u = cond (ltb u t) u t

lesser_some : (t u : ℕ) → lesser_of (Some (record { 0 = t })) (Some (record { 0 = u })) ≡ Some (record { 0 = lesser_number t u })
unfolding lesser_number
lesser_some t u = go (ltb u t)
  where
    go : (b : Bool) → Some (cond b (let w : Txn = record { 0 = u } in w) (record { 0 = t })) ≡ Some (record { 0 = cond b u t })
    go true = refl
    go false = refl

lesser_number_three : (t u w : ℕ) → lesser_number (lesser_number t u) w ≡ lesser_number t (lesser_number u w)
unfolding lesser_number
lesser_number_three t u w = elim (cases_lt u t) [
  | inl a ↦ elim (cases_lt w u) [
    | inl b ↦ rw (lt-ltb u t a, lt-ltb w u b, lt-ltb w t (let z : w < t = omega arith in z)) refl
    | inr b ↦ rw (lt-ltb u t a, le-ltb w u b, lt-ltb u t a) refl
  ]
  | inr a ↦ elim (cases_lt w u) [
    | inl b ↦ rw (le-ltb u t a, lt-ltb w u b) refl
    | inr b ↦ rw (le-ltb u t a, le-ltb w u b, le-ltb w t (let z : t ≤ w = omega arith in z), le-ltb u t a) refl
  ]
]

pub lesser_three : (a b c : Option Txn) → lesser_of (lesser_of a b) c ≡ lesser_of a (lesser_of b c)
lesser_three None b c = refl
lesser_three (Some t) None c = refl
lesser_three (Some t) (Some u) None = lesser_none (lesser_of (Some t) (Some u))
lesser_three (Some t) (Some u) (Some w) =
    ap (λ (o : Option Txn). lesser_of o (Some w)) (lesser_some t.0 u.0) ∙ lesser_some (lesser_number t.0 u.0) w.0 ∙ ap (λ (n : ℕ). Some (record { 0 = n })) (lesser_number_three t.0 u.0 w.0)
    ∙ sym (lesser_some t.0 (lesser_number u.0 w.0)) ∙ sym (ap (lesser_of (Some t)) (lesser_some u.0 w.0))

pub lesser_twice : (a b : Option Txn) → lesser_of (lesser_of a b) b ≡ lesser_of a b
lesser_twice a b = lesser_three a b b ∙ ap (lesser_of a) (itself b)
  where
    itself : (o : Option Txn) → lesser_of o o ≡ o
    itself None = refl
    itself (Some t) = go (ltb t.0 t.0)
      where
        go : (z : Bool) → Some (cond z t t) ≡ Some t
        go true = refl
        go false = refl

-- in a walk along a list: the lesser of the best so far and the least by the items `left`, still to come, is the least with P
abbrev pub Remains : {X : Type 0} → (X → ℕ → Type 0) → (ℕ → Type 0) → List X → Option Txn → Type 0
Remains Q P left best = (o : Option Txn) → IsLeast (Along Q left) o → IsLeast P (lesser_of best o)

module _ {X : Type 0} (Q : X → ℕ → Type 0) (P : ℕ → Type 0) where
  pub remains_start : (all left : List X) → left ≡ all → ((u : ℕ) → Along Q all u → P u) → ((u : ℕ) → P u → Along Q all u) → Remains Q P left None
  remains_start all left e f g = λ o h. least_as (Along Q all) P o f g (subst (λ (xs : List X). IsLeast (Along Q xs) o) e h)

  pub remains_next : (x : X) (left rest : List X) (best o : Option Txn) → left ≡ x ∷ rest → Remains Q P left best → IsLeast (Q x) o → Remains Q P rest (lesser_of best o)
  remains_next x left rest best o e h q = λ r k. subst (IsLeast P) (sym (lesser_three best o r))
      (h (lesser_of o r) (subst (λ (xs : List X). IsLeast (Along Q xs) (lesser_of o r)) (sym e) (least_either (Q x) (Along Q rest) o r q k)))

  pub remains_skip : (x : X) (left rest : List X) (best : Option Txn) → left ≡ x ∷ rest → Remains Q P left best → ((u : ℕ) → Q x u → ⊥) → Remains Q P rest best
  remains_skip x left rest best e h none = λ r k. h r
      (subst (λ (xs : List X). IsLeast (Along Q xs) r) (sym e) (least_as (Along Q rest) (λ u. Q x u ⊎ Along Q rest u) r (λ u y. inr y) (λ u z. elim z [ inl q ↦ absurd (none u q) | inr y ↦ y ]) k))

  pub remains_end : (left : List X) (best : Option Txn) → left ≡ [] → Remains Q P left best → IsLeast P best
  remains_end left best e h = subst (IsLeast P) (lesser_none best) (h None (subst (λ (xs : List X). IsLeast (Along Q xs) None) (sym e) (λ u y. y)))

module _ {X : Type 0} (Q : X → ℕ → Type 0) (u : ℕ) where
  pub along_of : (x : X) (xs : List X) → Has x xs → Q x u → Along Q xs u
  unfolding Has
  along_of x [] h q = absurd h
  along_of x (y ∷ ys) h q = elim h [ inl e ↦ inl (subst (λ (z : X). Q z u) (sym e) q) | inr i ↦ inr (along_of x ys i q) ]

  pub along_item : (xs : List X) → Along Q xs u → (x : X) × Has x xs × Q x u
  unfolding Has
  along_item [] h = absurd h
  along_item (y ∷ ys) h = elim h [ inl q ↦ (y, inl refl, q) | inr r ↦ (let i = along_item ys r in (i.0, inr i.1, i.2)) ]
