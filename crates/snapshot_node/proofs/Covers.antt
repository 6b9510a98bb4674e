-- A walk along a list that establishes R for each number that has Q with a visited item.
use Rattle.std.proofs.Common.{◌≡◌, ℕ, List, [], ◌∷◌, ◌⊎◌, inl, inr, sym, subst}
use Rattle.snapshot_node.proofs.Least.{Along}

-- R holds of each number that has Q with a visited item; the items `left` are still to come
abbrev pub Covers : {X : Type 0} → (X → ℕ → Type 0) → (ℕ → Type 0) → List X → List X → Type 0
Covers Q R all left = (u : ℕ) → Along Q all u → R u ⊎ Along Q left u

module _ {X : Type 0} (Q : X → ℕ → Type 0) (R : ℕ → Type 0) (all : List X) where
  pub covers_start : (left : List X) → left ≡ all → Covers Q R all left
  covers_start left e = λ u h. inr (subst (λ (xs : List X). Along Q xs u) (sym e) h)

  pub covers_next : (x : X) (left rest : List X) → left ≡ x ∷ rest → Covers Q R all left → ((u : ℕ) → Q x u → R u) → Covers Q R all rest
  covers_next x left rest e h f = λ u a. elim (h u a) [
    | inl r ↦ inl r
    | inr b ↦ elim (subst (λ (xs : List X). Along Q xs u) e b) [ inl q ↦ inl (f u q) | inr k ↦ inr k ]
  ]

  pub covers_end : (left : List X) → left ≡ [] → Covers Q R all left → (u : ℕ) → Along Q all u → R u
  covers_end left e h u a = elim (h u a) [ inl r ↦ r | inr b ↦ absurd (subst (λ (xs : List X). Along Q xs u) e b) ]

  -- R can be weakened during the walk
  pub covers_more : (R' : ℕ → Type 0) (left : List X) → ((u : ℕ) → R u → R' u) → Covers Q R all left → Covers Q R' all left
  covers_more R' left f h = λ u a. elim (h u a) [ inl r ↦ inl (f u r) | inr b ↦ inr b ]
