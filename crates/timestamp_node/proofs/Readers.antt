-- The reads of a history at a node.
use Rattle.std.proofs.Common.{◌≡◌, ℕ, Bool, true, false, cond, List, [], ◌∷◌, ◌++◌, filter, refl, ◌∙◌, eq-eqb, inl, inr}
use Rattle.std.specs.List.{list_any}
use Rattle.std.proofs.lemmas.Bool.{and_parts, and_from, or_left, or_right, or_cases, not-true}
use Rattle.teb_rules.specs.declared.names.Txn.{Txn}
use Rattle.teb_rules.specs.declared.names.Cell.{Cell}
use Rattle.teb_rules.specs.names.Cells.{same_cell}
use Rattle.teb_rules.specs.declared.history.Event.{Event}
use Rattle.teb_rules.specs.declared.history.Event.TheVariants.{Got}
use Rattle.teb_rules.specs.history.Phases.{aborted}
use Rattle.teb_rules.specs.history.Accesses.{is_got, got_at, got}
use Rattle.teb_rules.proofs.lemmas.history.Any.{came_any}
use Rattle.teb_rules.specs.Setup.{Setup}
use Rattle.teb_rules.specs.Tree.{on}
use Rattle.phase_api.specs.Versions.{reads_from}
use Rattle.timestamp_node.specs.Reads.{all_reads, reads}

-- a property of each element of a list
abbrev pub AllOf : {A : Type 0} → (A → Type 0) → List A → Type 0
AllOf p [] = Unit {0}
AllOf p (x ∷ xs) = p x × AllOf p xs

module _ {A : Type 0} where
  pub all_map : (p q : A → Type 0) → ((x : A) → p x → q x) → (xs : List A) → AllOf p xs → AllOf q xs
  all_map p q f [] h = tt
  all_map p q f (x ∷ xs) h = (f x h.0, all_map p q f xs h.1)

  pub all_push : (p : A → Type 0) (xs : List A) (a : A) → AllOf p xs → p a → AllOf p (xs ++ a ∷ [])
  all_push p [] a h k = (k, tt)
  all_push p (x ∷ xs) a h k = (h.0, all_push p xs a h.1 k)

  all_filter : (p : A → Type 0) (t : A → Bool) (xs : List A) → AllOf p xs → AllOf (λ x. (t x ≡ true) × p x) (filter t xs)
  all_filter p t [] h = tt
  all_filter p t (x ∷ xs) h = go (t x) refl (all_filter p t xs h.1)
    where
      go : (b : Bool) → t x ≡ b → AllOf (λ x. (t x ≡ true) × p x) (filter t xs) → AllOf (λ x. (t x ≡ true) × p x) (cond b (x ∷ filter t xs) (filter t xs))
      go true e ih = ((e, h.0), ih)
      go false e ih = ih

  -- tests that agree on a list select the same from it
  pub filter_agree : (p q : A → Bool) (xs : List A) → AllOf (λ x. p x ≡ q x) xs → filter p xs ≡ filter q xs
  filter_agree p q [] h = refl
  filter_agree p q (x ∷ xs) h = λ j. cond (h.0 j) (x ∷ filter_agree p q xs h.1 j) (filter_agree p q xs h.1 j)

  pub filter_alike : (p q : A → Bool) → ((x : A) → p x ≡ q x) → (xs : List A) → filter p xs ≡ filter q xs
  filter_alike p q f [] = refl
  filter_alike p q f (x ∷ xs) = λ j. cond (f x j) (x ∷ filter_alike p q f xs j) (filter_alike p q f xs j)

any_implies : (p q : Event → Bool) → ((e : Event) → p e ≡ true → q e ≡ true) → (H : List Event) → list_any p H ≡ true → list_any q H ≡ true
any_implies p q f [] h = h
any_implies p q f (e ∷ P) h = elim (or_cases (p e) (list_any p P) h) [ inl k ↦ or_left (q e) _ (f e k) | inr k ↦ or_right (q e) _ (any_implies p q f P k) ]

all_read : (P : List Event) (x : Cell) → AllOf (λ r. list_any (reads_from r.0.0 x r.1.0) P ≡ true) (all_reads P x)
unfolding all_reads
all_read [] x = tt
all_read (Got t y w v ∷ P) x = go (same_cell y x) refl (all_map _ _ (λ r h. or_right _ _ h) (all_reads P x) (all_read P x))
  where
    go : (b : Bool) → same_cell y x ≡ b → AllOf (λ r. list_any (reads_from r.0.0 x r.1.0) (Got t y w v ∷ P) ≡ true) (all_reads P x)
        → AllOf (λ r. list_any (reads_from r.0.0 x r.1.0) (Got t y w v ∷ P) ≡ true) (cond b (all_reads P x ++ (t, w) ∷ []) (all_reads P x))
    go true e o = all_push _ (all_reads P x) (t, w) o (or_left _ _ (and_from _ _ (and_from _ _ (eq-eqb t.0 t.0 refl) e) (eq-eqb w.0 w.0 refl)))
    go false e o = o
all_read (_ ∷ P) x = all_read P x

-- r is a Got of x by a transaction that has the node on its path and is not aborted
pub record IsRead (S : Setup) (H : List Event) (n : ℕ) (x : Cell) (r : Txn × Txn) : Type 0 where
  pub here : on S H n r.0.0 ≡ true
  pub stands : aborted H r.0.0 ≡ false
  pub from : list_any (reads_from r.0.0 x r.1.0) H ≡ true

pub reads_are : (S : Setup) (H : List Event) (n : ℕ) (x : Cell) → AllOf (IsRead S H n x) (reads S H n x)
unfolding reads
reads_are S H n x = all_map _ _ (λ r h. let p = and_parts _ _ h.0 in record { here = p.0; stands = not-true _ p.1; from = h.1 }) _ (all_filter _ _ (all_reads H x) (all_read H x))

pub from_got : (H : List Event) (u w : ℕ) (x : Cell) → list_any (reads_from u x w) H ≡ true → got H u x ≡ true
unfolding got got_at
from_got H u w x h = came_any (is_got u x) H ∙ any_implies (reads_from u x w) (is_got u x) one H h
  where
    one : (e : Event) → reads_from u x w e ≡ true → is_got u x e ≡ true
    one (Got s y v c) k = (and_parts _ _ k).0
    one _ k = absurd (cc)

pub all_got : (P : List Event) (x : Cell) → AllOf (λ r. got P r.0.0 x ≡ true) (all_reads P x)
all_got P x = all_map _ _ (λ r h. from_got P r.0.0 r.1.0 x h) (all_reads P x) (all_read P x)
