-- Transactions are numbered from 1 in order of beginning.
use Rattle.std.proofs.Common.{◌≡◌, ◌⊎◌, ℕ, ◌<◌, ◌≤◌, Bool, true, false, ◌||◌, List, [], ◌∷◌, sym, ◌∙◌, ap, inl, inr, arith, eqb}
use Rattle.std.proofs.lemmas.Bool.{eqb-true, eq-eqb, cases_eq}
use Rattle.teb_rules.specs.declared.history.Event.{Event}
use Rattle.teb_rules.specs.declared.history.Event.TheVariants.{Began, Got, Put, Ready, Done, Gone, Told}
use Rattle.teb_rules.specs.history.Phases.{begun, begun_count}
use Rattle.dependency_book.specs.Orderly.{Orderly}
use Rattle.dependency_book.proofs.OrderlyHistories.{nothing_begun}
use Rattle.teb_rules.proofs.lemmas.history.Newest.{begun-cons}

either : (a b : Bool) → (a || b) ≡ true → (a ≡ true) ⊎ (b ≡ true)
either true b h = inl h
either false b h = inr h

later : (a b : Bool) → b ≡ true → (a || b) ≡ true
later true b h = ap (λ (o : Bool). true) h
later false b h = h

pub begun_pos : (P : List Event) (u : ℕ) → Orderly P → begun P u ≡ true → 0 < u
unfolding Orderly
begun_pos [] u o h = absurd (let z : true ≡ false = sym h ∙ nothing_begun u in cc)
begun_pos (Began t s k i ∷ P) u o h = elim (either _ _ (sym (begun-cons (Began t s k i) P u) ∙ h)) [ inl e ↦ (let z = eqb-true t.0 u e in omega (arith, o.0)) | inr e ↦ begun_pos P u o.1 e ]
begun_pos (Got t x w v ∷ P) u o h = begun_pos P u o.1 (sym (begun-cons (Got t x w v) P u) ∙ h)
begun_pos (Put t x v ∷ P) u o h = begun_pos P u o.1 (sym (begun-cons (Put t x v) P u) ∙ h)
begun_pos (Ready t ∷ P) u o h = begun_pos P u o.1 (sym (begun-cons (Ready t) P u) ∙ h)
begun_pos (Done t ∷ P) u o h = begun_pos P u o.1 (sym (begun-cons (Done t) P u) ∙ h)
begun_pos (Gone t c ∷ P) u o h = begun_pos P u o.1 (sym (begun-cons (Gone t c) P u) ∙ h)
begun_pos (Told t ∷ P) u o h = begun_pos P u o.1 (sym (begun-cons (Told t) P u) ∙ h)

pub orderly_begun : (P : List Event) (u : ℕ) → Orderly P → 0 < u → u ≤ begun_count P → begun P u ≡ true
unfolding Orderly begun_count
orderly_begun [] u o p le = absurd (omega arith)
orderly_begun (Began t s k i ∷ P) u o p le = begun-cons (Began t s k i) P u ∙ elim (cases_eq t.0 u) [
  | inl e ↦ ap (λ (b : Bool). b || begun P u) (eq-eqb t.0 u e)
  | inr ne ↦ later (eqb t.0 u) (begun P u) (orderly_begun P u o.1 p (omega (arith, o.0)))
]
orderly_begun (Got t x w v ∷ P) u o p le = begun-cons (Got t x w v) P u ∙ orderly_begun P u o.1 p le
orderly_begun (Put t x v ∷ P) u o p le = begun-cons (Put t x v) P u ∙ orderly_begun P u o.1 p le
orderly_begun (Ready t ∷ P) u o p le = begun-cons (Ready t) P u ∙ orderly_begun P u o.1 p le
orderly_begun (Done t ∷ P) u o p le = begun-cons (Done t) P u ∙ orderly_begun P u o.1 p le
orderly_begun (Gone t c ∷ P) u o p le = begun-cons (Gone t c) P u ∙ orderly_begun P u o.1 p le
orderly_begun (Told t ∷ P) u o p le = begun-cons (Told t) P u ∙ orderly_begun P u o.1 p le
