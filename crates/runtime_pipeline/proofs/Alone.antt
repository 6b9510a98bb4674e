-- If t is the only holder of a cell, its access adds nothing to its list.
use Rattle.std.proofs.Common.{◌≡◌, ℕ, suc, Bool, true, false, cond, ◌||◌, ◌&&◌, eqb, List, [], ◌∷◌, refl, sym, ◌∙◌, ap, arith, inl, inr}
use Rattle.std.specs.Prelude.{All}
use Rattle.std.proofs.lemmas.Bool.{cases_Bool}
use Rattle.teb_rules.specs.declared.names.Txn.{Txn}
use Rattle.teb_rules.proofs.lemmas.names.Bools.{and_false}
use Rattle.teb_rules.specs.history.Ascending.{put_by}
use Rattle.teb_rules.specs.history.Live.{number_of}
use Rattle.teb_rules.specs.declared.history.Event.{Event}
use Rattle.teb_rules.specs.Setup.{Setup}
use Rattle.teb_rules.specs.Tree.{meets, side}
use Rattle.teb_rules.proofs.lemmas.laws.Nodes.{meets_parts}
use Rattle.hold_book.specs.declared.Hold.{Hold}
use Rattle.access_conflicts.specs.Blockers.{in_the_way}
use Rattle.runtime_pipeline.specs.Predecessors.{joined}

module _ (S : Setup) (H : List Event) (n t : ℕ) (write : Bool) where
  -- no transaction meets itself
  own_apart : (u : ℕ) → u ≡ t → meets S H n t u ≡ false
  own_apart u e = elim (cases_Bool (meets S H n t u)) [
    | inl m ↦ absurd ((meets_parts S H n t u m).2 (ap (λ (k : ℕ). side S H n k) (sym e)))
    | inr m ↦ m
  ]

  -- t's own hold does not block t
  own_hold_off : (h : Hold) → h.txn.0 ≡ t → in_the_way S H n t write h ≡ false
  own_hold_off h e = ap (λ (b : Bool). (write || h.wrote) && b) (own_apart h.txn.0 e) ∙ and_false (write || h.wrote)

  -- t's list stays
  pub joined_alone : (hs : List Hold) → All (λ h. h.txn.0 ≡ t) hs → (us : List Txn) → joined (in_the_way S H n t write) hs us ≡ us
  joined_alone [] a us = refl
  joined_alone (h ∷ hs) a us =
      ap (λ (b : Bool). joined (in_the_way S H n t write) hs (cond b (put_by number_of h.txn us) us)) (own_hold_off h (a 0 h (omega arith)))
      ∙ joined_alone hs (λ i d l. a (suc i) d (omega arith)) us

same : (b : Bool) (xs ys : List Txn) → ys ≡ xs → xs ≡ cond b ys xs
same true xs ys e = sym e
same false xs ys e = refl

-- every other list stays too
pub lists_stay : (S : Setup) (H : List Event) (n : ℕ) (t v : Txn) (write : Bool) (hs : List Hold) → All (λ h. h.txn.0 ≡ t.0) hs → (us : List Txn)
    → us ≡ cond (eqb t.0 v.0) (joined (in_the_way S H n t.0 write) hs us) us
lists_stay S H n t v write hs a us = same (eqb t.0 v.0) us (joined (in_the_way S H n t.0 write) hs us) (joined_alone S H n t.0 write hs a us)
