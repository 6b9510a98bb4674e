-- The close of a batch, as a book of batches gives it.
use Rattle.std.proofs.Common.{◌≡◌, ℕ, ◌≤◌, Bool, true, false, List, length, cond, Option, Some, None, unwrap_or, ltb, refl, ap, ◌∙◌, inl, inr, arith, lt-ltb}
use Rattle.std.proofs.lemmas.Bool.{cases_lt, both_ways}
use Rattle.teb_rules.specs.declared.history.Event.{Event}
use Rattle.teb_rules.specs.Setup.{Setup}
use Rattle.teb_rules.specs.Batches.{close}
use Rattle.teb_rules.proofs.lemmas.laws.Positions.{first-le}
use Rattle.batch_book.specs.Histories.{closing}

pub close_told : (S : Setup) (H : List Event) (n t : ℕ) (o : Option ℕ) → o ≡ closing S H n t → unwrap_or o (length H) ≡ close S H n t
unfolding closing close
close_told S H n t o e = ap (λ (p : Option ℕ). unwrap_or p (length H)) e ∙ go (ltb (close S H n t) (length H)) refl
  where
    go : (b : Bool) → ltb (close S H n t) (length H) ≡ b → unwrap_or (cond b (Some (close S H n t)) None) (length H) ≡ close S H n t
    go true q = refl
    go false q = let low : close S H n t ≤ length H = first-le _ H in elim (cases_lt (close S H n t) (length H)) [ inl z ↦ absurd (both_ways _ q (lt-ltb _ _ z)) | inr z ↦ omega arith ]
