-- The sum that an Add writes, and the refusals for an unread cell and for overflow.
use Rattle.std.proofs.Common.{◌≡◌, ℕ, ◌-◌, ◌^◌, Bool, true, false, cond, List, Option, Some, None, ℤ, pos, negsuc, ◌+ℤ◌, refl, sym, ◌∙◌, ap, ap₂, arith, w64, to_z, of_z}
use Rattle.std.proofs.lemmas.Int.{to_z-of_z}
use Rattle.std.proofs.lemmas.Bool.{le-leb, lt-leb, cases_lt}
use Rattle.std.specs.Prelude.{FitsSigned}
use Rattle.std.specs.Option.{SomeIff}
use Rattle.engine_core.specs.Decisions.{sum_of}
use Rattle.std.proofs.Common.{inl, inr}
use Rattle.teb_rules.specs.declared.names.Cell.{Cell}
use Rattle.teb_rules.specs.declared.names.Refusal.TheVariants.{NotRead, Overflow}
use Rattle.teb_rules.specs.declared.history.Event.{Event}
use Rattle.teb_rules.specs.Setup.{Setup}
use Rattle.teb_rules.specs.Answer.{added, fits, put_value, refuse}

fits_i64 : (z : ℤ) → FitsSigned w64 z → fits z ≡ true
fits_i64 (pos n) f = le-leb n (2 ^ 63 - 1) (let h = f.sfits in omega arith)
fits_i64 (negsuc n) f = rw (le-leb n (2 ^ 63 - 1) (let h = f.sfits in omega arith)) refl

fits_no_i64 : (z : ℤ) → (FitsSigned w64 z → ⊥) → fits z ≡ false
fits_no_i64 (pos n) f = elim (cases_lt n (2 ^ 63)) [ inl h ↦ absurd (f (record { sfits = h })) | inr h ↦ lt-leb n (2 ^ 63 - 1) (omega arith) ]
fits_no_i64 (negsuc n) f = elim (cases_lt n (2 ^ 63)) [ inl h ↦ absurd (f (record { sfits = h })) | inr h ↦ rw (lt-leb n (2 ^ 63 - 1) (omega arith)) refl ]

-- an optional sum that is Some if and only if the sum fits in 64 bits is `sum_of`
pub sums : (b v : ℤ) (o : Option ℤ) → SomeIff o (FitsSigned w64 (b +ℤ v)) (b +ℤ v) → o ≡ sum_of b v
sums b v None f = rw (fits_no_i64 (b +ℤ v) f) refl
sums b v (Some s) f = rw (fits_i64 (b +ℤ v) f.0, f.1) refl

pub adds_to_nothing : (S : Setup) (H : List Event) (t : ℕ) (x : Cell) (v : ℤ) (o : Option ℤ) → o ≡ None → added S H t x v o ≡ refuse H NotRead
adds_to_nothing S H t x v o e = rw e refl

pub adds : (S : Setup) (H : List Event) (t : ℕ) (x : Cell) (v : ℤ) (o : Option ℤ) (b s : ℤ) → o ≡ Some b → sum_of b v ≡ Some s → added S H t x v o ≡ put_value S H t x (Some s)
adds S H t x v o b s e q = rw e (go (fits (b +ℤ v)) q)
  where
    go : (c : Bool) → cond c (Some (b +ℤ v)) None ≡ Some s → cond c (put_value S H t x (Some (b +ℤ v))) (refuse H Overflow) ≡ put_value S H t x (Some s)
    go true q = ap (put_value S H t x) q
    go false q = absurd (cc)

pub overflows : (S : Setup) (H : List Event) (t : ℕ) (x : Cell) (v : ℤ) (o : Option ℤ) (b : ℤ) → o ≡ Some b → sum_of b v ≡ None → added S H t x v o ≡ refuse H Overflow
overflows S H t x v o b e q = rw e (go (fits (b +ℤ v)) q)
  where
    go : (c : Bool) → cond {A = Option ℤ} c (Some (b +ℤ v)) None ≡ None → cond c (put_value S H t x (Some (b +ℤ v))) (refuse H Overflow) ≡ refuse H Overflow
    go true q = absurd (cc)
    go false q = refl

-- for two numbers that fit, the result of the call is their checked sum
pub summed : (b v : ℤ) (o r : Option ℤ) → FitsSigned w64 b → FitsSigned w64 v → o ≡ sum_of (to_z w64 (of_z w64 b)) (to_z w64 (of_z w64 v)) → o ≡ r → sum_of b v ≡ r
summed b v o r f g e q = ap₂ sum_of (sym (to_z-of_z w64 b f)) (sym (to_z-of_z w64 v g)) ∙ sym e ∙ q
