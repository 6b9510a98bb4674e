-- What holds of a result, by its variant.
use Rattle.std.proofs.Common.{◌≡◌, Result, Ok, Err, subst}
use Rattle.std.specs.Prelude.{IfOk, OnOk, OnErr, MatchResult}

module _ {A B : Type 0} (P : Type 0) (o : Result A B) where
  pub on_ok : (a : A) → o ≡ Ok a → OnOk o P → P
  on_ok a e h = subst (λ (p : Result A B). OnOk p P) e h

  pub on_err : (b : B) → o ≡ Err b → OnErr o P → P
  on_err b e h = subst (λ (p : Result A B). OnErr p P) e h

pub if_ok : {A B : Type 0} (P : A → Type 0) (o : Result A B) (a : A) → o ≡ Ok a → IfOk o P → P a
if_ok {A} {B} P o a e h = subst (λ (p : Result A B). IfOk p P) e h

module _ {A B : Type 0} (P : A → Type 0) (Q : B → Type 0) (o : Result A B) where
  pub match_ok : (a : A) → o ≡ Ok a → MatchResult o P Q → P a
  match_ok a e h = subst (λ (p : Result A B). MatchResult p P Q) e h

  pub match_err : (b : B) → o ≡ Err b → MatchResult o P Q → Q b
  match_err b e h = subst (λ (p : Result A B). MatchResult p P Q) e h
