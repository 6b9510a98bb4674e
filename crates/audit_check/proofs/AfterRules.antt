-- The transactions that each transaction read from, line by line.
use Rattle.std.proofs.Common.{◌≡◌, ℕ, ◌==◌, Bool, true, false, not, ◌&&◌, ◌||◌, if◌then◌else◌, List, [], ◌∷◌, ◌++◌, refl, ap, ◌∙◌, arith, inl, inr}
use Rattle.std.specs.List.{list_any}
use Rattle.std.specs.Prelude.{Vec}
use Rattle.std.specs.declared.alloc.Global.{Global}
use Rattle.std.proofs.lemmas.Bool.{cases_eq}
use Rattle.std.proofs.lemmas.Bool.Decides.{nat_tests}
use Rattle.std.proofs.lemmas.List.Folds.{list_any-append}
use Rattle.teb_rules.proofs.lemmas.names.Bools.{or_false, or_swap}
use Rattle.audit_check.specs.Items.{Item}
use Rattle.audit_check.specs.Faults.{reads_from}
use Rattle.audit_check.specs.Keeps.{MarksCommits, KeepsSources}
use Rattle.audit_check.specs.Marks.{is_marked, list_at}
use Rattle.audit_check.specs.Standings.{committed, is_done}

module _ (p : ℕ → Bool) (t txn from : ℕ) (xs : List ℕ) where
  pub source_kept : (ys : List ℕ) → ys ≡ (if txn == t then xs ++ from ∷ [] else xs) → (from ≡ txn → ⊥) → (from ≡ 0 → ⊥)
      → list_any p ys ≡ (txn == t && not (from == t) && not (from == 0) && p from || list_any p xs)
  source_kept ys is other some = elim (cases_eq txn t) [
    | inl same ↦
        let here : (txn == t) ≡ true = grind (arith, nat_tests) in
        let apart : (from == t) ≡ false = grind (arith, nat_tests) in
        let above : (from == 0) ≡ false = grind (arith, nat_tests) in
        let longer : ys ≡ xs ++ from ∷ [] = is ∙ chosen (txn == t) here in
        rw (here, apart, above) (ap (list_any p) longer ∙ list_any-append p xs (from ∷ []) ∙ ap (λ b. list_any p xs || b) (or_false (p from)) ∙ or_swap (list_any p xs) (p from))
    | inr apart ↦
        let there : (txn == t) ≡ false = grind (arith, nat_tests) in
        let same : ys ≡ xs = is ∙ left (txn == t) there in
        rw there (ap (list_any p) same)
  ]
    where
      chosen : (b : Bool) → b ≡ true → (if b then xs ++ from ∷ [] else xs) ≡ xs ++ from ∷ []
      chosen b h = rw h

      left : (b : Bool) → b ≡ false → (if b then xs ++ from ∷ [] else xs) ≡ xs
      left b h = rw h

  pub source_own : from ≡ txn → list_any p xs ≡ (txn == t && not (from == t) && not (from == 0) && p from || list_any p xs)
  source_own same = elim (cases_eq txn t) [
    | inl here ↦
        let own : (from == t) ≡ true = grind (arith, nat_tests) in
        rw own (none (txn == t) (not (from == 0)) (p from))
    | inr apart ↦
        let there : (txn == t) ≡ false = grind (arith, nat_tests) in
        rw there
  ]
    where
      none : (a b c : Bool) → list_any p xs ≡ (a && false && b && c || list_any p xs)
      none true b c = refl
      none false b c = refl

  pub source_start : from ≡ 0 → list_any p xs ≡ (txn == t && not (from == t) && not (from == 0) && p from || list_any p xs)
  source_start start =
      let zero : (from == 0) ≡ true = grind (arith, nat_tests) in
      rw zero (none (txn == t) (not (from == t)) (p from))
    where
      none : (a b c : Bool) → list_any p xs ≡ (a && b && false && c || list_any p xs)
      none true true c = refl
      none true false c = refl
      none false b c = refl

-- one more line is read
pub commit_marked : (done done' : List Bool) (past : List Item) (i : Item) → ((t : ℕ) → is_marked done' t ≡ (is_done t i || is_marked done t)) → MarksCommits done past → MarksCommits done' (i ∷ past)
unfolding committed
commit_marked done done' past i marks kept = record { each = λ t. marks t ∙ ap (λ b. is_done t i || b) (kept.each t) }

pub no_commits : (done : List Bool) → done ≡ [] → MarksCommits done []
unfolding committed
no_commits done is = rw is (record { each = λ t. refl })

pub sources_more : (sources sources' : List (Vec ℕ Global)) (past : List Item) (i : Item)
    → ((p : ℕ → Bool) (t : ℕ) → list_any p (list_at sources' t) ≡ (reads_from p t i || list_any p (list_at sources t)))
    → KeepsSources sources past → KeepsSources sources' (i ∷ past)
sources_more sources sources' past i more kept = record { each = λ p t. more p t ∙ ap (λ b. reads_from p t i || b) (kept.each p t) }

pub no_sources : (sources : List (Vec ℕ Global)) → sources ≡ [] → KeepsSources sources []
no_sources sources is = rw is (record { each = λ p t. refl })
