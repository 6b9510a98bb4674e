-- What is found on a disk.
use Rattle.std.proofs.Common.{◌≡◌, ℕ, ◌*◌, ◌^◌, ◌≤◌, ◌<◌, List, length, take, Err, ℤ, sym, ◌∙◌, ap, arith}
use Rattle.std.proofs.lemmas.List.{length-take, length-take-le}
use Rattle.teb_rules.specs.declared.names.Cell.{Cell}
use Rattle.teb_rules.specs.names.Rows.{row_of}
use Rattle.std.specs.Result.{IsErrOf}
use Rattle.record_journal.specs.declared.error.RecoverError.{RecoverError}
use Rattle.record_journal.specs.declared.error.RecoverError.TheVariants as errors
use Rattle.crash_disk.specs.Sizes.{default_capacity}
use Rattle.record_journal.specs.Format.{Record, Reading, Whole, Damaged, reading, recovered}
use Rattle.record_journal.specs.Journal.{StandsFor, after_records}

pub as_read : (file bytes : List ℕ) (x : Reading) → bytes ≡ take default_capacity file → reading 0 0 bytes ≡ x → recovered default_capacity file ≡ x
unfolding recovered
as_read file bytes x is reads = ap (reading 0 0) (sym is) ∙ reads

abbrev pub records_in : Reading → List Record → List Record
records_in (Whole rs) none = rs
records_in (Damaged at) none = none

same_records : (rs qs : List Record) → Whole rs ≡ Whole qs → rs ≡ qs
same_records rs qs same = ap (λ (x : Reading). records_in x rs) same

pub no_damage : (least at : ℕ) (asked : List Record) (file : List ℕ) → StandsFor default_capacity least asked file → recovered default_capacity file ≡ Damaged at → ⊥
no_damage least at asked file stands bad = apart (take stands.k asked) at (sym stands.stands ∙ bad)
  where
    apart : (rs : List Record) (k : ℕ) → Whole rs ≡ Damaged k → ⊥
    apart rs k same = cc same

pub first_found : (least commits : ℕ) (asked rs : List Record) (file : List ℕ) (rows : List (Cell × ℤ)) (start : List (Cell × ℤ)) → StandsFor default_capacity least asked file
    → recovered default_capacity file ≡ Whole rs → commits ≡ length rs
    → ((x : Cell) → row_of rows x ≡ after_records rs (row_of start) x)
    → (least ≤ commits) × (commits ≤ length asked) × ((x : Cell) → row_of rows x ≡ after_records (take commits asked) (row_of start) x)
first_found least commits asked rs file rows start stands found count after =
    let same : rs ≡ take stands.k asked = same_records rs (take stands.k asked) (sym found ∙ stands.stands) in
    let counted = ap length same in
    let is : commits ≡ stands.k = omega (arith, count, counted, length-take-le stands.k asked stands.no_more) in (
      omega (arith, is, stands.no_fewer),
      omega (arith, is, stands.no_more),
      λ x. after x ∙ ap (λ (l : List Record). after_records l (row_of start) x) (same ∙ ap (λ (k : ℕ). take k asked) (sym is)),
    )

pub few_records : (file bytes : List ℕ) (n : ℕ) → bytes ≡ take default_capacity file → 5 * n ≤ length bytes → n < 2 ^ 32
few_records file bytes n is few = omega (arith, few, ap length is, length-take default_capacity file)

-- the same error, in a result of another type
pub retag : {A B : Type 0} (e : RecoverError) (at : ℕ) → IsErrOf {T = A} (Err e) (errors.Damaged at) → IsErrOf {T = B} (Err e) (errors.Damaged at)
retag {A} {B} e at is =
    let same : e ≡ errors.Damaged at = cc is in
    error_of same
  where
    error_of : e ≡ errors.Damaged at → IsErrOf {T = B} (Err e) (errors.Damaged at)
    error_of same = cc same
