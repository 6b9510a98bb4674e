-- What is read, where memory may run out.
use Rattle.std.specs.Prelude.{◌≡◌, Result, Ok, Err}
use Rattle.input_reader.specs.declared.error.InputError.TheVariants.{ReadFault, OutOfMemory}
use Rattle.phase_runner.specs.declared.error.PhaseError.{PhaseError}
use Rattle.phase_runner.specs.declared.error.PhaseError.TheVariants.{BadInput}

-- what was read, by what there is, unless memory ran out
abbrev pub IsRead : {A B : Type 0} → (A → B) → Result A PhaseError → Result B PhaseError → Type 0
IsRead view (Ok x) there = there ≡ Ok (view x)
IsRead view (Err (BadInput ReadFault)) there = ⊥
IsRead view (Err (BadInput OutOfMemory)) there = Unit {0}
IsRead view (Err e) there = there ≡ Err e
