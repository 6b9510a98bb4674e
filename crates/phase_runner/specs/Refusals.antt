-- What is shown of an input whose phases are refused.
use Rattle.std.specs.Prelude.{ℕ, List, ◌++◌, codes, decimal}
use Rattle.command_output.specs.Shown.{Shown, line_alone}
use Rattle.input_reader.specs.Refusals.{refusal}
use Rattle.phase_runner.specs.declared.error.PhaseError.{PhaseError}
use Rattle.phase_runner.specs.declared.error.PhaseError.TheVariants.{BadPhase, BadInput}
use Rattle.phase_runner.specs.declared.error.PhaseWhy.{PhaseWhy}
use Rattle.phase_runner.specs.declared.error.PhaseWhy.TheVariants.{Many, Script, Tables, Rows}

abbrev pub why_text : PhaseWhy → List ℕ
why_text Many = codes "many"
why_text Script = codes "script"
why_text Tables = codes "tables"
why_text Rows = codes "rows"

-- the status and the line of a fault
abbrev pub phase_refusal : PhaseError → Shown
phase_refusal (BadPhase k why) = line_alone 12 (codes "bad phase: " ++ decimal k ++ codes " " ++ why_text why)
phase_refusal (BadInput e) = refusal e
