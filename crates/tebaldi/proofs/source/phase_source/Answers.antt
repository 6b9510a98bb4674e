use Rattle.std.proofs.Common.{Some, ℕ, List, IfOk, subst}
use Rattle.command_output.specs.Shown.{Shown}
use Rattle.phase_runner.specs.Runs.{ArePhases}
use Rattle.command_words.specs.declared.command.Command.TheVariants.{Phases}
use Rattle.tebaldi.proofs.Rightness.{bytes_of, bytes_refused}
use Rattle.tebaldi.proofs.source.phase_source.Goals as goal

pub returns-in-Ok-clause-right : goal.returns-in-Ok-clause-right
returns-in-Ok-clause-right g c = λ nf nm.
    bytes_of _ _ c.put_out.result _ _ (Some Phases) (λ (text : List ℕ) (d : Shown). ArePhases text d) (λ bytes d s. (s, c.put_out.ensures.alone)) c.in-Ok.bytes c.in-Ok.ensures.bytes
    c.run_phases.result (subst (λ (text : List ℕ). IfOk c.run_phases.result (λ (o : Shown). ArePhases text o)) c.deref.ensures.value c.run_phases.ensures.shown) c.run_phases.ensures.history
    c.put_out.ensures.written nm

pub returns-in-Err-clause-right : goal.returns-in-Err-clause-right
returns-in-Err-clause-right g c = λ nf nm.
    bytes_refused _ _ c.refuse.result _ _ (Some Phases) (λ (text : List ℕ) (d : Shown). ArePhases text d) (λ bytes d s. (s, c.refuse.ensures.alone)) c.in-Err.error c.in-Err.ensures.bytes c.from.result
    c.from.ensures (c.refuse.ensures.written nf nm) c.refuse.ensures.read_fault c.refuse.ensures.memory nf nm
