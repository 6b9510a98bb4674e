use Rattle.std.proofs.Common.{Some}
use Rattle.script_runner.specs.Runs.{IsRun, IsReplay, IsReport}
use Rattle.command_words.specs.declared.command.Command.TheVariants.{Replay}
use Rattle.tebaldi.proofs.Rightness.{right_of, refusal_ends, refused_of}
use Rattle.tebaldi.proofs.source.replay_source.Goals as goal

pub returns-in-Ok-clause-right : goal.returns-in-Ok-clause-right
returns-in-Ok-clause-right g c = λ nf nm.
    right_of _ _ c.put_out.result _ _ (Some Replay) (IsRun IsReplay IsReport) (λ bytes d s. (s, c.put_out.ensures.alone)) (λ bytes m s. s) c.in-Ok.read c.in-Ok.ensures.read c.run_replay.result
    c.run_replay.ensures.shown c.run_replay.ensures.serialized c.put_out.ensures.written nm

pub returns-in-Err-clause-right : goal.returns-in-Err-clause-right
returns-in-Err-clause-right g c = λ nf nm.
    refused_of _ _ c.refuse.result _ _ (Some Replay) (refusal_ends c.refuse.result (Some Replay) (IsRun IsReplay IsReport) (λ bytes d s. (s, c.refuse.ensures.alone)))
    c.in-Err.error c.in-Err.ensures.read (c.refuse.ensures.written nf nm) c.refuse.ensures.history c.refuse.ensures.read_fault c.refuse.ensures.memory nf nm
