use Rattle.guarantees.proofs.Shown.{pipelines_cascade, pipelines_take_another, stamps_cascade, stamps_take_another}
use Rattle.guarantees.proofs.early_reads_fall.Goals as goal

pub returns : goal.returns
returns c =
    record { pipelines = pipelines_cascade; timestamps = stamps_cascade; pipelines_cascade = pipelines_take_another; timestamps_cascade = stamps_take_another }
