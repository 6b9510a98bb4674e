use Rattle.guarantees.proofs.Shown.{commits_swapped, snapshots_lose_time, stamps_lose_time}
use Rattle.guarantees.proofs.greater_batches_lose_time.Goals as goal

pub returns : goal.returns
returns c = record { timestamps = stamps_lose_time; snapshots = snapshots_lose_time; commits = commits_swapped }
