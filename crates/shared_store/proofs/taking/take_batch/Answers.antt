use Rattle.std.proofs.Common.{refl}
use Rattle.shared_store.proofs.Turning.{mark_grows, takes_batch}
use Rattle.shared_store.specs.declared.entry.LifeEntry.TheVariants.{CommitsTaken}
use Rattle.shared_store.proofs.taking.take_batch.Goals as goal

pub returns-clause-batch : goal.returns-clause-batch
returns-clause-batch g c =
    let x = c.enter-hosted.result in
    let y = c.take-batch.new.self in
    takes_batch c.args.seat.now.seat.me.0 c.enter-hosted.new.seat.seat.me.0 x y c.leave.new.seat.seat.me.0 record {
      owner = c.requires.log.owner;
      follows = c.enter-hosted.ensures.follows;
      enters = c.enter-hosted.ensures.enters;
      grows = mark_grows CommitsTaken x.entries.items y.entries.items refl c.take-batch.ensures.entries;
      first = c.take-batch.ensures.first;
    } c.leave.ensures.view (g.S.EpochServer.brings c.take-batch.result) y.commits c.take-batch.ensures.brought
