use Rattle.std.proofs.Common.{refl}
use Rattle.shared_store.proofs.Turning.{mark_grows, takes_none, tells_failure}
use Rattle.shared_store.specs.declared.entry.LifeEntry.TheVariants.{LogFailed}
use Rattle.shared_store.proofs.taking.stop_front.Goals as goal

pub returns-clause-none : goal.returns-clause-none
returns-clause-none g c =
    let x = c.enter-hosted.result in
    let y = c.stop.new.self in
    takes_none c.args.seat.now.seat.me.0 c.enter-hosted.new.seat.seat.me.0 x y c.leave.new.seat.seat.me.0 record {
      owner = c.requires.log.owner;
      follows = c.enter-hosted.ensures.follows;
      enters = c.enter-hosted.ensures.enters;
      grows = mark_grows LogFailed x.entries.items y.entries.items refl c.stop.ensures.entries;
      first = c.stop.ensures.first;
    } c.leave.ensures.view c.stop.ensures.entries

pub returns-clause-told : goal.returns-clause-told
returns-clause-told g c =
    let x = c.enter-hosted.result in
    let y = c.stop.new.self in
    tells_failure c.args.seat.now.seat.me.0 c.enter-hosted.new.seat.seat.me.0 x y c.leave.new.seat.seat.me.0 record {
      owner = c.requires.log.owner;
      follows = c.enter-hosted.ensures.follows;
      enters = c.enter-hosted.ensures.enters;
      grows = mark_grows LogFailed x.entries.items y.entries.items refl c.stop.ensures.entries;
      first = c.stop.ensures.first;
    } c.leave.ensures.view c.stop.ensures.entries
