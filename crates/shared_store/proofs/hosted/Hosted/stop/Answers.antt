use Rattle.std.proofs.Common.{true, refl}
use Rattle.shared_store.specs.Stages.{first_stage}
use Rattle.shared_store.proofs.Living.{life_stopped, waiting_stopped}
use Rattle.shared_store.proofs.hosted.Hosted.stop.Goals as goal

pub invariant_of-self : goal.invariant_of-self
invariant_of-self g c =
    let old = c.args.self.now in
    let first = first_stage (g.S.EpochServer.standing old.first.value) in
    let x = g.S.EpochServer.standing old.server in
    let w = g.S.EpochServer.waits old.server in
    record {
      life = life_stopped first x x old.past old.stopped old.commits old.entries.items old.life c.push.new.self.items true refl c.push.ensures;
      waiting = waiting_stopped w w (λ H q. q) first x x old.past old.stopped old.entries.items old.waiting c.push.new.self.items true c.push.ensures;
    }
