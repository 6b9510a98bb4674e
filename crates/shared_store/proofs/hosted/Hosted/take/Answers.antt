use Rattle.shared_store.specs.Stages.{first_stage}
use Rattle.shared_store.proofs.Living.{brings_all, life_taken, waiting_none}
use Rattle.shared_store.proofs.hosted.Hosted.take.Goals as goal

pub invariant_of-self : goal.invariant_of-self
invariant_of-self g c =
    let old = c.args.self.now in
    let first = first_stage (g.S.EpochServer.standing old.first.value) in
    let x = g.S.EpochServer.standing old.server in
    let y = g.S.EpochServer.standing c.take-batch.new.self in
    let t = c.take-batch.ensures in
    record {
      life = life_taken first x y old.past old.stopped old.commits old.entries.items old.life c.push.new.self.items t.standing c.push.ensures;
      waiting = waiting_none first x y old.past old.stopped old.commits old.entries.items old.life (g.S.EpochServer.waits c.take-batch.new.self) c.push.new.self.items t.standing c.push.ensures
          t.waits;
    }

pub returns-clause-brought : goal.returns-clause-brought
returns-clause-brought g c =
    let old = c.args.self.now in
    let first = first_stage (g.S.EpochServer.standing old.first.value) in
    let x = g.S.EpochServer.standing old.server in
    let y = g.S.EpochServer.standing c.take-batch.new.self in
    brings_all first x y old.past old.stopped old.commits old.entries.items old.life (g.S.EpochServer.waits old.server) (g.S.EpochServer.brings c.take-batch.result) c.push.new.self.items
    c.push.ensures c.take-batch.ensures.batch old.waiting
