use Rattle.std.proofs.Common.{◌+◌, ap}
use Rattle.shared_store.specs.Stages.{first_stage}
use Rattle.shared_store.proofs.Living.{served_life, served_waiting, unserved_life, unserved_waiting}
use Rattle.shared_store.proofs.hosted.Hosted.put.Goals as goal

pub invariant_of-self : goal.invariant_of-self
invariant_of-self g c =
    let old = c.args.self.now in
    let first = first_stage (g.S.EpochServer.standing old.first.value) in
    let x = g.S.EpochServer.standing old.server in
    let y = g.S.EpochServer.standing c.serve.new.self in
    record {
      life = served_life first x y old.past old.stopped old.commits old.entries.items old.life c.args.session c.args.request c.serve.result c.serve.ensures.served c.args.by c.in-Ok.reply
          c.short_of.result c.push.new.self.items (old.commits + c.commits_of-more.result) c.if-self.false c.requires.room c.in-Ok.is c.short_of.ensures
          (ap (λ n. old.commits + n) c.commits_of-more.ensures.is) c.push.ensures;
      waiting = served_waiting (g.S.EpochServer.waits old.server) (g.S.EpochServer.waits c.serve.new.self) c.serve.ensures.waits first x y old.past old.stopped old.entries.items old.waiting
          c.args.session c.args.request c.serve.result c.serve.ensures.served c.args.by c.in-Ok.reply c.short_of.result c.push.new.self.items c.in-Ok.is c.push.ensures;
    }

pub invariant_of-self-in-Err-1 : goal.invariant_of-self-in-Err-1
invariant_of-self-in-Err-1 g c =
    let old = c.args.self.now in
    let first = first_stage (g.S.EpochServer.standing old.first.value) in
    let x = g.S.EpochServer.standing old.server in
    let y = g.S.EpochServer.standing c.serve.new.self in
    record {
      life = unserved_life first x y old.past old.stopped old.commits old.entries.items old.life c.args.session c.args.request c.serve.result c.serve.ensures.served c.in-Err.error c.in-Err.is;
      waiting = unserved_waiting (g.S.EpochServer.waits old.server) (g.S.EpochServer.waits c.serve.new.self) c.serve.ensures.waits first x y old.past old.stopped old.entries.items old.waiting
          c.args.session c.args.request c.serve.result c.serve.ensures.served c.in-Err.error c.in-Err.is;
    }
