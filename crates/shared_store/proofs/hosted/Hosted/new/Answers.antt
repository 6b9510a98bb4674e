use Rattle.std.proofs.Common.{ap}
use Rattle.shared_store.proofs.Living.{new_life, new_waiting}
use Rattle.shared_store.proofs.hosted.Hosted.new.Goals as goal

pub invariant_of-result : goal.invariant_of-result
invariant_of-result g c =
    let x = g.S.EpochServer.standing c.args.server in
    let e = ap (λ s. g.S.EpochServer.standing s) c.of.ensures in
    record {
      life = new_life x (g.S.EpochServer.standing c.of.result.value) c.new.result.items e c.new.ensures c.requires.fresh;
      waiting = new_waiting (g.S.EpochServer.waits c.args.server) x (g.S.EpochServer.standing c.of.result.value) c.new.result.items e c.new.ensures c.requires.fresh c.requires.waits;
    }
