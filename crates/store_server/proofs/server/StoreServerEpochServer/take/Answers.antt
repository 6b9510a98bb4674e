use Rattle.std.proofs.Common.{sym, subst}
use Rattle.engine_core.specs.EngineModel.{EngineModel}
use Rattle.store_server.specs.Trees.{IsTreeOf, IsWellNamed}
use Rattle.store_server.proofs.server.StoreServerEpochServer.take.Goals as goal

pub invariant_of-self : goal.invariant_of-self
invariant_of-self g c = record {
  under = subst (λ (e : EngineModel). IsTreeOf c.args.self.now.tree.items e.store e.names) (sym c.take.ensures.engine) c.args.self.now.under;
  named = subst (λ (e : EngineModel). IsWellNamed e.store e.names) (sym c.take.ensures.engine) c.args.self.now.named;
}
