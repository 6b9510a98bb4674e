use Rattle.std.proofs.Common.{refl, subst}
use Rattle.std.specs.Prelude.{MatchOption}
use Rattle.engine_core.specs.EngineModel.{EngineModel}
use Rattle.shared_store.specs.Served.{IsObstacle}
use Rattle.teb_rules.specs.Epochs.{IsDrained}
use Rattle.store_server.proofs.server.StoreServerEpochServer.obstacle.Goals as goal

pub returns-then-is_drained : goal.returns-then-is_drained
returns-then-is_drained g c = c.if-is_drained.ensures.0 refl

pub returns : goal.returns
returns g c = subst (λ (e : EngineModel). MatchOption c.obstacle_in.result (IsDrained e.events) (IsObstacle e.events)) c.engine.ensures.engine c.obstacle_in.ensures
