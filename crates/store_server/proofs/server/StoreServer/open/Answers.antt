use Rattle.std.proofs.Common.{◌≡◌, ◌∙◌, ap, sym, subst}
use Rattle.store_setup.specs.SetupView.{setup_view}
use Rattle.tree_toml.specs.SetupText.{setup_of_text}
use Rattle.engine_core.specs.EngineModel.{EngineModel}
use Rattle.epoch_store.specs.Queue.{Queue}
use Rattle.store_server.specs.Found.{IsFound}
use Rattle.store_server.proofs.server.StoreServer.open.Goals as goal

pub returns-in-Ok-open-clause-found : goal.returns-in-Ok-open-clause-found
returns-in-Ok-open-clause-found g c =
    let d = g.D.Disk in
    let read = c.in-Ok in
    let o = c.in-Ok-open.ensures in
    subst (λ (e : EngineModel). IsFound d.seen d.may_leave (d.capacity c.args.disk) c.args.tree.items c.args.disk e)
    (sym (ap (λ (q : Queue EngineModel). q.engine) c.new-in-Ok-open.ensures.queue ∙ c.split-queue.ensures.engine))
    record { view = setup_view read.setup; read = ap setup_of_text (sym c.deref.ensures.value) ∙ read.ensures.setup; events = o.begun.events; rows = o.read; found = o.found }

pub returns-in-Err-open-clause-refused : goal.returns-in-Err-open-clause-refused
returns-in-Err-open-clause-refused g c =
    let read = c.in-Ok in
    record { view = setup_view read.setup; read = ap setup_of_text (sym c.deref.ensures.value) ∙ read.ensures.setup; refused = c.in-Err-open.ensures.refused }
