use Rattle.std.proofs.Common.{◌≡◌, true, subst, sym, ap, ◌∙◌}
use Rattle.teb_rules.specs.history.Written.{Written}
use Rattle.teb_rules.specs.history.Phases.{unfinished}
use Rattle.teb_rules.specs.Setup.{Store}
use Rattle.teb_rules.specs.Versions.{read}
use Rattle.store_setup.specs.Stores.{store_of}
use Rattle.engine_core.specs.Views.{events_in}
use Rattle.engine_core.proofs.engine_state.EngineState.read.Goals as goal

pub read-requires : goal.read-requires
read-requires g c = record { unfinished = subst (λ (h : Written). unfinished h.events c.args.t.0 ≡ true) (sym c.view.ensures.history) c.requires.unfinished }

pub returns-clause-source : goal.returns-clause-source
returns-clause-source g c =
    let S = (store_of c.args.self.now.setup).setup in
    let X = store_of c.args.self.now.setup in
    c.read.ensures.source ∙ ap (λ (Z : Store). (read Z.setup Z.rows (events_in c.view.result) c.args.t.0 c.args.cell).0) c.view.ensures.store
    ∙ ap (λ (h : Written). (read S X.rows h.events c.args.t.0 c.args.cell).0) c.view.ensures.history

pub returns-clause-value : goal.returns-clause-value
returns-clause-value g c =
    let S = (store_of c.args.self.now.setup).setup in
    let X = store_of c.args.self.now.setup in
    c.read.ensures.value ∙ ap (λ (Z : Store). (read Z.setup Z.rows (events_in c.view.result) c.args.t.0 c.args.cell).1) c.view.ensures.store
    ∙ ap (λ (h : Written). (read S X.rows h.events c.args.t.0 c.args.cell).1) c.view.ensures.history
