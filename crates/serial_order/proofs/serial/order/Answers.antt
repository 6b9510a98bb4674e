use Rattle.std.proofs.Common.{ℕ, List, ap, ap₂, ◌∙◌}
use Rattle.std.proofs.lemmas.Result.{IfOk-weaker}
use Rattle.teb_rules.specs.declared.history.Event.{Event}
use Rattle.teb_rules.specs.Ranks.{serial_order}
use Rattle.teb_rules.specs.Setup.{Store, Setup}
use Rattle.serial_order.proofs.OfEngines.{order_serializes}
use Rattle.serial_order.proofs.serial.order.Goals as goal

pub returns-clause-serializes : goal.returns-clause-serializes
returns-clause-serializes g c =
    let tree = c.setup-setup.result.now.tree in
    let told : List (List (List ℕ)) → Setup = λ ps. record { types = tree.types; profiles = ps; tree = tree.rows } in
    let same = ap (λ (ps : List (List (List ℕ))). serial_order (told ps) c.history.result.now.events) c.deref.ensures.value
    ∙ ap₂ (λ (X : Store) (H : List Event). serial_order X.setup H) c.setup-setup.ensures.store c.history.ensures.events in
    IfOk-weaker c.order_of.result _ _ (λ v o. order_serializes c.args.engine.now c.history.ensures.reached v.items (o ∙ same)) c.order_of.ensures
