-- The present epoch continues.
use Rattle.std.proofs.Common.{◌≡◌, List, Option, Some, None}
use Rattle.teb_rules.specs.declared.names.Session.{Session}
use Rattle.teb_rules.specs.declared.names.Request.{Request}
use Rattle.teb_rules.specs.declared.names.Reply.{Reply}
use Rattle.teb_rules.specs.Answer.{answer}
use Rattle.engine_core.specs.EngineModel.{EngineModel}
use Rattle.tree_switch.specs.Courses.{IsCourse}
use Rattle.tree_switch.proofs.GoingOn.{further}
use Rattle.tree_switch.proofs.Starting.{asked, same_events}
use Rattle.teb_rules.specs.Told.{events_after}

-- after a request, whether or not it was asked
pub goes_on : (past : List EngineModel) (e f : EngineModel) (s : Session) (r : Request) (o : Option Reply) → f.store ≡ e.store → f.names ≡ e.names
    → f.events ≡ events_after o e.events (answer e.store e.events s r).1
    → IsCourse (record { past = past; present = e }) → IsCourse (record { past = past; present = f })
goes_on past e f s r None store names events g = further past e f store names (same_events past e f g store events) g
goes_on past e f s r (Some reply) store names events g = further past e f store names (asked past e f s r g store events) g
