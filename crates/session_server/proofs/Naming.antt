-- The transaction that an answer names.
use Rattle.std.proofs.Common.{◌≡◌, ◌≤◌, List, sym, ◌∙◌, arith}
use Rattle.teb_rules.specs.declared.names.TheConstants.{MOST_TXNS}
use Rattle.teb_rules.specs.declared.names.Session.{Session}
use Rattle.teb_rules.specs.declared.names.Request.{Request}
use Rattle.teb_rules.specs.declared.names.Reply.{Reply}
use Rattle.teb_rules.specs.declared.history.Event.{Event}
use Rattle.teb_rules.specs.history.Phases.{begun_count}
use Rattle.teb_rules.specs.Setup.{Store}
use Rattle.teb_rules.specs.Answer.{answer}
use Rattle.teb_rules.specs.laws.Lawful.{Lawful}
use Rattle.teb_rules.proofs.lemmas.laws.Timeline.{begun_counted}
use Rattle.teb_rules.proofs.lemmas.laws.Cascades.{unfinished_times}
use Rattle.teb_rules.proofs.lemmas.laws.Waits.{again_fair}
use Rattle.session_server.specs.Waits.{WaitsAmong}

-- an Again names a transaction that has begun
pub names_begun : (X : Store) (H : List Event) (s : Session) (q : Request) (r : Reply) → Lawful X.setup H → begun_count H ≤ MOST_TXNS → r ≡ (answer X H s q).0 → WaitsAmong MOST_TXNS r
names_begun X H s q r l few is = λ u n e. let fair = again_fair X H s q u n (sym is ∙ e) in let b = begun_counted X.setup H u.0 l (unfinished_times H u.0 fair.running).0 in (omega arith, omega arith)
