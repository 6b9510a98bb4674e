-- The replies of a log name nodes of the tree, and tables of the store.
use Rattle.std.proofs.Common.{◌≡◌, zero, suc, List, [], ◌∷◌, ◌++◌, sym, ◌∙◌, subst, arith}
use Rattle.std.specs.Prelude.{All}
use Rattle.teb_rules.specs.declared.names.Session.{Session}
use Rattle.teb_rules.specs.declared.names.Request.{Request}
use Rattle.teb_rules.specs.declared.history.Event.{Event}
use Rattle.teb_rules.specs.Setup.{Store}
use Rattle.teb_rules.specs.Accepted.{IsSound}
use Rattle.teb_rules.specs.Answer.{answer}
use Rattle.teb_rules.specs.laws.Laws.{reached}
use Rattle.teb_rules.specs.laws.Within.{ReplyWithin}
use Rattle.teb_rules.proofs.lemmas.laws.Within.{stays_within}
use Rattle.script_text.specs.declared.Answered.{Answered}
use Rattle.script_runner.specs.replay.Logs.{Requests, log_of}
use Rattle.script_runner.proofs.lemmas.replay.Logged.{history_append, history_step, history_none}

abbrev AreWithin : Store → List Answered → Type 0
AreWithin X log = All (λ (a : Answered). ReplyWithin X a.reply) log

-- the history after one more request
reached_step : (X : Store) (before : Requests) (r : Session × Request) → (answer X (reached X before) r.0 r.1).1 ≡ reached X (before ++ r ∷ [])
reached_step X before r = sym (history_append X [] before (r ∷ []) ∙ history_step X (reached X before) r [] ∙ history_none X (answer X (reached X before) r.0 r.1).1)

pub log_within : (X : Store) → IsSound X.setup → (before asked : Requests) → AreWithin X (log_of X (reached X before) asked)
log_within X s before [] k d low = absurd (omega arith)
log_within X s before (r ∷ rest) zero d low = (stays_within X s before).replies r.0 r.1
log_within X s before (r ∷ rest) (suc k) d low =
    subst (λ (H : List Event). AreWithin X (log_of X H rest)) (sym (reached_step X before r)) (log_within X s (before ++ r ∷ []) rest) k d (omega (arith, low))
