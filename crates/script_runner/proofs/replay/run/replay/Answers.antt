use Rattle.std.proofs.Common.{◌≡◌, List, ◌++◌, refl, sym, subst}
use Rattle.std.proofs.lemmas.Result.{IfOk-weaker}
use Rattle.teb_rules.specs.declared.names.naming.NameBook.{NameBook}
use Rattle.teb_rules.specs.Run.{ends_of}
use Rattle.script_text.specs.declared.Answered.{Answered}
use Rattle.script_runner.specs.replay.Logs.{log_of, replayed, requests_of}
use Rattle.script_runner.proofs.lemmas.replay.Logged.{replay_log}
use Rattle.script_runner.proofs.replay.run.replay.Goals as goal

pub returns-clause-log : goal.returns-clause-log
returns-clause-log g c =
    let X = c.args.engine.now.store in
    let H = c.args.engine.now.events in
    let names = c.args.engine.now.names in
    let Y = c.ask_lines.new.engine.store in
    let G = c.ask_lines.new.engine.events in
    let same : c.ask_lines.new.engine.names ≡ names = c.in_ok-ask_lines.ensures.names in
    let Tells = g.L.Log.tells in
    let mid = c.ask_lines.new.log in
    let new = c.end_sessions.new.log in
    IfOk-weaker c.end_sessions.result
    (λ _. (told : List Answered) → Tells mid c.ask_lines.new.engine.names told → Tells new c.ask_lines.new.engine.names (told ++ log_of Y G (ends_of G)))
    (λ _. (told : List Answered) → Tells c.args.log.now names told → Tells new names (told ++ log_of X H (replayed X H c.args.lines.now)))
    (λ _ ended told t.
    let asked = told ++ log_of X H (requests_of c.args.lines.now) in
    let m : Tells mid names asked = c.in_ok-ask_lines.ensures.log told t in
    let n : Tells new names (asked ++ log_of Y G (ends_of G)) = subst (λ (b : NameBook). Tells new b (asked ++ log_of Y G (ends_of G))) same
    (ended asked (subst (λ (b : NameBook). Tells mid b asked) (sym same) m)) in
    subst (λ (answers : List Answered). Tells new names answers)
    (replay_log X Y H G c.args.lines.now told asked (asked ++ log_of Y G (ends_of G)) c.in_ok-ask_lines.ensures.store c.in_ok-ask_lines.ensures.events refl refl) n) c.end_sessions.ensures.log
