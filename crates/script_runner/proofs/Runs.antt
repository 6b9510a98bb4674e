-- Runs over the store of a whole setup: everything that they name has a name, and the serial order serializes them.
use Rattle.std.proofs.Common.{◌≡◌, ℕ, Option, List, [], ◌∷◌, ◌++◌, length, Some, refl, sym, ◌∙◌, ap, ap₂, subst, subst₂}
use Rattle.std.specs.Prelude.{All, ◌≤◌}
use Rattle.teb_rules.specs.declared.names.Entry.{Entry}
use Rattle.teb_rules.specs.declared.names.Session.{Session}
use Rattle.teb_rules.specs.declared.names.Reply.{Reply}
use Rattle.teb_rules.specs.declared.names.naming.NameBook.{NameBook}
use Rattle.teb_rules.specs.declared.history.Event.{Event}
use Rattle.teb_rules.specs.Setup.{Store}
use Rattle.teb_rules.specs.Answer.{answer}
use Rattle.teb_rules.specs.Run.{history_after, requests_of}
use Rattle.teb_rules.specs.Driver.{Seat, Follows, Turns, round_after, seated}
use Rattle.driver_laws.specs.Laws.{most_requests}
use Rattle.teb_rules.specs.Ranks.{serial_order}
use Rattle.teb_rules.specs.Serializes.{Serializes}
use Rattle.teb_rules.specs.laws.Within.{ReplyWithin}
use Rattle.teb_rules.proofs.lemmas.laws.Laws.{every_run_serializes}
use Rattle.script_text.specs.declared.Line.{Line}
use Rattle.script_text.specs.declared.Answered.{Answered}
use Rattle.script_text.specs.Scripts.{scripts_of}
use Rattle.script_text.specs.Named.{ReplyNamed}
use Rattle.script_runner.specs.replay.Logs.{Requests, log_of, replayed}
use Rattle.script_runner.proofs.lemmas.replay.Logged.{history_none}
use Rattle.script_runner.proofs.lemmas.replay.Within.{log_within}
use Rattle.script_runner.specs.turns.Logged.{AreAnswers, IsOf, answers_of}
use Rattle.script_runner.specs.turns.Seats.{scripts_on}
use Rattle.store_setup.specs.SetupView.{SetupView}
use Rattle.store_setup.specs.Sound.{IsWhole, IsNamed}
use Rattle.store_setup.specs.Stores.{store_of_view, names_of}
use Rattle.input_reader.specs.Tasks.{Task}
use Rattle.printed_run.specs.Histories.{IsHistoryOver}
use Rattle.printed_run.proofs.Names.{reply_named}
use Rattle.printed_run.proofs.Histories.{history_is, sound}
use Rattle.engine_core.specs.EngineModel.{EngineModel}
use Rattle.command_output.specs.Shown.{Shown}
use Rattle.script_runner.specs.Runs.{AreTurns, HasRun, IsReplay, IsRun, IsRunOver, IsSerialized, Run, Says}

-- the driver's log has the replies to its requests
follows_log : (X : Store) (H : List Event) (ws : List Seat) (entries : List Entry) → Follows X H ws entries → answers_of entries ≡ log_of X H (requests_of entries)
unfolding Follows
follows_log X H ws [] f = refl
follows_log X H ws (e ∷ entries) f =
    ap₂ (λ (a : Reply) (more : List Answered). record { session = e.session; reply = a } ∷ more) f.4
    (follows_log X (answer X H e.session e.request).1 (round_after f.0 e.reply) entries f.5)

module _ (m : SetupView) (whole : IsWhole m) (named : IsNamed m) where
  log_named : (asked : Requests) → All (λ (a : Answered). ReplyNamed (names_of m) a.reply) (log_of (store_of_view m) [] asked)
  log_named asked k d low =
      reply_named m whole named _ (subst (λ (H : List Event). All (λ (a : Answered). ReplyWithin (store_of_view m) a.reply) (log_of (store_of_view m) H asked)) (history_none (store_of_view m) [])
      (log_within (store_of_view m) (sound m whole) [] asked) k d low)

-- such a run: everything that its replies and final rows name has a name, and it is serialized
module _ (m : SetupView) (X : Store) (names : NameBook) (log : List Answered) (H : List Event) (over : IsRunOver m X names log H) where
  pub replies_named : (book : NameBook) (now : List Answered) → book ≡ names → now ≡ log → All (λ (a : Answered). ReplyNamed book a.reply) now
  replies_named book now b l =
      let r : log ≡ log_of (store_of_view m) [] over.asked = subst (λ (Y : Store). log ≡ log_of Y [] over.asked) over.store over.replies in
      subst (λ (k : NameBook). All (λ (a : Answered). ReplyNamed k a.reply) now) (sym (b ∙ over.named))
      (subst (λ (w : List Answered). All (λ (a : Answered). ReplyNamed (names_of m) a.reply) w) (sym (l ∙ r)) (log_named m over.whole over.nodes over.asked))

  -- its history is one of the setup's store
  abbrev pub history_over : IsHistoryOver m X names H
  history_over = record { whole = over.whole; nodes = over.nodes; store = over.store; named = over.named; reached = (over.asked, over.events) }

  serialized : Serializes (store_of_view m) H (serial_order (store_of_view m).setup H)
  serialized =
      subst (λ (G : List Event). Serializes (store_of_view m) G (serial_order (store_of_view m).setup G)) (sym (history_is m X names H history_over))
      (every_run_serializes (store_of_view m) (sound m over.whole) over.asked)

-- the output of a run, if its text is as S says
pub is_run : (R : Run) (S : Says) (Tells : NameBook → List Answered → Type 0) (task : Task) (e : EngineModel) (d : Shown) (text : List ℕ) (run : HasRun R Tells task e)
    → S e.store e.names e.events run.answers text
    → d ≡ record { status = 0; text = text; history = Some e.events } → IsRun R S task d
is_run R S Tells task e d text run said put = record {
  log = run.answers;
  history = e.events;
  ran = run.ran;
  status = ap (λ (o : Shown). o.status) put;
  kept = ap (λ (o : Shown). o.history) put;
  text = subst₂ (λ (X : Store) (names : NameBook). S X names e.events run.answers d.text) run.over.store run.over.named
      (subst (λ (t : List ℕ). S e.store e.names e.events run.answers t) (sym (ap (λ (o : Shown). o.text) put)) said);
}

-- so the history that was kept of the run is serialized
pub is_serialized : (m : SetupView) (X : Store) (names : NameBook) (log : List Answered) (H : List Event) (history : Option (List Event)) → IsRunOver m X names log H → history ≡ Some H
    → IsSerialized (λ (s : SetupView). m ≡ s) history
is_serialized m X names log H history over kept = rw kept (m, refl, serialized m X names log H over)

-- an engine's replies and history are a run over a setup if its store is the setup's
module _ (m : SetupView) (X Y : Store) (names : NameBook) (log : List Answered) (H : List Event) (whole : IsWhole m) (nodes : IsNamed m) (store : X ≡ store_of_view m) (kept : Y ≡ X)
    (named : names ≡ names_of m) where
  run_over : (asked : Requests) → log ≡ log_of X [] asked → H ≡ history_after X [] asked → IsRunOver m Y names log H
  run_over asked replies events = record {
    whole = whole;
    nodes = nodes;
    store = kept ∙ store;
    named = named;
    asked = asked;
    replies = rw kept replies;
    events = rw kept events;
  }

  pub replay_over : (old : List Answered) (G : List Event) (lines : List Line) → old ≡ [] → G ≡ [] → log ≡ old ++ log_of X G (replayed X G lines) → H ≡ history_after X G (replayed X G lines)
      → IsRunOver m Y names log H
  replay_over old G lines o g replies events =
      run_over (replayed X [] lines) (replies ∙ ap₂ (λ (w : List Answered) (P : List Event). w ++ log_of X P (replayed X P lines)) o g)
      (events ∙ ap (λ (P : List Event). history_after X P (replayed X P lines)) g)

  pub turns_over : (scripts : List (Session × List Line)) → IsOf (Turns X (scripts_on scripts)) X log H → IsRunOver m Y names log H
  turns_over scripts of = run_over (requests_of of.entries) (of.replies ∙ follows_log X [] (seated (scripts_on scripts)) of.entries of.holds.follows) of.events

-- the replies of a replay that begins with an empty history
pub replayed_is : (X Y : Store) (H K : List Event) (xs ys : List Line) → X ≡ Y → H ≡ [] → xs ≡ ys → K ≡ history_after X H (replayed X H xs) → IsReplay Y ys (log_of X H (replayed X H xs)) K
replayed_is X Y H K xs ys same none lines events = record {
  replies = ap₂ (λ (Z : Store) (J : List Event). log_of Z J (replayed Z J xs)) same none ∙ ap (λ (ls : List Line). log_of Y [] (replayed Y [] ls)) lines;
  events = events ∙ ap₂ (λ (Z : Store) (J : List Event). history_after Z J (replayed Z J xs)) same none ∙ ap (λ (ls : List Line). history_after Y [] (replayed Y [] ls)) lines;
}

-- the replies of the driver to the scripts of lines
pub turned : (X : Store) (lines : List Line) (scripts : List (Session × List Line)) (Tells : List Answered → Type 0) (H : List Event) (before after : ℕ) → scripts ≡ scripts_of lines
    → AreAnswers (Turns X (scripts_on scripts)) X (scripts_on scripts) Tells H before after → (answers : List Answered) × Tells answers × AreTurns X lines answers H
turned X lines scripts Tells H before after e a = (
  a.answers,
  a.told,
  record {
    turns = subst (λ (ss : List (Session × List Line)). IsOf (Turns X (scripts_on ss)) X a.answers H) e a.of;
    few = subst (λ (ss : List (Session × List Line)). length a.answers ≤ most_requests (scripts_on ss)) e a.bound;
  },
)
