-- One phase of a store, from its start to its end.
use Rattle.std.proofs.Common.{◌≡◌, ℕ, List, [], ◌++◌, length, Result, Ok, Err, IfOk, refl, sym, ◌∙◌, ap, ap₂, subst}
use Rattle.std.specs.declared.alloc.AllocError.{AllocError}
use Rattle.teb_rules.specs.declared.names.naming.NameBook.{NameBook}
use Rattle.teb_rules.specs.declared.history.Event.{Event}
use Rattle.teb_rules.specs.Setup.{Setup as Rules, Store}
use Rattle.teb_rules.specs.Accepted.{IsSound}
use Rattle.teb_rules.specs.Run.{history_after}
use Rattle.teb_rules.specs.Epochs.{AreFinalRows, IsDrained}
use Rattle.script_text.specs.declared.Line.{Line}
use Rattle.script_text.specs.declared.Answered.{Answered}
use Rattle.script_runner.specs.replay.Logs.{log_of, replayed}
use Rattle.store_setup.specs.declared.Setup.{Setup}
use Rattle.store_setup.specs.SetupView.{SetupView, setup_view}
use Rattle.store_setup.specs.Sound.{IsWhole}
use Rattle.engine_core.specs.EngineModel.{EngineModel, IsReached}
use Rattle.store_setup.specs.Stores as engine
use Rattle.tree_switch.specs.Courses.{Course, IsCourse}
use Rattle.tree_switch.specs.declared.error.SwitchError.{SwitchError}
use Rattle.tree_switch.specs.declared.error.SwitchError.TheVariants.{Again, Untold, Tables, Rows, OutOfMemory}
use Rattle.tree_switch.specs.Refusals.{IsCause, MaySwitch}
use Rattle.tree_switch.specs.Starts.{IsStarted}
use Rattle.tree_switch.proofs.GoingOn.{further}
use Rattle.tree_switch.proofs.Starting.{present}
use Rattle.store_setup.specs.Stores.{store_of_view, names_of}
use Rattle.input_reader.specs.Tasks.{Task}
use Rattle.script_runner.specs.Runs.{IsReplay, IsReport, IsRunOver}
use Rattle.phase_runner.specs.Runs.{IsPhase, Table, starting_with}
use Rattle.phase_runner.specs.Steps.{HasRun}
use Rattle.phase_runner.proofs.Drained.{replay_drained}

-- the engine e had an empty history, and a replay turned it into f
module _ (e f : EngineModel) (lines : List Line) (log : List Answered) (store : f.store ≡ e.store) (names : f.names ≡ e.names) where
  pub is_replay : (old : List Answered) → old ≡ [] → e.events ≡ [] → log ≡ old ++ log_of e.store e.events (replayed e.store e.events lines)
      → f.events ≡ history_after e.store e.events (replayed e.store e.events lines) → IsReplay e.store lines log f.events
  is_replay old o n replies events = record {
    replies = replies ∙ ap₂ (λ (w : List Answered) (G : List Event). w ++ log_of e.store G (replayed e.store G lines)) o n;
    events = events ∙ ap (λ (G : List Event). history_after e.store G (replayed e.store G lines)) n;
  }

  module _ (run : IsReplay e.store lines log f.events) where
    pub run_over : (s : Setup) → IsWhole (setup_view s) → length s.tree.rows ≡ length s.names.nodes → engine.store_of s ≡ e.store → s.names ≡ e.names
        → IsRunOver (setup_view s) f.store f.names log f.events
    run_over s whole nodes q n = record {
      whole = whole;
      nodes = nodes;
      store = store ∙ sym q;
      named = names ∙ sym n;
      asked = replayed e.store [] lines;
      replies = rw store run.replies;
      events = rw store run.events;
    }

    pub gone_on : (past : List EngineModel) → IsCourse (record { past = past; present = e }) → IsCourse (record { past = past; present = f })
    gone_on past g = further past e f store names (record {
      sound = subst (λ (X : Store). IsSound X.setup) (sym store) (present past e g).sound;
      reached = subst (λ (X : Store). IsReached X f.events) (sym store) (replayed e.store [] lines, run.events);
    }) g

    pub drained : (past : List EngineModel) → IsCourse (record { past = past; present = e }) → IsDrained f.events
    drained past g = subst IsDrained (sym run.events) (replay_drained e.store (present past e g).sound lines)

    pub is_phase : (text : List ℕ) → IsReport f.store f.names f.events log text → IsPhase e.store e.names lines f.events text
    is_phase text told = record {
      log = log;
      ran = run;
      told = subst (λ (b : NameBook). IsReport e.store b f.events log text) names (subst (λ (X : Store). IsReport X f.names f.events log text) store told);
    }

-- the present engine e of a course had an empty history, and a replay turned it into f
module _ (p : Course) (past : List EngineModel) (e f : EngineModel) (lines : List Line) (old log : List Answered) (course : IsCourse p) (past_is : past ≡ p.past) (present_is : e ≡ p.present)
    (new : p.present.events ≡ [])
    (store : f.store ≡ e.store) (names : f.names ≡ e.names) (empty : old ≡ []) (replies : log ≡ old ++ log_of e.store e.events (replayed e.store e.events lines))
    (events : f.events ≡ history_after e.store e.events (replayed e.store e.events lines)) where
  parts : IsCourse (record { past = past; present = e })
  parts = subst IsCourse (sym (ap₂ (λ (ps : List EngineModel) (d : EngineModel). let q : Course = record { past = ps; present = d } in q) past_is present_is)) course

  run : IsReplay e.store lines log f.events
  run = is_replay e f lines log store names old empty (ap (λ (d : EngineModel). d.events) present_is ∙ new) replies events

  pub course_after : IsCourse (record { past = past; present = f })
  course_after = gone_on e f lines log store names run past parts

  pub drained_after : IsDrained f.events
  drained_after = drained e f lines log store names run past parts

  -- its report, appended to a text
  pub reported_after : (d : EngineModel) (text before behind : List ℕ) → d ≡ f → IsReport f.store f.names f.events log text → behind ≡ before ++ text → (front : List ℕ)
      × IsPhase p.present.store p.present.names lines d.events front × (behind ≡ before ++ front)
  reported_after d text before behind same told joined = (
    text,
    subst (λ (k : EngineModel). IsPhase p.present.store p.present.names lines k.events text) (sym same)
        (subst (λ (k : EngineModel). IsPhase k.store k.names lines f.events text) present_is (is_phase e f lines log store names run text told)),
    joined,
  )

  -- the replay is a run over the setup of the present engine
  pub over_after : (s : Setup) → IsWhole (setup_view s) → engine.store_of s ≡ e.store → s.names ≡ e.names → length p.present.store.setup.tree ≡ length p.present.names.nodes
      → IsRunOver (setup_view s) f.store f.names log f.events
  over_after s whole q n named =
      let nodes : length e.store.setup.tree ≡ length e.names.nodes = ap (λ (d : EngineModel). length d.store.setup.tree) present_is ∙ named
      ∙ sym (ap (λ (d : EngineModel). length d.names.nodes) present_is) in
      run_over e f lines log store names run s whole (ap (λ (X : Store). length X.setup.tree) q ∙ nodes ∙ sym (ap (λ (b : NameBook). length b.nodes) n)) q n

-- the text that was appended is the report of a phase
abbrev pub Reported : EngineModel → List Line → EngineModel → List ℕ → List ℕ → Type 0
Reported e lines f old new = (front : List ℕ) × IsPhase e.store e.names lines f.events front × (new ≡ old ++ front)

-- a task has run from these rows, if its engine started with them
pub has_run : (rows : Table) (task : Task) (e f : EngineModel) (lines : List Line) (old new : List ℕ) → e.store ≡ store_of_view (starting_with rows task.setup) → e.names ≡ names_of task.setup
    → lines ≡ task.lines → f.store ≡ e.store → f.names ≡ e.names → IsDrained f.events → Reported e lines f old new
    → HasRun rows task f old new
has_run rows task e f lines old new q n l store names drained r = record {
  store = store ∙ q;
  names = names ∙ n;
  drained = drained;
  front = r.0;
  phase = subst (λ (ls : List Line). IsPhase (store_of_view (starting_with rows task.setup)) (names_of task.setup) ls f.events r.0) l
      (subst (λ (b : NameBook). IsPhase (store_of_view (starting_with rows task.setup)) b lines f.events r.0) n (subst (λ (X : Store). IsPhase X e.names lines f.events r.0) q r.1));
  joined = r.2;
}

-- the store of a phase that started under a setup
module _ (s : Setup) (m : SetupView) (is : setup_view s ≡ m) (before e : EngineModel) (i : IsStarted s before e) where
  pub started_store : e.store ≡ store_of_view (starting_with e.store.rows m)
  started_store = ap₂ (λ (S : Rules) (n : ℕ). record { setup = S; tables = n; rows = e.store.rows }) i.setup i.tables ∙ ap (λ (k : SetupView). store_of_view (starting_with e.store.rows k)) is

  pub started_names : e.names ≡ names_of m
  started_names = i.names ∙ ap names_of is

-- the same, of the result that was returned
pub phase_run : (rows : Table) (task : Task) (e : EngineModel) (lines : List Line) (old new : List ℕ) (r : Result Course AllocError) → e.store ≡ store_of_view (starting_with rows task.setup)
    → e.names ≡ names_of task.setup → lines ≡ task.lines
    → IfOk r (λ p. p.present.store ≡ e.store) → IfOk r (λ p. p.present.names ≡ e.names) → IfOk r (λ p. IsDrained p.present.events) → IfOk r (λ p. Reported e lines p.present old new)
    → IfOk r (λ p. HasRun rows task p.present old new)
phase_run rows task e lines old new (Ok p) q n l store names drained report = has_run rows task e p.present lines old new q n l store names drained report
phase_run rows task e lines old new (Err w) q n l store names drained report = tt

pub from_rows : (task : Task) (before : EngineModel) (rows : Table) (old new : List ℕ) (r : Result Course AllocError) → AreFinalRows before.store before.events rows
    → IfOk r (λ p. HasRun rows task p.present old new)
    → IfOk r (λ p. (x : Table) × AreFinalRows before.store before.events x × HasRun x task p.present old new)
from_rows task before rows old new (Ok p) final h = (rows, final, h)
from_rows task before rows old new (Err w) final h = tt

-- if a switch is allowed, the only error is out of memory
pub only_memory : (e : EngineModel) (m : SetupView) (w : SwitchError) → MaySwitch e m → IsCause e m w → w ≡ OutOfMemory
only_memory e m (Again t) may cause = absurd (may.drained.finished t.0 cause.0)
only_memory e m (Untold s) may cause = absurd (may.drained.told s.0 cause.1.0)
only_memory e m Tables may cause = absurd (cause.1 may.tables)
only_memory e m Rows may cause = absurd (cause.2 may.rows)
only_memory e m OutOfMemory may cause = refl

-- a course is determined by its past and its present engine
pub course_of : (q : Course) (past : List EngineModel) (f : EngineModel) → q.past ≡ past → q.present ≡ f → IsCourse (record { past = past; present = f }) → IsCourse q
course_of q past f p e = subst IsCourse (sym (ap₂ (λ (ps : List EngineModel) (d : EngineModel). let c : Course = record { past = ps; present = d } in c) p e))

-- the past phases of the result that was returned
pub past_of : (r : Result Course AllocError) (xs ys : List EngineModel) → IfOk r (λ p. p.past ≡ xs) → xs ≡ ys → IfOk r (λ p. p.past ≡ ys)
past_of (Ok p) xs ys e f = e ∙ f
past_of (Err w) xs ys e f = tt
