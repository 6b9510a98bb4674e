-- Phases that run one after another.
use Rattle.std.proofs.Common.{◌≡◌, ℕ, List, [], ◌∷◌, ◌++◌, length, drop, append_assoc, refl, arith, sym, ◌∙◌, ap, subst}
use Rattle.std.proofs.lemmas.List.{append-nil}
use Rattle.teb_rules.specs.declared.names.naming.NameBook.{NameBook}
use Rattle.teb_rules.specs.Setup.{Store}
use Rattle.teb_rules.specs.Epochs.{AreFinalRows, IsDrained}
use Rattle.engine_core.specs.EngineModel.{EngineModel}
use Rattle.tree_switch.specs.Courses.{Course, IsCourse, phases}
use Rattle.tree_switch.specs.Refusals.{MaySwitch}
use Rattle.tree_switch.proofs.WholeOrder.{is_serial}
use Rattle.input_reader.specs.Tasks.{Task}
use Rattle.phase_runner.specs.Runs.{RunFrom, RunInTurn, Table}
use Rattle.phase_runner.specs.Steps.{AllFollow, AreFollowing, HasRun}

-- the rows that an engine leaves
abbrev pub Leaves : EngineModel → Table → Type 0
Leaves e rows = AreFinalRows e.store e.events rows

-- the first task starts with its own rows
abbrev pub RunAll : List Task → List EngineModel → List ℕ → Type 0
RunAll [] es text = text ≡ []
RunAll (task ∷ later) es text = RunFrom task.setup.rows (task ∷ later) es text

-- the present engine is drained and has left some rows; from them the later tasks may go on, and their text follows the text so far
pub record MayGoOn (all later : List Task) (p : Course) (text : List ℕ) : Type 0 where
  pub course : IsCourse p
  pub drained : IsDrained p.present.events
  pub follow : AllFollow p.present.names.tables later
  pub rows : Table
  pub left : Leaves p.present rows
  pub goes : (R : Table) → Leaves p.present R → (es : List EngineModel) (back : List ℕ) → RunFrom R later es back → RunAll all (phases p ++ es) (text ++ back)

module _ (rows : Table) (task : Task) (later : List Task) (p : Course) (old new : List ℕ) (h : HasRun rows task p.present old new) where
  -- the text of the later tasks follows the report of this one
  with_later : (R : Table) → Leaves p.present R → (es : List EngineModel) (back : List ℕ) → RunFrom R later es back → RunFrom rows (task ∷ later) (p.present ∷ es) (h.front ++ back)
  with_later R leaves es back run = record {
    left = R;
    front = h.front;
    back = back;
    store = h.store;
    phase = h.phase;
    final = subst (λ (X : Store). AreFinalRows X p.present.events R) h.store leaves;
    follows = run;
    joined = refl;
  }

  -- the engines `before` are the past phases
  module _ (before : List EngineModel) (past : p.past ≡ before) (all : List Task) (goes : (es : List EngineModel) (text : List ℕ) → RunFrom rows (task ∷ later) es text
      → RunAll all (before ++ es) (old ++ text)) where
    behind_report : (R : Table) → Leaves p.present R → (es : List EngineModel) (back : List ℕ) → RunFrom R later es back → RunAll all (phases p ++ es) (new ++ back)
    behind_report R leaves es back run =
        let text : new ++ back ≡ old ++ (h.front ++ back) = ap (λ (w : List ℕ). w ++ back) h.joined ∙ append_assoc old h.front back in
        let engines : phases p ++ es ≡ before ++ (p.present ∷ es) = append_assoc p.past (p.present ∷ []) es ∙ ap (λ (ds : List EngineModel). ds ++ (p.present ∷ es)) past in
        subst (λ (ds : List EngineModel). RunAll all ds (new ++ back)) (sym engines)
        (subst (RunAll all (before ++ (p.present ∷ es))) (sym text) (goes (p.present ∷ es) (h.front ++ back) (with_later R leaves es back run)))

    after_run : IsCourse p → AllFollow task.setup.tables later → MayGoOn all later p new
    after_run course follow = record {
      course = course;
      drained = h.drained;
      follow = subst (λ (b : NameBook). AllFollow b.tables later) (sym h.names) follow;
      rows = h.phase.told.rows;
      left = subst (λ (X : Store). AreFinalRows X p.present.events h.phase.told.rows) (sym h.store) h.phase.told.final;
      goes = behind_report;
    }

-- the first task has run
pub first_run : (task : Task) (later : List Task) (p : Course) (old new : List ℕ) → IsCourse p → p.past ≡ [] → old ≡ [] → AreFollowing (task ∷ later) → HasRun task.setup.rows task p.present old new
    → MayGoOn (task ∷ later) later p new
first_run task later p old new course past o follow h =
    after_run task.setup.rows task later p old new h [] past (task ∷ later) (λ es text run. subst (λ (w : List ℕ). RunAll (task ∷ later) es (w ++ text)) (sym o) run) course follow

-- the next one may run
pub may_switch : (all : List Task) (task : Task) (later : List Task) (p : Course) (text : List ℕ) → MayGoOn all (task ∷ later) p text → MaySwitch p.present task.setup
may_switch all task later p text g = record { drained = g.drained; tables = g.follow.0; rows = g.follow.1 }

-- the next task has run
pub next_run : (all : List Task) (task : Task) (later : List Task) (p q : Course) (text new : List ℕ) → MayGoOn all (task ∷ later) p text → IsCourse q → q.past ≡ phases p → (rows : Table)
    → Leaves p.present rows → HasRun rows task q.present text new → MayGoOn all later q new
next_run all task later p q text new g course past rows leaves h =
    after_run rows task later q text new h (phases p) past all (λ es back run. g.goes rows leaves es back run)
    course (subst (λ (names : List (List ℕ)). AllFollow names later) (sym g.follow.0) g.follow.2)

-- no task is left
pub all_run : (all : List Task) (p : Course) (text : List ℕ) → MayGoOn all [] p text → RunInTurn all text
all_run all p text g = go all
    (subst (λ (es : List EngineModel). RunAll all es text) (append-nil (phases p)) (subst (RunAll all (phases p ++ [])) (append-nil text) (g.goes g.rows g.left [] [] (refl, refl))))
  where
    go : (tasks : List Task) → RunAll tasks (phases p) text → RunInTurn tasks text
    go [] run = run
    go (task ∷ later) run = record { course = p; ran = run; serial = is_serial p g.course }

-- if dropping the first element changes nothing, there was none
pub all_taken : (xs ys : List Task) → xs ≡ ys → ys ≡ drop 1 xs → xs ≡ []
all_taken [] ys e d = refl
all_taken (x ∷ xs) ys e d = absurd (let z : length (x ∷ xs) ≡ length xs = ap length (e ∙ d) in omega (arith, z))
