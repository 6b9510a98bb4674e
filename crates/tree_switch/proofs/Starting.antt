-- How a phase starts.
use Rattle.std.proofs.Common.{◌≡◌, ℕ, ◌<◌, List, [], ◌∷◌, ◌++◌, length, sym, ◌∙◌, ap, subst, ℤ}
use Rattle.std.specs.List.{All}
use Rattle.teb_rules.specs.declared.names.Cell.{Cell}
use Rattle.teb_rules.specs.declared.names.Session.{Session}
use Rattle.teb_rules.specs.declared.names.Request.{Request}
use Rattle.teb_rules.specs.declared.names.naming.NameBook.{NameBook}
use Rattle.teb_rules.specs.Setup.{Store}
use Rattle.teb_rules.specs.Accepted.{IsSound}
use Rattle.teb_rules.specs.Answer.{answer}
use Rattle.teb_rules.specs.Replay.{Values}
use Rattle.teb_rules.specs.laws.Within.{StaysWithin}
use Rattle.teb_rules.proofs.lemmas.laws.Within.{stays_within}
use Rattle.teb_rules.specs.Epochs.{AreFinalRows}
use Rattle.serial_order.proofs.Within.{rows_within, row_within}
use Rattle.store_setup.specs.declared.Setup.{Setup}
use Rattle.store_setup.specs.SetupView.{setup_view}
use Rattle.store_setup.specs.Sound.{IsWhole}
use Rattle.engine_core.specs.EngineModel.{EngineModel, IsOfEngine, IsReached}
use Rattle.store_setup.specs.Stores.{store_of}
use Rattle.engine_core.proofs.Reached.{law_of, reached_none, reached_more}
use Rattle.engine_core.proofs.Setups.{sound_rules}
use Rattle.tree_switch.specs.Courses.{start_of, end_of, first_of, GoOn, IsCourse}
use Rattle.tree_switch.proofs.GoingOn.{followed}
use Rattle.tree_switch.specs.Starts.{IsStarted}

-- the final rows of an engine are in its tables, and so in those of a setup with the same table names
pub left_within : (e : EngineModel) (s t : Setup) → IsOfEngine e → store_of s ≡ e.store → s.names ≡ e.names → IsWhole (setup_view s) → t.names.tables ≡ e.names.tables → (rows : List (Cell × ℤ))
    → AreFinalRows e.store e.events rows
    → All (λ (r : Cell × ℤ). r.0.table.0 < length t.names.tables) rows
left_within e s t i q n w same rows f =
    let within : All (λ (r : Cell × ℤ). r.0.table.0 < e.store.tables) rows = rows_within e.store e.events rows
    (λ x v. row_within e.store.tables e.store.rows x v (subst (λ (X : Store). All (λ (r : Cell × ℤ). r.0.table.0 < X.tables) X.rows) q w.cells))
    (law_of StaysWithin stays_within e.store e.events i.sound i.reached).events f in
    let count : e.store.tables ≡ length t.names.tables = sym (ap (λ (X : Store). X.tables) q) ∙ ap (λ (b : NameBook). length b.tables) n ∙ sym (ap length same) in
    subst (λ (tables : ℕ). All (λ (r : Cell × ℤ). r.0.table.0 < tables) rows) count within

-- a whole setup stays whole with other rows of its tables
pub whole_with : (s t : Setup) → IsWhole (setup_view s) → t.names ≡ s.names → t.profiles.items ≡ s.profiles.items → t.tree ≡ s.tree → All (λ (r : Cell × ℤ). r.0.table.0 < length s.names.tables) t.rows
    → IsWhole (setup_view t)
whole_with s t w n p r cells = rw (n, p, r) (record { sound = w.sound; profiles = w.profiles; types = w.types; few_nodes = w.few_nodes; few_tables = w.few_tables; ranked = w.ranked; cells = cells })

-- an engine that was started is a phase
pub started : (s : Setup) (before e : EngineModel) → IsWhole (setup_view s) → IsStarted s before e → IsOfEngine e
started s before e w i = record { sound = subst IsSound (sym i.setup) (sound_rules s w); reached = reached_none e.store e.events i.events }

pub starts_at : (s : Setup) (before e : EngineModel) → IsStarted s before e → (x : Cell) → start_of e x ≡ end_of before x
starts_at s before e i x = i.rows.each x

-- the present phase is an engine's model
present_of : (names : List (List ℕ)) (T : Values) (past : List EngineModel) (e : EngineModel) → GoOn names T (past ++ e ∷ []) → IsOfEngine e
present_of names T [] e g = g.0.engine
present_of names T (d ∷ ds) e g = present_of names (end_of d) ds e g.1

pub present : (past : List EngineModel) (e : EngineModel) → IsCourse (record { past = past; present = e }) → IsOfEngine e
present past e g = present_of (first_of past e).names.tables (start_of (first_of past e)) past e g

-- the present phase stays an engine's model after an answer, and if no event was added
pub asked : (past : List EngineModel) (e f : EngineModel) (s : Session) (r : Request) → IsCourse (record { past = past; present = e }) → f.store ≡ e.store → f.events ≡ (answer e.store e.events s r).1
    → IsOfEngine f
asked past e f s r g same step =
    let i = present past e g in
    record {
      sound = subst (λ (X : Store). IsSound X.setup) (sym same) i.sound;
      reached = subst (λ (X : Store). IsReached X f.events) (sym same) (reached_more e.store e.events s r i.reached f.events step);
    }

pub same_events : (past : List EngineModel) (e f : EngineModel) → IsCourse (record { past = past; present = e }) → f.store ≡ e.store → f.events ≡ e.events → IsOfEngine f
same_events past e f g same step =
    let i = present past e g in
    record {
      sound = subst (λ (X : Store). IsSound X.setup) (sym same) i.sound;
      reached = subst (λ (X : Store). IsReached X f.events) (sym same) (subst (IsReached e.store) (sym step) i.reached);
    }

-- the course stays valid if the next phase is started
pub moved_on : (s : Setup) (past later : List EngineModel) (e f : EngineModel) → IsWhole (setup_view s) → s.names.tables ≡ e.names.tables → IsStarted s e f → later ≡ past ++ e ∷ []
    → IsCourse (record { past = past; present = e }) → IsCourse (record { past = later; present = f })
moved_on s past later e f w t i l g =
    subst (λ (ps : List EngineModel). IsCourse (record { past = ps; present = f })) (sym l)
    (followed past e f (started s e f w i) (ap (λ (b : NameBook). b.tables) i.names ∙ t) (starts_at s e f i) g)
