-- Phases continue: the present one advances, or another one follows it.
use Rattle.std.proofs.Common.{◌≡◌, ℕ, List, [], ◌∷◌, ◌++◌, refl, sym, ◌∙◌, ap, subst}
use Rattle.teb_rules.specs.declared.names.Cell.{Cell}
use Rattle.teb_rules.specs.Replay.{Values}
use Rattle.engine_core.specs.EngineModel.{EngineModel, IsOfEngine}
use Rattle.tree_switch.specs.Courses.{first_of, start_of, end_of, StartsWith, GoOn, IsCourse}

-- the present phase with another history
further_on : (names : List (List ℕ)) (T : Values) (past : List EngineModel) (e f : EngineModel) → f.store ≡ e.store → f.names ≡ e.names → IsOfEngine f → GoOn names T (past ++ e ∷ [])
    → GoOn names T (past ++ f ∷ [])
further_on names T [] e f s n i g = (
  record {
    engine = i;
    tables = ap (λ (b : _). b.tables) n ∙ g.0.tables;
    rows = λ x. ap (λ (X : _). start_of (record e { store = X }) x) s ∙ g.0.rows x;
  },
  tt,
)
further_on names T (d ∷ ds) e f s n i g = (g.0, further_on names (end_of d) ds e f s n i g.1)

pub further : (past : List EngineModel) (e f : EngineModel) → f.store ≡ e.store → f.names ≡ e.names → IsOfEngine f → IsCourse (record { past = past; present = e })
    → IsCourse (record { past = past; present = f })
further [] e f s n i g = (record { engine = i; tables = refl; rows = λ x. refl }, tt)
further (d ∷ ds) e f s n i g = further_on d.names.tables (start_of d) (d ∷ ds) e f s n i g

-- the tables of the present phase are those of the first
tables_last : (names : List (List ℕ)) (T : Values) (past : List EngineModel) (e : EngineModel) → GoOn names T (past ++ e ∷ []) → e.names.tables ≡ names
tables_last names T [] e g = g.0.tables
tables_last names T (d ∷ ds) e g = tables_last names (end_of d) ds e g.1

-- one more phase
one_more : (names : List (List ℕ)) (T : Values) (past : List EngineModel) (e f : EngineModel) → StartsWith names (end_of e) f → GoOn names T (past ++ e ∷ [])
    → GoOn names T ((past ++ e ∷ []) ++ f ∷ [])
one_more names T [] e f s g = (g.0, (s, tt))
one_more names T (d ∷ ds) e f s g = (g.0, one_more names (end_of d) ds e f s g.1)

first_stays : (past : List EngineModel) (e f : EngineModel) → first_of (past ++ e ∷ []) f ≡ first_of past e
first_stays [] e f = refl
first_stays (d ∷ ds) e f = refl

pub followed : (past : List EngineModel) (e f : EngineModel) → IsOfEngine f → f.names.tables ≡ e.names.tables → ((x : Cell) → start_of f x ≡ end_of e x)
    → IsCourse (record { past = past; present = e }) → IsCourse (record { past = past ++ e ∷ []; present = f })
followed past e f i t r g =
    let d = first_of past e in
    subst (λ (c : EngineModel). GoOn c.names.tables (start_of c) ((past ++ e ∷ []) ++ f ∷ [])) (sym (first_stays past e f))
    (one_more d.names.tables (start_of d) past e f (record { engine = i; tables = t ∙ tables_last d.names.tables (start_of d) past e g; rows = r }) g)
