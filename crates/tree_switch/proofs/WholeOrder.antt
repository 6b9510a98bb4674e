-- The concatenation of the serial orders of the phases is serial for the whole run.
use Rattle.std.proofs.Common.{◌≡◌, ℕ, List, [], ◌∷◌, ◌++◌, map, refl, sym, ◌∙◌, ap, subst}
use Rattle.std.specs.List.{All}
use Rattle.std.proofs.lemmas.List.Elements.{All-nil, All-cons}
use Rattle.teb_rules.specs.declared.names.Cell.{Cell}
use Rattle.teb_rules.specs.declared.history.Event.{Event}
use Rattle.teb_rules.specs.Ranks.{serial_order}
use Rattle.teb_rules.specs.Replay.{Values, ReplaysRight, table_after, after_puts}
use Rattle.teb_rules.specs.Serializes.{Serializes}
use Rattle.teb_rules.proofs.lemmas.laws.Laws.{every_run_serializes}
use Rattle.engine_core.specs.EngineModel.{EngineModel, IsOfEngine}
use Rattle.engine_core.proofs.Reached.{law_of}
use Rattle.tree_switch.specs.Courses.{Course, phases, first, start_of, end_of, StartsWith, GoOn, IsCourse}
use Rattle.tree_switch.specs.Serial.{Order, order_of, whole_order, table_along, ReadsRight, IsSerial}

-- the order of one history
pub along_one : (H : List Event) (ts : List ℕ) (T : Values) → table_along (map (λ t. (H, t)) ts) T ≡ table_after H ts T
unfolding table_after
along_one H [] T = refl
along_one H (t ∷ ts) T = along_one H ts (after_puts H t T)

pub reads_one : (H : List Event) (ts : List ℕ) (T : Values) → ReplaysRight H ts T → ReadsRight (map (λ t. (H, t)) ts) T
unfolding ReplaysRight
reads_one H [] T r = tt
reads_one H (t ∷ ts) T r = (r.0, reads_one H ts (after_puts H t T) r.1)

-- the concatenation of two orders
pub along_both : (xs ys : Order) (T : Values) → table_along (xs ++ ys) T ≡ table_along ys (table_along xs T)
along_both [] ys T = refl
along_both (r ∷ xs) ys T = along_both xs ys (after_puts r.0 r.1 T)

pub reads_both : (xs ys : Order) (T : Values) → ReadsRight xs T → ReadsRight ys (table_along xs T) → ReadsRight (xs ++ ys) T
reads_both [] ys T a b = b
reads_both (r ∷ xs) ys T a b = (a.0, reads_both xs ys (after_puts r.0 r.1 T) a.1 b)

abbrev IsRight : EngineModel → Type 0
IsRight e = Serializes e.store e.events (serial_order e.store.setup e.events)

serializes : (e : EngineModel) → IsOfEngine e → IsRight e
serializes e i = law_of (λ X H. Serializes X H (serial_order X.setup H)) every_run_serializes e.store e.events i.sound i.reached

-- two tables with the same values are the same
pub same_table : (T U : Values) → ((x : Cell) → T x ≡ U x) → T ≡ U
same_table T U h = λ i x. h x i

-- the order of one phase leads from its starting table to its final table
module _ (names : List (List ℕ)) (T : Values) (e : EngineModel) (s : StartsWith names T e) where
  right : IsRight e
  right = serializes e s.engine

  starts : start_of e ≡ T
  starts = same_table (start_of e) T s.rows

  along_phase : table_along (order_of e) T ≡ end_of e
  along_phase =
      along_one e.events (serial_order e.store.setup e.events) T
      ∙ ap (table_after e.events (serial_order e.store.setup e.events)) (sym starts)
      ∙ same_table (table_after e.events (serial_order e.store.setup e.events) (start_of e)) (end_of e) right.final

  reads_phase : ReadsRight (order_of e) T
  reads_phase = reads_one e.events (serial_order e.store.setup e.events) T (subst (ReplaysRight e.events (serial_order e.store.setup e.events)) starts right.reads)

-- the final table of the last phase
last_end : Values → List EngineModel → Values
last_end T [] = T
last_end T (e ∷ es) = last_end (end_of e) es

last_is : (T : Values) (past : List EngineModel) (e : EngineModel) → last_end T (past ++ e ∷ []) ≡ end_of e
unfolding last_end
last_is T [] e = refl
last_is T (d ∷ ds) e = last_is (end_of d) ds e

along_all : (names : List (List ℕ)) (T : Values) (es : List EngineModel) → GoOn names T es → table_along (whole_order es) T ≡ last_end T es
unfolding last_end
along_all names T [] g = refl
along_all names T (e ∷ es) g =
    along_both (order_of e) (whole_order es) T
    ∙ ap (table_along (whole_order es)) (along_phase names T e g.0)
    ∙ along_all names (end_of e) es g.1

reads_all : (names : List (List ℕ)) (T : Values) (es : List EngineModel) → GoOn names T es → ReadsRight (whole_order es) T
reads_all names T [] g = tt
reads_all names T (e ∷ es) g =
    reads_both (order_of e) (whole_order es) T (reads_phase names T e g.0)
    (subst (ReadsRight (whole_order es)) (sym (along_phase names T e g.0)) (reads_all names (end_of e) es g.1))

each_right : (names : List (List ℕ)) (T : Values) (es : List EngineModel) → GoOn names T es → All IsRight es
each_right names T [] g = All-nil IsRight
each_right names T (e ∷ es) g = All-cons IsRight e es (serializes e g.0.engine) (each_right names (end_of e) es g.1)

pub is_serial : (p : Course) → IsCourse p → IsSerial p
is_serial p g =
    let names = (first p).names.tables in
    let T = start_of (first p) in
    record {
      reads = reads_all names T (phases p) g;
      final = λ x. ap (λ (U : Values). U x) (along_all names T (phases p) g ∙ last_is T p.past p.present);
      each = each_right names T (phases p) g;
    }
