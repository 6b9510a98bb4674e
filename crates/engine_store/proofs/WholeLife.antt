-- The life of a store is one serial run.
use Rattle.std.proofs.Common.{◌≡◌, List, [], ◌∷◌, map, refl, sym, ◌∙◌, ap, subst, arith, le_refl}
use Rattle.std.specs.List.{All}
use Rattle.std.proofs.lemmas.List.{take_all}
use Rattle.std.proofs.lemmas.List.Elements.{All-nil, All-cons}
use Rattle.teb_rules.specs.declared.names.Cell.{Cell}
use Rattle.teb_rules.specs.names.Rows.{row_of}
use Rattle.teb_rules.specs.declared.history.Event.{Event}
use Rattle.teb_rules.specs.Setup.{Store}
use Rattle.teb_rules.specs.Accepted.{IsSound}
use Rattle.teb_rules.specs.Replay.{Values, ReplaysRight, table_after}
use Rattle.teb_rules.specs.Serializes.{Serializes, final_table}
use Rattle.teb_rules.specs.laws.Lawful.{Lawful}
use Rattle.teb_rules.proofs.lemmas.laws.Sound.{tree_facts}
use Rattle.record_journal.specs.Format.{Record}
use Rattle.record_journal.specs.Journal.{after_records}
use Rattle.commit_laws.specs.Commits.{commit_count, rows_after}
use Rattle.commit_laws.specs.Laws.{IsOfSerialRun}
use Rattle.commit_laws.specs.Records.{records_of}
use Rattle.commit_laws.proofs.Laws.{first_commits_serialize, records_final, records_leave_the_rows}
use Rattle.commit_laws.proofs.Prefixes.{length-records}
use Rattle.tree_switch.specs.Serial.{Order, ReadsRight, table_along}
use Rattle.tree_switch.proofs.WholeOrder.{along_one, along_both, reads_one, reads_both, same_table}
use Rattle.engine_store.specs.Lives.{Epoch, IsEpoch, LivesAreSerial, LivesOn, end_of_life, kept_events, kept_order, left_by, order_of_life}

abbrev IsRight : Epoch → Type 0
IsRight e = Serializes e.store (kept_events e) (kept_order e)

abbrev order_of : Epoch → Order
order_of e = map (λ t. (kept_events e, t)) (kept_order e)

-- an epoch leads from the table with which it starts to the one that its kept commits leave
module _ (T : Values) (e : Epoch) (i : IsEpoch e) (same : (x : Cell) → row_of e.store.rows x ≡ T x) where
  run : IsOfSerialRun e.store e.events e.kept
  run = first_commits_serialize e.store e.events i.sound i.lawful i.reads e.kept

  starts : row_of e.store.rows ≡ T
  starts = same_table (row_of e.store.rows) T same

  along_epoch : table_along (order_of e) T ≡ left_by e
  along_epoch =
      along_one (kept_events e) (kept_order e) T
      ∙ ap (table_after (kept_events e) (kept_order e)) (sym starts)
      ∙ same_table (table_after (kept_events e) (kept_order e) (row_of e.store.rows)) (left_by e) (λ x. run.serializes.final x ∙ sym (run.rows x))

  reads_epoch : ReadsRight (order_of e) T
  reads_epoch = reads_one (kept_events e) (kept_order e) T (subst (ReplaysRight (kept_events e) (kept_order e)) starts run.serializes.reads)

along_all : (T : Values) (life : List Epoch) → LivesOn T life → table_along (order_of_life life) T ≡ end_of_life T life
along_all T [] l = refl
along_all T (e ∷ later) l =
    along_both (order_of e) (order_of_life later) T
    ∙ ap (table_along (order_of_life later)) (along_epoch T e l.0 l.1)
    ∙ along_all (left_by e) later l.2

reads_all : (T : Values) (life : List Epoch) → LivesOn T life → ReadsRight (order_of_life life) T
reads_all T [] l = tt
reads_all T (e ∷ later) l =
    reads_both (order_of e) (order_of_life later) T (reads_epoch T e l.0 l.1)
    (subst (ReadsRight (order_of_life later)) (sym (along_epoch T e l.0 l.1)) (reads_all (left_by e) later l.2))

each_right : (T : Values) (life : List Epoch) → LivesOn T life → All IsRight life
each_right T [] l = All-nil IsRight
each_right T (e ∷ later) l = All-cons IsRight e later (run T e l.0 l.1).serializes (each_right (left_by e) later l.2)

pub lives_are_serial : LivesAreSerial
lives_are_serial T life l = record {
  reads = reads_all T life l;
  final = λ x. ap (λ (U : Values). U x) (along_all T life l);
  each = each_right T life l;
}

-- if all commits are kept, they leave the final table
pub all_kept : (X : Store) (H : List Event) → IsSound X.setup → Lawful X.setup H → (x : Cell) → rows_after X H (commit_count H) x ≡ final_table X H x
all_kept X H sound lawful x =
    sym (records_leave_the_rows X H sound lawful (commit_count H) (le_refl _) x)
    ∙ ap (λ (rs : List Record). after_records rs (row_of X.rows) x) (take_all (commit_count H) (records_of X.setup H) (omega (arith, length-records X.setup H)))
    ∙ records_final X (tree_facts X.setup sound) H lawful x
