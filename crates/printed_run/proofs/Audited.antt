-- The printed run of a history over a whole setup with names is audited.
use Rattle.std.proofs.Common.{◌≡◌, ℕ, List, [], reverse, sym, ◌∙◌, subst, append_assoc, ℤ}
use Rattle.std.specs.Prelude.{All}
use Rattle.std.specs.List.{flat_map}
use Rattle.teb_rules.specs.declared.names.Cell.{Cell}
use Rattle.teb_rules.specs.declared.names.Txn.{Txn}
use Rattle.teb_rules.specs.declared.names.naming.NameBook.{NameBook}
use Rattle.teb_rules.specs.names.Rows.{IsAscending}
use Rattle.teb_rules.specs.declared.history.Event.{Event}
use Rattle.teb_rules.specs.Setup.{Store}
use Rattle.teb_rules.specs.Accepted.{IsSound}
use Rattle.teb_rules.specs.Run.{history_after}
use Rattle.teb_rules.specs.laws.Lawful.{Lawful}
use Rattle.teb_rules.proofs.lemmas.laws.Reachable.{run_good, empty_good}
use Rattle.teb_rules.proofs.lemmas.laws.Sound.{tree_facts}
use Rattle.script_text.specs.Ranges.{EventInRange, RowInRange}
use Rattle.script_text.specs.Texts.{starts_text, event_text, report_text}
use Rattle.store_setup.specs.SetupView.{SetupView}
use Rattle.audit_check.specs.Audit.{IsAudited}
use Rattle.audit_law.specs.Law.{printed_run, CanPrint, Reports}
use Rattle.audit_law.proofs.Fitting.{events_fit, starts_fit}
use Rattle.audit_law.proofs.Laws.{printed_runs_are_audited}
use Rattle.printed_run.specs.Histories.{IsHistoryOver}
use Rattle.printed_run.specs.Printed.{IsNamedBy, IsPrintedRun}
use Rattle.printed_run.proofs.Histories.{events_named, sound, starts_named}

module _ (m : SetupView) (X : Store) (names : NameBook) (H : List Event) (over : IsHistoryOver m X names H) (by : IsNamedBy X names)
    (starts_in_range : All RowInRange X.rows) (starts_ascend : IsAscending X.rows) (events_in_range : All EventInRange (reverse H)) where
  is_sound : IsSound X.setup
  is_sound = subst (λ (Y : Store). IsSound Y.setup) (sym over.store) (sound m over.whole)

  lawful : Lawful X.setup H
  lawful = subst (Lawful X.setup) (sym over.reached.1) (run_good X (tree_facts X.setup is_sound) is_sound.profiles over.reached.0 [] (empty_good X.setup)).legal

  can : CanPrint names X.rows H
  can = record {
    names_are = by.are;
    names_differ = by.differ;
    starts_fit = starts_fit names X.rows (starts_named m X names H over) starts_in_range;
    events_fit = events_fit names X.setup H lawful (events_named m X names H over) events_in_range;
  }

  law : (order : List Txn) (rows : List (Cell × ℤ)) → Reports X H order rows → IsAudited (printed_run names X.rows H order rows)
  law order rows reports =
      let past : List Event = history_after X [] over.reached.0 in
      let same : H ≡ past = over.reached.1 in
      subst (λ (G : List Event). IsAudited (printed_run names X.rows G order rows)) (sym same)
      (printed_runs_are_audited X is_sound over.reached.0 names order rows starts_ascend (subst (CanPrint names X.rows) same can) (subst (λ (G : List Event). Reports X G order rows) same reports))

  pub is_audited : (text : List ℕ) → IsPrintedRun X names H text → IsAudited text
  is_audited text report =
      let reports : Reports X H report.order report.rows = record { order_is = report.ordered; ascending = report.final.ascending; final = report.final.each } in
      let whole : text ≡ printed_run names X.rows H report.order report.rows =
      report.joined ∙ append_assoc (starts_text names X.rows) (flat_map (event_text names) (reverse H)) (report_text names report.order report.rows) in
      subst IsAudited (sym whole) (law report.order report.rows reports)
