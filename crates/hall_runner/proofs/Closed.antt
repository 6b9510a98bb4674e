-- A hall that was closed: its engine's history is a run over the setup's store, and what is printed of it is shown.
use Rattle.std.proofs.Common.{◌≡◌, ◌≢◌, ℕ, List, [], length, Some, slice_get, refl, sym, ◌∙◌, ap, subst}
use Rattle.teb_rules.specs.declared.names.Entry.{Entry}
use Rattle.teb_rules.specs.declared.names.Session.{Session}
use Rattle.teb_rules.specs.declared.names.naming.NameBook.{NameBook}
use Rattle.teb_rules.specs.declared.history.Event.{Event}
use Rattle.teb_rules.specs.Setup.{Store}
use Rattle.teb_rules.specs.Ranks.{serial_order}
use Rattle.teb_rules.specs.Serializes.{Serializes}
use Rattle.teb_rules.specs.Run.{IsLegal, history_of, requests_of}
use Rattle.teb_rules.specs.Scripts.{IsWalk, entries_of}
use Rattle.script_text.specs.declared.Line.{Line}
use Rattle.script_walk.specs.ScriptStates.{requests_on}
use Rattle.script_runner.specs.replay.Logs.{log_of}
use Rattle.audit_check.specs.Audit.{IsAudited}
use Rattle.command_output.specs.Shown.{Shown}
use Rattle.store_setup.specs.Stores.{store_of_view}
use Rattle.printed_run.specs.Printed.{IsNamedBy, IsPrintedRun}
use Rattle.script_runner.specs.Runs.{IsRunOver}
use Rattle.script_runner.proofs.Runs.{is_serialized}
use Rattle.hall_runner.specs.Served.{AreServed}
use Rattle.hall_runner.specs.Outcomes.{AreSetUp, IsSerializedOver}

abbrev IsPrinted : Store → NameBook → List Event → Shown → Type 0
IsPrinted X names H o = (o.status ≡ 0) × (o.history ≡ Some H) × IsPrintedRun X names H o.text

-- everything in a setup has a name
named_by : (X : Store) (names : NameBook) → AreSetUp X names → IsNamedBy X names
named_by X names s = record {
  nodes = ap (λ (Y : Store). length Y.setup.tree) s.store ∙ s.nodes ∙ sym (ap (λ (b : NameBook). length b.nodes) s.named);
  are = rw s.named (record { tables = s.has_names.tables; types = s.has_names.types; nodes = s.has_names.nodes });
  differ = rw s.named s.has_names.tables_differ;
}

-- an engine over the store Y, with the names and the history of a hall over X that was closed
module _ (X Y : Store) (names book : NameBook) (setup : AreSetUp X names) (entries : List Entry) (H : List Event) (store : Y ≡ X) (named : book ≡ names) (history : H ≡ history_of Y entries) where
  over : IsRunOver setup.setup Y book (log_of Y [] (requests_of entries)) H
  over = record {
    whole = setup.whole;
    nodes = setup.nodes;
    store = store ∙ setup.store;
    named = named ∙ setup.named;
    asked = requests_of entries;
    replies = refl;
    events = history;
  }

  pub all_named : IsNamedBy Y book
  all_named = rw (store, named) (named_by X names setup)

  pub serialized_over : (o : Shown) → o.history ≡ Some H → IsSerializedOver X o.history
  serialized_over o kept =
      let there = is_serialized setup.setup Y book (log_of Y [] (requests_of entries)) H (Some H) over refl in
      let back : there.0 ≡ setup.setup = sym there.1 in
      let here : Serializes X H (serial_order X.setup H) = subst (λ (Z : Store). Serializes Z H (serial_order Z.setup H)) (ap store_of_view back ∙ sym setup.store) there.2 in
      rw kept here

  pub are_served : (scripts : List (Session × List Line)) (o : Shown) → IsLegal Y entries
      → ((i : ℕ) (s : Session) (lines : List Line) → slice_get scripts i ≡ Some (s, lines) → IsWalk (requests_on lines) (entries_of s.0 entries))
      → ((s : Session) → ((i : ℕ) (lines : List Line) → slice_get scripts i ≢ Some (s, lines)) → entries_of s.0 entries ≡ [])
      → IsPrinted Y book H o → IsAudited o.text → AreServed X names scripts entries o
  are_served scripts o legal walks others printed audited =
      let same : H ≡ history_of X entries = history ∙ ap (λ (Z : Store). history_of Z entries) store in
      let all : IsPrinted X names (history_of X entries) o =
      subst (λ (Z : Store). IsPrinted Z names (history_of X entries) o) store
      (subst (λ (b : NameBook). IsPrinted Y b (history_of X entries) o) named (subst (λ (G : List Event). IsPrinted Y book G o) same printed)) in
      record {
        legal = subst (λ (Z : Store). IsLegal Z entries) store legal;
        walks = walks;
        others = others;
        status = all.0;
        kept = all.1;
        text = all.2;
        audited = audited;
      }
