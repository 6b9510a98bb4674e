-- How the next epoch starts.
use Rattle.std.proofs.Common.{◌≡◌, ◌<◌, [], length, sym, ◌∙◌, ap, subst, ℤ}
use Rattle.std.specs.List.{All}
use Rattle.std.proofs.lemmas.List.Elements.{All-nil}
use Rattle.teb_rules.specs.declared.names.Cell.{Cell}
use Rattle.teb_rules.specs.declared.names.naming.NameBook.{NameBook}
use Rattle.teb_rules.specs.names.Rows.{row_of}
use Rattle.teb_rules.specs.Accepted.{IsSound}
use Rattle.teb_rules.specs.laws.Lawful.{Lawful}
use Rattle.teb_rules.proofs.lemmas.laws.Sound.{tree_facts}
use Rattle.record_journal.specs.Journal.{after_records}
use Rattle.commit_laws.specs.Records.{records_of}
use Rattle.commit_laws.proofs.Laws.{records_final}
use Rattle.store_setup.specs.declared.Setup.{Setup}
use Rattle.store_setup.specs.SetupView.{setup_view}
use Rattle.store_setup.specs.Sound.{IsWhole}
use Rattle.engine_core.specs.EngineModel.{EngineModel}
use Rattle.tree_switch.specs.Starts.{IsStarted}
use Rattle.tree_switch.proofs.Starting.{whole_with}

-- a whole setup stays whole without its rows, and an engine that starts under it starts under the setup with its rows
pub whole_without : (s t : Setup) → IsWhole (setup_view s) → t.names ≡ s.names → t.profiles.items ≡ s.profiles.items → t.tree ≡ s.tree → t.rows ≡ [] → IsWhole (setup_view t)
whole_without s t w names profiles tree none =
    whole_with s t w names profiles tree
    (subst (All (λ (r : Cell × ℤ). r.0.table.0 < length s.names.tables)) (sym none) (All-nil (λ (r : Cell × ℤ). r.0.table.0 < length s.names.tables)))

pub started_with : (s t : Setup) (before e : EngineModel) → t.names ≡ s.names → t.profiles.items ≡ s.profiles.items → t.tree ≡ s.tree → IsStarted t before e → IsStarted s before e
started_with s t before e names profiles tree i = record {
  events = i.events;
  ready = i.ready;
  names = i.names ∙ names;
  setup = i.setup ∙ (λ j. record { types = (tree j).types; profiles = profiles j; tree = (tree j).rows });
  tables = i.tables ∙ ap (λ (b : NameBook). length b.tables) names;
  rows = i.rows;
}

-- its rows are those that the records of the previous epoch leave
pub starts_with_records : (s : Setup) (before e : EngineModel) → IsSound before.store.setup → Lawful before.store.setup before.events → IsStarted s before e
    → (x : Cell) → row_of e.store.rows x ≡ after_records (records_of before.store.setup before.events) (row_of before.store.rows) x
starts_with_records s before e sound lawful i x = i.rows.each x ∙ sym (records_final before.store (tree_facts before.store.setup sound) before.events lawful x)

-- and it has no record
pub starts_with_none : (e : EngineModel) → e.events ≡ [] → records_of e.store.setup e.events ≡ []
unfolding records_of
starts_with_none e none = ap (records_of e.store.setup) none
