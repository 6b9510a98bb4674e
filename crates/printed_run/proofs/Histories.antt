-- Histories over the store of a whole setup: everything that they and their final rows name has a name.
use Rattle.std.proofs.Common.{◌≡◌, ℕ, List, [], length, reverse, sym, subst, subst₂, ℤ}
use Rattle.std.specs.Prelude.{All}
use Rattle.teb_rules.specs.declared.names.Cell.{Cell}
use Rattle.teb_rules.specs.declared.names.Session.{Session}
use Rattle.teb_rules.specs.declared.names.Request.{Request}
use Rattle.teb_rules.specs.declared.names.naming.NameBook.{NameBook}
use Rattle.teb_rules.specs.declared.history.Event.{Event}
use Rattle.teb_rules.specs.Setup.{Store, Setup}
use Rattle.teb_rules.specs.Accepted.{IsSound}
use Rattle.teb_rules.specs.Run.{history_after}
use Rattle.teb_rules.proofs.lemmas.laws.Within.{stays_within}
use Rattle.teb_rules.specs.Epochs.{AreFinalRows}
use Rattle.serial_order.proofs.Within.{row_within, rows_within}
use Rattle.script_text.specs.Named.{CellNamed, EventNamed}
use Rattle.store_setup.specs.SetupView.{SetupView}
use Rattle.store_setup.specs.Sound.{IsWhole, IsNamed}
use Rattle.store_setup.specs.Stores.{store_of_view, names_of}
use Rattle.printed_run.specs.Histories.{IsHistoryOver}
use Rattle.printed_run.proofs.Names.{all_named}

pub sound : (m : SetupView) → IsWhole m → IsSound (store_of_view m).setup
sound m whole = subst (λ (types : ℕ). let S : Setup = record { types = types; profiles = m.profiles; tree = m.tree.rows } in IsSound S) (sym whole.types) whole.sound

module _ (m : SetupView) (whole : IsWhole m) (named : IsNamed m) (asked : List (Session × Request)) where
  final_rows : (rows : List (Cell × ℤ)) → AreFinalRows (store_of_view m) (history_after (store_of_view m) [] asked) rows → All (λ (r : Cell × ℤ). CellNamed (names_of m) r.0) rows
  final_rows rows f =
      rows_within (store_of_view m) (history_after (store_of_view m) [] asked) rows (λ x v. row_within (length m.tables) m.rows x v whole.cells)
      (stays_within (store_of_view m) (sound m whole) asked).events f

  events_are_named : All (EventNamed (names_of m)) (reverse (history_after (store_of_view m) [] asked))
  events_are_named = all_named m whole named _ (stays_within (store_of_view m) (sound m whole) asked).events

module _ (m : SetupView) (X : Store) (names : NameBook) (H : List Event) (over : IsHistoryOver m X names H) where
  abbrev asked : List (Session × Request)
  asked = over.reached.0

  -- it is a history of the setup's store
  pub history_is : H ≡ history_after (store_of_view m) [] asked
  history_is = subst (λ (Y : Store). H ≡ history_after Y [] asked) over.store over.reached.1

  pub rows_named : (rows : List (Cell × ℤ)) → AreFinalRows X H rows → All (λ (r : Cell × ℤ). CellNamed names r.0) rows
  rows_named rows f =
      let g = subst (λ (Y : Store). AreFinalRows Y (history_after Y [] asked) rows) over.store (subst (λ (G : List Event). AreFinalRows X G rows) over.reached.1 f) in
      subst (λ (k : NameBook). All (λ (r : Cell × ℤ). CellNamed k r.0) rows) (sym over.named) (final_rows m over.whole over.nodes asked rows g)

  pub events_named : All (EventNamed names) (reverse H)
  events_named =
      subst₂ (λ (k : NameBook) (G : List Event). All (EventNamed k) (reverse G)) (sym over.named) (sym history_is) (events_are_named m over.whole over.nodes asked)

  pub starts_named : All (λ (r : Cell × ℤ). CellNamed names r.0) X.rows
  starts_named = rw (over.store, over.named) over.whole.cells
