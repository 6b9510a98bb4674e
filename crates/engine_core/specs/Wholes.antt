-- What holds of all that an engine keeps together.
use Rattle.std.specs.Prelude.{◌≡◌, ◌≤◌, ℕ, List, length, slice_get, Some}
use Rattle.teb_rules.specs.declared.names.TheConstants.{MOST_TXNS}
use Rattle.teb_rules.specs.declared.names.Cell.{Cell}
use Rattle.teb_rules.specs.declared.names.Txn.{Txn}
use Rattle.teb_rules.specs.declared.history.Event.{Event}
use Rattle.teb_rules.specs.history.Phases.{begun_count}
use Rattle.teb_rules.specs.Setup.{Store}
use Rattle.teb_rules.specs.Accepted.{IsSound}
use Rattle.teb_rules.specs.laws.Lawful.{Lawful}
use Rattle.version_chain.specs.Lists.{Version}
use Rattle.phase_api.specs.Standing.{StandAll}
use Rattle.phase_api.specs.Versions.{HoldsVersions}
use Rattle.dependency_book.specs.Books.{Lists, BookOf}
use Rattle.cursor_book.specs.Cursors.{CursorsOf}
use Rattle.engine_core.specs.Latest.{AreLatest}
use Rattle.engine_core.specs.declared.any_control.AnyControl.{AnyControl}
use Rattle.engine_core.specs.AnyControls.{any_node_number, any_stands, any_spare}

-- a sound store, with a profile for each type, and a lawful history; controls, chains, book, cursors and what each session began last stand
-- for it
pub record IsWhole (X : Store) (H : List Event) (cs : List AnyControl) (L : Cell → List Version) (b : Lists) (steps : List ℕ) (last : List Txn) : Type 0 where
  pub sound : IsSound X.setup
  pub profiled : length X.setup.profiles ≡ X.setup.types
  pub nodes : length X.setup.tree ≤ 64
  pub lawful : Lawful X.setup H
  pub few : begun_count H ≤ MOST_TXNS
  pub controls : StandAll any_node_number any_stands cs X.setup H
  pub versions : HoldsVersions X.setup H L
  pub book : BookOf b H
  pub cursors : CursorsOf steps X.setup H
  pub latest : AreLatest last H

-- each control has room for k events
pub record RoomFor {K : Type 0} (spare : K → ℕ) (k : ℕ) (cs : List K) : Type 0 where
  pub each : (n : ℕ) (c : K) → slice_get cs n ≡ Some c → k ≤ spare c

-- there is room for k more events, whatever they are, in a history, controls, a book, chains and cursors that have these rooms
pub record HaveRoom (k events : ℕ) (cs : List AnyControl) (notes places steps : ℕ) : Type 0 where
  pub history : k ≤ events
  pub controls : RoomFor any_spare k cs
  pub book : k ≤ notes
  pub versions : k ≤ places
  pub cursors : k ≤ steps
