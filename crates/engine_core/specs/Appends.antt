-- What has to hold for an event to be appended, and to be noted in the cursors.
use Rattle.std.specs.Prelude.{◌≡◌, ◌<◌, ◌≤◌, ℕ, List, ◌∷◌, length, drop}
use Rattle.teb_rules.specs.declared.names.Cell.{Cell}
use Rattle.teb_rules.specs.declared.history.Event.{Event}
use Rattle.teb_rules.specs.Setup.{Setup}
use Rattle.teb_rules.specs.laws.Lawful.{Granted, Lawful}
use Rattle.version_chain.specs.Lists.{Version}
use Rattle.candidate_reads.specs.declared.placing.Place.{Place}
use Rattle.phase_api.specs.declared.facts.Facts.{Facts}
use Rattle.phase_api.specs.FactsView.{setup_of, IsTyped}
use Rattle.cursor_book.specs.Cursors.{CursorsOf, Kept}
use Rattle.store_setup.specs.Stores.{store_of}
use Rattle.engine_core.specs.declared.engine_state.EngineState.{EngineState}
use Rattle.engine_core.specs.Decisions.{MayBegin}
use Rattle.engine_core.specs.Keeping.{HasPlace, PutsAt}

-- the rules grant the event, a Put has the place of its version, and there is room for it
pub record MayAppend {C : Type 0} {g : _} (lists : C → Cell → List Version) (c : EngineState C g) (e : Event) (p : Place) : Type 0 where
  pub granted : Granted (store_of c.setup).setup c.history.events e
  pub begins : MayBegin (store_of c.setup).setup c.history.events e
  pub place : HasPlace (lists c.chains) e p
  pub order : PutsAt (store_of c.setup).setup c.history.events (lists c.chains) e p
  pub some : 0 < c.room

-- the event is the newest of a lawful history; the cursors are those of the history before it, and have room for it
pub record AreBehind (S : Setup) (H : List Event) (e : Event) (c : Kept) : Type 0 where
  pub newest : H ≡ e ∷ drop 1 H
  pub lawful : Lawful S H
  pub profiled : length S.profiles ≡ S.types
  pub cursors : CursorsOf c.cursors S (drop 1 H)
  pub room : 0 < c.spare

-- t has begun, with a type that has a profile, and has a cursor
pub record HasCursor (f : Facts) (c : Kept) (t : ℕ) : Type 0 where
  pub typed : IsTyped f t
  pub profiled : length (setup_of f).profiles ≡ (setup_of f).types
  pub above : 0 < t
  pub begun : t ≤ length c.cursors
