-- A transaction that asks to access a cell.
use Rattle.std.specs.Prelude.{ℕ, List, IsTrue, IsFalse}
use Rattle.teb_rules.specs.declared.names.Cell.{Cell}
use Rattle.teb_rules.specs.declared.history.Event.{Event}
use Rattle.teb_rules.specs.history.Phases.{unfinished, prepared}
use Rattle.teb_rules.specs.Setup.{Setup}
use Rattle.phase_api.specs.Calls.{HasStep}

-- t is unfinished and not prepared, and its profile has, from its cursor on, a step for x
pub record IsAsking (S : Setup) (H : List Event) (t : ℕ) (x : Cell) : Type 0 where
  pub unfinished : IsTrue (unfinished H t)
  pub unprepared : IsFalse (prepared H t)
  pub step : HasStep S H t x
