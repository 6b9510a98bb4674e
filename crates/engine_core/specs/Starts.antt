-- What facts tell before the first event.
use Rattle.std.specs.Prelude.{◌≡◌, ◌≤◌, [], length}
use Rattle.teb_rules.specs.Setup.{above_profiles}
use Rattle.phase_api.specs.declared.facts.Facts.{Facts}
use Rattle.phase_api.specs.FactsView.{setup_of, events_of}

-- each type has a profile, at most 64 tables have a rank, and nothing has happened
pub record IsAtStart (f : Facts) : Type 0 where
  pub profiled : (setup_of f).types ≤ length (setup_of f).profiles
  pub few : above_profiles (setup_of f).profiles ≤ 64
  pub empty : events_of f ≡ []
