-- Events that change no version.
use Rattle.teb_rules.specs.declared.history.Event.{Event}
use Rattle.teb_rules.specs.declared.history.Event.TheVariants.{Put, Gone}

-- the event adds no version, and removes none
abbrev pub LeavesVersions : Event → Type 0
LeavesVersions (Put t x v) = ⊥
LeavesVersions (Gone t c) = ⊥
LeavesVersions _ = Unit {0}
