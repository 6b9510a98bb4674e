-- The form of an event that is there.
use Rattle.std.specs.Prelude.{◌≡◌, Option, Some, None}
use Rattle.teb_rules.specs.declared.history.Event.{Event}
use Rattle.c_forms.specs.declared.events.EventForm.{EventForm}
use Rattle.c_forms.specs.Events.{event_form}

abbrev pub IsEvent : Option Event → EventForm → Type 0
IsEvent None told = ⊥
IsEvent (Some e) told = told ≡ event_form e
