-- Which form an event has.
use Rattle.std.specs.Prelude.{ℕ, ℤ, false, Option, is_some, unwrap_or, pos}
use Rattle.teb_rules.specs.declared.names.Cell.{Cell}
use Rattle.teb_rules.specs.declared.history.Event.{Event}
use Rattle.teb_rules.specs.declared.history.Event.TheVariants as event
use Rattle.c_forms.specs.declared.events.EventForm.{EventForm}
use Rattle.c_forms.specs.Causes.{no_cause, cause_form}

-- a form of what happened to a transaction, with nothing else
abbrev pub no_event : ℕ → ℕ → EventForm
no_event k t = record { happened = k; session = 0; kind = 0; table = 0; present = false; txn = t; instance = 0; key = 0; from = 0; value = pos 0; cause = no_cause }

-- what happened to a row, with its value
abbrev pub row_event : ℕ → ℕ → Cell → Option ℤ → EventForm
row_event k t x v = record (no_event k t) { table = x.table.0; key = x.key; present = is_some v; value = unwrap_or v (pos 0) }

abbrev pub event_form : Event → EventForm
event_form (event.Began t s k i) = record (no_event 1 t.0) { session = s.0; kind = k.0; instance = i }
event_form (event.Got t x u v) = record (row_event 2 t.0 x v) { from = u.0 }
event_form (event.Put t x v) = row_event 3 t.0 x v
event_form (event.Ready t) = no_event 4 t.0
event_form (event.Done t) = no_event 5 t.0
event_form (event.Gone t c) = record (no_event 6 t.0) { cause = cause_form c }
event_form (event.Told t) = no_event 7 t.0
