-- That a form loses nothing.
use Rattle.std.specs.Prelude.{◌≡◌, Some}
use Rattle.teb_rules.specs.declared.names.Reply.{Reply}
use Rattle.teb_rules.specs.declared.history.Event.{Event}
use Rattle.c_forms.specs.Replies.{reply_form, reply_in}
use Rattle.c_forms.specs.Events.{event_form}

abbrev pub RepliesAreReadBack : Type 0
RepliesAreReadBack = (r : Reply) → reply_in (reply_form r) ≡ Some r

abbrev pub RepliesDiffer : Type 0
RepliesDiffer = (a b : Reply) → reply_form a ≡ reply_form b → a ≡ b

abbrev pub EventsDiffer : Type 0
EventsDiffer = (a b : Event) → event_form a ≡ event_form b → a ≡ b
