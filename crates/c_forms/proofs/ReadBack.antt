-- Forms of replies and events, and what they are read back as.
use Rattle.std.proofs.Common.{◌≡◌, ◌==◌, ℤ, if◌then◌else◌, Option, Some, None, refl, sym, ap, ◌∙◌}
use Rattle.teb_rules.specs.declared.names.Cause.{Cause}
use Rattle.teb_rules.specs.declared.names.Cause.TheVariants as cause
use Rattle.teb_rules.specs.declared.names.Refusal.{Refusal}
use Rattle.teb_rules.specs.declared.names.Refusal.TheVariants as refusal
use Rattle.teb_rules.specs.declared.names.Reply.TheVariants as reply
use Rattle.teb_rules.specs.declared.history.Event.{Event}
use Rattle.teb_rules.specs.declared.history.Event.TheVariants as event
use Rattle.c_forms.specs.declared.events.EventForm.{EventForm}
use Rattle.c_forms.specs.Causes.{cause_form, cause_in}
use Rattle.c_forms.specs.Replies.{reply_in, refusal_number, refusal_in}
use Rattle.c_forms.specs.Events.{event_form}
use Rattle.c_forms.specs.Laws.{RepliesAreReadBack, RepliesDiffer, EventsDiffer}

pub cause_back : (c : Cause) → cause_in (cause_form c) ≡ Some c
cause_back (cause.Late n r x) = refl
cause_back (cause.First n w x) = refl
cause_back (cause.Pivot n a b c d) = refl
cause_back (cause.Newer n u) = refl
cause_back (cause.After u) = refl
cause_back cause.Asked = refl
cause_back cause.Ended = refl

pub refusal_back : (r : Refusal) → refusal_in (refusal_number r) ≡ Some r
refusal_back refusal.BadSession = refl
refusal_back refusal.InTxn = refl
refusal_back refusal.UnknownType = refl
refusal_back refusal.Full = refl
refusal_back refusal.NoTxn = refl
refusal_back refusal.UnknownTable = refl
refusal_back refusal.Prepared = refl
refusal_back refusal.NotInProfile = refl
refusal_back refusal.Range = refl
refusal_back refusal.NotRead = refl
refusal_back refusal.Overflow = refl

abbrev mapped : {A B : Type 0} → (A → B) → Option A → Option B
mapped f None = None
mapped f (Some x) = Some (f x)

pub reply_back : RepliesAreReadBack
reply_back (reply.Begun t) = refl
reply_back (reply.Value v) = refl
reply_back (reply.Values vs) = refl
reply_back reply.Done = refl
reply_back reply.Prepared = refl
reply_back reply.Committed = refl
reply_back (reply.Again u n) = refl
reply_back (reply.Aborted c) = ap (mapped reply.Aborted) (cause_back c)
reply_back (reply.Refused r) = ap (mapped reply.Refused) (refusal_back r)

abbrev given : {A : Type 0} → A → Option A → A
given a None = a
given a (Some b) = b

pub replies_differ : RepliesDiffer
replies_differ a b same = ap (given a) (sym (reply_back a) ∙ ap reply_in same ∙ reply_back b)

abbrev value_in : EventForm → Option ℤ
value_in f = if f.present then Some f.value else None

abbrev event_in : EventForm → Option Event
event_in f =
    if f.happened == 1 then Some (event.Began (record { 0 = f.txn }) (record { 0 = f.session }) (record { 0 = f.kind }) f.instance) else
    if f.happened == 2 then Some (event.Got (record { 0 = f.txn }) (record { table = record { 0 = f.table }; key = f.key }) (record { 0 = f.from }) (value_in f)) else
    if f.happened == 3 then Some (event.Put (record { 0 = f.txn }) (record { table = record { 0 = f.table }; key = f.key }) (value_in f)) else
    if f.happened == 4 then Some (event.Ready (record { 0 = f.txn })) else
    if f.happened == 5 then Some (event.Done (record { 0 = f.txn })) else
    if f.happened == 6 then mapped (event.Gone (record { 0 = f.txn })) (cause_in f.cause) else
    if f.happened == 7 then Some (event.Told (record { 0 = f.txn })) else
    None

event_back : (e : Event) → event_in (event_form e) ≡ Some e
event_back (event.Began t s k i) = refl
event_back (event.Got t x u None) = refl
event_back (event.Got t x u (Some v)) = refl
event_back (event.Put t x None) = refl
event_back (event.Put t x (Some v)) = refl
event_back (event.Ready t) = refl
event_back (event.Done t) = refl
event_back (event.Gone t c) = ap (mapped (event.Gone t)) (cause_back c)
event_back (event.Told t) = refl

pub events_differ : EventsDiffer
events_differ a b same = ap (given a) (sym (event_back a) ∙ ap event_in same ∙ event_back b)
