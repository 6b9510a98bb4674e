-- Which form a reply has, and which reply a form is.
use Rattle.std.specs.Prelude.{ℕ, ◌==◌, if◌then◌else◌, [], ◌∷◌, slice_get, Option, Some, None, option_map}
use Rattle.teb_rules.specs.declared.names.Refusal.{Refusal}
use Rattle.teb_rules.specs.declared.names.Refusal.TheVariants as refusal
use Rattle.teb_rules.specs.declared.names.Reply.{Reply}
use Rattle.teb_rules.specs.declared.names.Reply.TheVariants as reply
use Rattle.c_forms.specs.declared.replies.ReplyForm.{ReplyForm}
use Rattle.c_forms.specs.Causes.{no_cause, cause_form, cause_in}

-- a form of this kind, with nothing else
abbrev pub blank : ℕ → ReplyForm
blank k = record { kind = k; refusal = 0; node = 0; txn = 0; cause = no_cause; values = [] }

abbrev pub refusal_number : Refusal → ℕ
refusal_number refusal.BadSession = 1
refusal_number refusal.InTxn = 2
refusal_number refusal.UnknownType = 3
refusal_number refusal.Full = 4
refusal_number refusal.NoTxn = 5
refusal_number refusal.UnknownTable = 6
refusal_number refusal.Prepared = 7
refusal_number refusal.NotInProfile = 8
refusal_number refusal.Range = 9
refusal_number refusal.NotRead = 10
refusal_number refusal.Overflow = 11

abbrev pub refusal_in : ℕ → Option Refusal
refusal_in n =
    if n == 1 then Some refusal.BadSession else
    if n == 2 then Some refusal.InTxn else
    if n == 3 then Some refusal.UnknownType else
    if n == 4 then Some refusal.Full else
    if n == 5 then Some refusal.NoTxn else
    if n == 6 then Some refusal.UnknownTable else
    if n == 7 then Some refusal.Prepared else
    if n == 8 then Some refusal.NotInProfile else
    if n == 9 then Some refusal.Range else
    if n == 10 then Some refusal.NotRead else
    if n == 11 then Some refusal.Overflow else
    None

abbrev pub reply_form : Reply → ReplyForm
reply_form (reply.Begun t) = record (blank 1) { txn = t.0 }
reply_form (reply.Value v) = record (blank 2) { values = v ∷ [] }
reply_form (reply.Values vs) = record (blank 3) { values = vs }
reply_form reply.Done = blank 4
reply_form reply.Prepared = blank 5
reply_form reply.Committed = blank 6
reply_form (reply.Again u n) = record (blank 7) { txn = u.0; node = n.0 }
reply_form (reply.Aborted c) = record (blank 8) { cause = cause_form c }
reply_form (reply.Refused r) = record (blank 9) { refusal = refusal_number r }

-- by the kind; fields that a kind does not have are not read
abbrev pub reply_in : ReplyForm → Option Reply
reply_in f =
    if f.kind == 1 then Some (reply.Begun (record { 0 = f.txn })) else
    if f.kind == 2 then option_map reply.Value (slice_get f.values 0) else
    if f.kind == 3 then Some (reply.Values f.values) else
    if f.kind == 4 then Some reply.Done else
    if f.kind == 5 then Some reply.Prepared else
    if f.kind == 6 then Some reply.Committed else
    if f.kind == 7 then Some (reply.Again (record { 0 = f.txn }) (record { 0 = f.node })) else
    if f.kind == 8 then option_map reply.Aborted (cause_in f.cause) else
    if f.kind == 9 then option_map reply.Refused (refusal_in f.refusal) else
    None
