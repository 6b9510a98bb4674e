-- The outcome of a request, and of the epoch before it.
use Rattle.std.proofs.Common.{◌≡◌, ℕ, List, Result, Ok, Err, inl, inr, ap, ◌∙◌}
use Rattle.std.specs.Prelude.{◌⊎◌, IfOk}
use Rattle.teb_rules.specs.declared.names.Session.{Session}
use Rattle.teb_rules.specs.declared.names.Request.{Request}
use Rattle.teb_rules.specs.declared.names.naming.NameBook.{NameBook}
use Rattle.shell_lines.specs.Answers.{reply_line}
use Rattle.shell_lines.specs.declared.reply.StoreReply.TheVariants.{Later}
use Rattle.teb_rules.specs.declared.history.Event.{Event}
use Rattle.shell_runner.specs.States.{IsEpochRefused, IsHindered}
use Rattle.teb_rules.specs.Epochs.{IsDrained}
use Rattle.shell_runner.specs.declared.store.EpochError.{EpochError}
use Rattle.shell_runner.specs.declared.store.EpochError.TheVariants as errors
use Rattle.shell_runner.specs.Answers.{BeginsAtEnd, IsAsked, IsNextEpoch, ShowsReply, State}
use Rattle.shell_runner.specs.declared.step.After.{After}
use Rattle.shell_runner.specs.declared.step.After.TheVariants.{Next}

-- the error names an unfinished transaction or a session that was not told of an abort
abbrev pub IsSomebodys : EpochError → Type 0
IsSomebodys (errors.Unfinished t) = Unit {0}
IsSomebodys (errors.Untold s) = Unit {0}
IsSomebodys _ = ⊥

pub hinders : (H : List Event) (w : EpochError) → IsEpochRefused H w → IsSomebodys w → IsHindered H
hinders H (errors.Unfinished t) h is = inl (t, h)
hinders H (errors.Untold s) h is = inr (s, h)
hinders H errors.Full h is = absurd is
hinders H errors.DiskFault h is = absurd is
hinders H errors.OutOfMemory h is = absurd is

module _ {E : Type 0} (s : State) (session : Session) (request : Request) (text : List ℕ) where
  pub asked_now : (t : State) (r : Result After E) → (BeginsAtEnd s.stored session request → ⊥) → IfOk r (λ (a : After). ShowsReply s session request text a t)
      → IfOk r (λ (a : After). IsAsked s session request text a t)
  asked_now t (Ok a) goes h = inl (record { goes_on = goes; replied = h })
  asked_now t (Err e) goes h = tt

  pub asked_after : (mid t : State) (r : Result After E) → BeginsAtEnd s.stored session request → IsDrained s.stored.events → IsNextEpoch s mid ⊎ (mid ≡ s)
      → IfOk r (λ (a : After). ShowsReply mid session request text a t)
      → IfOk r (λ (a : After). IsAsked s session request text a t)
  asked_after mid t (Ok a) begins drained begun h = inr (inr (inl (record { at_end = begins; drained = drained; mid = mid; begun = begun; replied = h })))
  asked_after mid t (Err e) begins drained begun h = tt

  pub told_later : (t : State) (names : NameBook) (r : Result After E) → BeginsAtEnd s.stored session request → IsHindered s.stored.events → t ≡ s → names ≡ s.stored.names
      → IfOk r (λ (a : After). (a ≡ Next) × (text ≡ reply_line names session Later)) → IfOk r (λ (a : After). IsAsked s session request text a t)
  told_later t names (Ok a) begins hindered same called h = inr
      (inl (record { at_end = begins; hindered = hindered; same = same; shown = h.1 ∙ ap (λ (n : NameBook). reply_line n session Later) called; goes_on = h.0 }))
  told_later t names (Err e) begins hindered same called h = tt
