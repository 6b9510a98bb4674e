use Rattle.std.proofs.Common.{◌≡◌, ◌∙◌, refl, sym, subst}
use Rattle.shared_store.specs.Ending.{AddsNoCalls}
use Rattle.shared_store.specs.Lives.{taken_of}
use Rattle.shared_store.proofs.Adding.{no_calls, no_calls_on}
use Rattle.shared_store.proofs.hosted.Hosted.end_all.Goals.{then-holds+in_ok-end_at_close, else-holds}
use Rattle.shared_store.proofs.hosted.Hosted.end_all.Goals as goal

pub loop-i-init : goal.loop-i-init
loop-i-init g c = (no_calls c.args.self.now.entries.items, refl, refl)

pub loop-i-preserved : goal.loop-i-preserved
loop-i-preserved g c =
    let old = c.args.self.now in
    let i = c.loop-i.invariant in
    elim c.if-holds.branch [
      | then-holds+in_ok-end_at_close w ↦ (let e = w.end_at_close.ensures in
          subst (λ x. AddsNoCalls old.entries.items x.entries.items × (taken_of x.entries.items ≡ taken_of old.entries.items) × (x.first ≡ old.first)) (sym w.self-is)
          (no_calls_on old.entries.items c.loop-i.self.entries.items w.end_at_close.new.self.entries.items i.0 e.more, e.taken ∙ i.1, e.first ∙ i.2))
      | else-holds w ↦
          subst (λ x. AddsNoCalls old.entries.items x.entries.items × (taken_of x.entries.items ≡ taken_of old.entries.items) × (x.first ≡ old.first)) (sym w.self-is) i
    ]

pub returns-in_err-end_at_close-clause-more : goal.returns-in_err-end_at_close-clause-more
returns-in_err-end_at_close-clause-more g c =
    no_calls_on c.args.self.now.entries.items c.loop-i.self.entries.items c.end_at_close.new.self.entries.items c.loop-i.invariant.0 c.end_at_close.ensures.more

pub returns-in_err-end_at_close-clause-taken : goal.returns-in_err-end_at_close-clause-taken
returns-in_err-end_at_close-clause-taken g c = c.end_at_close.ensures.taken ∙ c.loop-i.invariant.1

pub returns-in_err-end_at_close-clause-first : goal.returns-in_err-end_at_close-clause-first
returns-in_err-end_at_close-clause-first g c = c.end_at_close.ensures.first ∙ c.loop-i.invariant.2
