-- Refusals of memory in calls that follow one another.
use Rattle.std.proofs.Common.{◌≡◌, inl, ℕ, ◌+◌, Result, Ok, Err, ap, ◌∙◌, arith}
use Rattle.std.specs.Result.{IsErrAnd}
use Rattle.crash_disk.specs.Calls.{Promise, Tally, Counts, IsCounted}
use Rattle.epoch_journal.specs.Refusals.{IsReliable, CountsRefusals}

-- what a call counts
pub counted : {T E : Type 0} (tells : Type 0) (calls : Tally) (faults faults' refusals refusals' : ℕ) (result : Result T E) → IsCounted tells calls faults faults' refusals refusals' result
    → Counts tells calls faults faults' refusals refusals' result
unfolding IsCounted
counted tells calls faults faults' refusals refusals' result is = is

module _ {D : Type 0} (tells_failures : D → Type 0) (tally : D → Tally) (refusals : D → ℕ) where
  pub still_reliable : (old new : D) → (tally new).promise ≡ (tally old).promise → refusals new ≡ refusals old → IsReliable tells_failures tally refusals old
      → IsReliable tells_failures tally refusals new
  still_reliable old new promise same reliable = record {
    tells = reliable.tells;
    no_stop = ap (λ (p : Promise). p.stop) promise ∙ reliable.no_stop;
    counts = omega (arith, same, reliable.counts);
  }

  -- one call
  pub call_refused : {T E : Type 0} (old new : D) (faults faults' : ℕ) (e : E) → Counts {T = T} {E = E} (tells_failures old) (tally old) faults faults' (refusals old) (refusals new) (Err e)
      → IsReliable tells_failures tally refusals old → refusals new ≡ refusals old + 1
  call_refused old new faults faults' e is reliable = omega (arith, is.refused (reliable.tells old) (inl reliable.no_stop), reliable.counts)

  -- a failure after calls that have succeeded
  pub refused_then : (old mid new : D) → refusals mid ≡ refusals old → (tally mid).promise ≡ (tally old).promise
      → (IsReliable tells_failures tally refusals mid → refusals new ≡ refusals mid + 1) → IsReliable tells_failures tally refusals old → refusals new ≡ refusals old + 1
  refused_then old mid new same promise refused reliable = omega (arith, same, refused (still_reliable old mid promise same reliable))

  -- the result of `?` at an error
  pub failed : {T E : Type 0} (old new : D) (r : Result T E) (P : E → Type 0) → IsErrAnd r P → (IsReliable tells_failures tally refusals old → refusals new ≡ refusals old + 1)
      → CountsRefusals tells_failures tally refusals old new r
  failed old new (Ok x) P was refused = absurd was
  failed old new (Err e) P was refused = record { granted = tt; refused = refused }
