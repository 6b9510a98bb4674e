use Rattle.std.proofs.Common.{◌≡◌, Result, Ok, Err, ℕ, ap, subst}
use Rattle.crash_disk.specs.Log.{contents, MayLeave}
use Rattle.file_disk.specs.declared.disk.FileDisk.{FileDisk}
use Rattle.store_server.specs.Found.{IsFound}
use Rattle.store_server.specs.Refused.{IsFileRefused}
use Rattle.store_server.specs.declared.error.OpenStoreError.{OpenStoreError}
use Rattle.store_server.specs.declared.error.OpenFileError.{OpenFileError}
use Rattle.store_server.specs.declared.error.OpenFileError.TheVariants as errors
use Rattle.store_server.proofs.file_store.open_file.Goals as goal

pub returns-in-Ok-new-clause-opened : goal.returns-in-Ok-new-clause-opened
returns-in-Ok-new-clause-opened g c =
    let opened = c.in-Ok in
    let halves = c.in-Ok-open in
    record {
      disk = opened.disk;
      safe = opened.ensures.safe;
      engine = halves.halves.0.queue.engine;
      found = subst (λ (n : ℕ). IsFound (λ (d : FileDisk). contents d.mirror.log.steps) (λ (d : FileDisk). MayLeave d.mirror.log.steps) n c.args.tree.items opened.disk halves.halves.0.queue.engine)
          opened.ensures.capacity halves.ensures.found;
      begins = c.in-Ok-new.ensures.base;
    }

-- why a file is not served; another result has this reason for it
abbrev why_in : {T : Type 0} → OpenStoreError → Result T OpenFileError → OpenStoreError
why_in w (Ok x) = w
why_in w (Err (errors.Store v)) = v
why_in w (Err errors.BadCapacity) = w
why_in w (Err (errors.File v)) = w
why_in w (Err errors.OutOfMemory) = w

pub returns-in-Err-open-clause-not_opened : goal.returns-in-Err-open-clause-not_opened
returns-in-Err-open-clause-not_opened g c why is =
    let opened = c.in-Ok in
    let back = c.in-Err-open in
    let same : back.refused.why ≡ why = ap (why_in why) is in
    subst (λ (w : OpenStoreError). ∥ IsFileRefused c.args.capacity c.args.tree.items w ∥₁) same
    ∣ record { disk = opened.disk; back = back.refused.disk; safe = opened.ensures.safe; size = opened.ensures.capacity; refused = back.ensures.refused } ∣₁
