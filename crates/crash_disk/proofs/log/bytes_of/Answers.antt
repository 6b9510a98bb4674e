use Rattle.std.proofs.Common.{◌≡◌, ◌-◌, List, [], ℕ, length, take, drop, Some, slice_get, sym, ◌∙◌, ap, subst, arith, length-drop}
use Rattle.std.proofs.lemmas.List.{take_all}
use Rattle.crash_disk.specs.declared.call.Call.{Call}
use Rattle.crash_disk.specs.Log.{steps, step_of, total}
use Rattle.crash_disk.proofs.Places.{total_back, starts_at, sync_at, wrote_at}
use Rattle.crash_disk.proofs.log.bytes_of.Goals as goal

pub start_of-requires : goal.start_of-requires
start_of-requires c =
    let cs = c.args.calls.now in
    let p = c.args.place in
    omega (arith, ap total (take_all (length cs - p) (drop p cs) (omega (arith, length-drop p cs))), total_back cs p, c.requires.counted)

pub split_at-requires-in-Write : goal.split_at-requires-in-Write
split_at-requires-in-Write c =
    let cs = c.args.calls.now in
    let p = c.args.place in
    let rest = take_all (length cs - p) (drop p cs) (omega (arith, length-drop p cs)) in
    omega (
      arith,
      starts_at cs p c.in-Write.at c.in-Write.len (c.requires.is ∙ ap (λ (d : Call). Some d) c.in-Write.is),
      ap total rest,
      c.start_of.ensures,
      ap length c.split_at.ensures.back,
      length-drop c.start_of.result c.args.bytes.now,
    )

pub returns-in-Sync : goal.returns-in-Sync
returns-in-Sync c =
    subst (λ (d : Call). slice_get (steps c.args.calls.now c.args.bytes.now) c.args.place ≡ Some (step_of d [])) (sym c.in-Sync.is)
    (sync_at c.args.calls.now c.args.bytes.now c.args.place (c.requires.is ∙ ap (λ (d : Call). Some d) c.in-Sync.is))

pub returns-in-Write : goal.returns-in-Write
returns-in-Write c =
    let cs = c.args.calls.now in
    let p = c.args.place in
    let bytes = c.args.bytes.now in
    let piece = c.split_at-in-Write.result.0.now in
    let rest = take_all (length cs - p) (drop p cs) (omega (arith, length-drop p cs)) in
    subst (λ (d : Call). slice_get (steps cs bytes) p ≡ Some (step_of d piece)) (sym c.in-Write.is)
    (wrote_at cs bytes p c.in-Write.at c.in-Write.len c.start_of.result piece c.requires.counted (c.requires.is ∙ ap (λ (d : Call). Some d) c.in-Write.is)
    (omega (arith, ap total rest, c.start_of.ensures))
    (c.split_at-in-Write.ensures.front ∙ ap (λ (l : List ℕ). take c.in-Write.len l) c.split_at.ensures.back))
