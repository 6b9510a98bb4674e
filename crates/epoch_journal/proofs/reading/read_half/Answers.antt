use Rattle.std.proofs.Common.{rules, ◌≡◌, ◌+◌, ◌-◌, ◌*◌, ◌<◌, ◌≤◌, ◌∙◌, min, false, Err, refl, sym, ap, subst, arith, List, ℕ, length, take, drop}
use Rattle.crash_disk.proofs.Groups.{up_to_then}
use Rattle.record_journal.specs.Views.{record_lists}
use Rattle.record_journal.specs.Format.{reading, Whole, Damaged}
use Rattle.epoch_journal.specs.declared.error.OpenError.TheVariants as errors
use Rattle.epoch_journal.specs.Layout.{half_size, header, layout}
use Rattle.epoch_journal.proofs.Errors.{damaged_as, fault_as, no_label, no_capacity, not_full}
use Rattle.epoch_journal.proofs.Quiets.{quiet_then}
use Rattle.epoch_journal.proofs.Sizes.{length-header, small_half}
use Rattle.epoch_journal.proofs.Surveys.{inside, other_label, read_as, read_damaged}
use Rattle.epoch_journal.proofs.reading.read_half.Goals as goal

pub overflow_sub-len : goal.overflow_sub-len
overflow_sub-len g c =
    let d = g.D.Disk in
    let file = d.seen c.args.disk.now in
    let h = c.args.half in
    let l = layout c.args.capacity c.args.label.now in
    let cur = c.requires.current in
    let long : 13 < c.args.len = omega (arith, c.requires.len, cur.0) in
    let no : c.ends_before.result ≡ false = search rules in
    let lt = inside c.args.capacity h c.base-at.result c.args.len c.base-at.ensures.value long (c.ends_before.ensures.no no) in
    omega (arith, lt)

pub check_label-requires-clause-within : goal.check_label-requires-clause-within
check_label-requires-clause-within g c =
    let d = g.D.Disk in
    let file = d.seen c.args.disk.now in
    let h = c.args.half in
    let l = layout c.args.capacity c.args.label.now in
    let cur = c.requires.current in
    let long : 13 < c.args.len = omega (arith, c.requires.len, cur.0) in
    let no : c.ends_before.result ≡ false = search rules in
    let lt = inside c.args.capacity h c.base-at.result c.args.len c.base-at.ensures.value long (c.ends_before.ensures.no no) in
    let most_is : c.min-most.result ≡ min (c.args.len - c.base-at.result) c.half_bytes.result = search rules in
    omega (arith, lt, most_is, c.requires.len)

pub check_label-requires-clause-small : goal.check_label-requires-clause-small
check_label-requires-clause-small g c =
    let d = g.D.Disk in
    let file = d.seen c.args.disk.now in
    let h = c.args.half in
    let l = layout c.args.capacity c.args.label.now in
    let cur = c.requires.current in
    let long : 13 < c.args.len = omega (arith, c.requires.len, cur.0) in
    let no : c.ends_before.result ≡ false = search rules in
    let lt = inside c.args.capacity h c.base-at.result c.args.len c.base-at.ensures.value long (c.ends_before.ensures.no no) in
    let most_is : c.min-most.result ≡ min (c.args.len - c.base-at.result) c.half_bytes.result = search rules in
    omega (arith, most_is, c.base-at.ensures.small, c.half_bytes.ensures.few)

pub returns-in-Err-clause-other_label : goal.returns-in-Err-clause-other_label
returns-in-Err-clause-other_label g c is =
    let d = g.D.Disk in
    let file = d.seen c.args.disk.now in
    let h = c.args.half in
    let l = layout c.args.capacity c.args.label.now in
    let cur = c.requires.current in
    let long : 13 < c.args.len = omega (arith, c.requires.len, cur.0) in
    let no : c.ends_before.result ≡ false = search rules in
    let lt = inside c.args.capacity h c.base-at.result c.args.len c.base-at.ensures.value long (c.ends_before.ensures.no no) in
    let most_is : c.min-most.result ≡ min (c.args.len - c.base-at.result) c.half_bytes.result = search rules in
    let base = c.base-at.result in
    let base_is = c.base-at.ensures.value in
    let in_side : base < length file = omega (arith, lt, c.requires.len) in
    let is_most : c.min-most.result ≡ min (length file - base) (half_size c.args.capacity) = omega (arith, most_is, c.half_bytes.ensures.value, c.requires.len) in
    let fits : length (header c.args.label.now) ≤ half_size c.args.capacity = omega (arith, length-header c.args.label.now, c.requires.fits.1) in
    let size = length (header c.args.label.now) in
    let n = min c.min-most.result size in
    let same : c.in-Err.error ≡ errors.OtherLabel = cc is in
    other_label l file h cur.0 cur.1 cur.2 base c.min-most.result size n (take n (drop base file)) base_is in_side is_most refl fits refl refl (c.in-Err.ensures.other (ap Err same))

pub returns-in-Ok-read_on-clause-records : goal.returns-in-Ok-read_on-clause-records
returns-in-Ok-read_on-clause-records g c =
    let d = g.D.Disk in
    let file = d.seen c.args.disk.now in
    let h = c.args.half in
    let l = layout c.args.capacity c.args.label.now in
    let cur = c.requires.current in
    let long : 13 < c.args.len = omega (arith, c.requires.len, cur.0) in
    let no : c.ends_before.result ≡ false = search rules in
    let lt = inside c.args.capacity h c.base-at.result c.args.len c.base-at.ensures.value long (c.ends_before.ensures.no no) in
    let most_is : c.min-most.result ≡ min (c.args.len - c.base-at.result) c.half_bytes.result = search rules in
    let base = c.base-at.result in
    let base_is = c.base-at.ensures.value in
    let in_side : base < length file = omega (arith, lt, c.requires.len) in
    let is_most : c.min-most.result ≡ min (length file - base) (half_size c.args.capacity) = omega (arith, most_is, c.half_bytes.ensures.value, c.requires.len) in
    let fits : length (header c.args.label.now) ≤ half_size c.args.capacity = omega (arith, length-header c.args.label.now, c.requires.fits.1) in
    let size = c.in-Ok.size in
    let size_is = c.in-Ok.ensures.header.0 in
    let fits_too : size ≤ half_size c.args.capacity = omega (arith, size_is, fits) in
    let n = min c.min-most.result size in
    let at = base + size in
    let until = base + c.min-most.result in
    let mid = c.check_label.new.disk in
    let same = c.check_label.ensures.quiet.same in
    let rs = record_lists c.in-Ok-read_on.records.items in
    let whole = subst (λ (f : List ℕ). reading 0 at (take (until - at) (drop at f)) ≡ Whole rs) same c.in-Ok-read_on.ensures.whole in
    read_as l file h cur.0 cur.1 cur.2 base c.min-most.result size n (take n (drop base file)) base_is in_side is_most size_is fits_too refl refl c.in-Ok.ensures.header.1 rs at until refl refl
    whole

pub returns-in-Err-read_on-clause-damaged : goal.returns-in-Err-read_on-clause-damaged
returns-in-Err-read_on-clause-damaged g c place is =
    let d = g.D.Disk in
    let file = d.seen c.args.disk.now in
    let h = c.args.half in
    let l = layout c.args.capacity c.args.label.now in
    let cur = c.requires.current in
    let long : 13 < c.args.len = omega (arith, c.requires.len, cur.0) in
    let no : c.ends_before.result ≡ false = search rules in
    let lt = inside c.args.capacity h c.base-at.result c.args.len c.base-at.ensures.value long (c.ends_before.ensures.no no) in
    let most_is : c.min-most.result ≡ min (c.args.len - c.base-at.result) c.half_bytes.result = search rules in
    let base = c.base-at.result in
    let base_is = c.base-at.ensures.value in
    let in_side : base < length file = omega (arith, lt, c.requires.len) in
    let is_most : c.min-most.result ≡ min (length file - base) (half_size c.args.capacity) = omega (arith, most_is, c.half_bytes.ensures.value, c.requires.len) in
    let fits : length (header c.args.label.now) ≤ half_size c.args.capacity = omega (arith, length-header c.args.label.now, c.requires.fits.1) in
    let size = c.in-Ok.size in
    let size_is = c.in-Ok.ensures.header.0 in
    let fits_too : size ≤ half_size c.args.capacity = omega (arith, size_is, fits) in
    let n = min c.min-most.result size in
    let at = base + size in
    let until = base + c.min-most.result in
    let mid = c.check_label.new.disk in
    let same = c.check_label.ensures.quiet.same in
    let was : c.from.result ≡ errors.Damaged place = cc is in
    let e = damaged_as c.in-Err-read_on.error place (sym c.from.ensures ∙ was) in
    let bad = subst (λ (f : List ℕ). reading 0 at (take (until - at) (drop at f)) ≡ Damaged place) same (c.in-Err-read_on.ensures.damaged place (ap Err e)) in
    read_damaged l file h cur.0 cur.1 cur.2 base c.min-most.result size n (take n (drop base file)) base_is in_side is_most size_is fits_too refl refl c.in-Ok.ensures.header.1 place at until refl
    refl bad

pub returns-in-Err-read_on-clause-other_label : goal.returns-in-Err-read_on-clause-other_label
returns-in-Err-read_on-clause-other_label g c is =
    let was : c.from.result ≡ errors.OtherLabel = cc is in
    absurd (no_label c.in-Err-read_on.error (sym c.from.ensures ∙ was))

pub returns-in-Err-read_on-clause-one_capacity : goal.returns-in-Err-read_on-clause-one_capacity
returns-in-Err-read_on-clause-one_capacity g c is =
    let was : c.from.result ≡ errors.OtherCapacity = cc is in
    no_capacity c.in-Err-read_on.error (sym c.from.ensures ∙ was)

pub returns-in-Err-read_on-clause-not_full : goal.returns-in-Err-read_on-clause-not_full
returns-in-Err-read_on-clause-not_full g c is =
    let was : c.from.result ≡ errors.Full = cc is in
    not_full c.in-Err-read_on.error (sym c.from.ensures ∙ was)

pub returns-in-Err-read_on-clause-cause : goal.returns-in-Err-read_on-clause-cause
returns-in-Err-read_on-clause-cause g c is =
    let was : c.from.result ≡ errors.DiskFault = cc is in
    let e = fault_as c.in-Err-read_on.error (sym c.from.ensures ∙ was) in
    omega (arith, c.in-Err-read_on.ensures.cause (ap Err e), c.check_label.ensures.quiet.later)

pub returns-in-Ok-read_on-clause-quiet : goal.returns-in-Ok-read_on-clause-quiet
returns-in-Ok-read_on-clause-quiet g c =
    let d = g.D.Disk in
    quiet_then d.seen d.may_leave d.moment d.left_since d.faults d.capacity c.args.disk.now c.check_label.new.disk c.read_on.new.disk c.check_label.ensures.quiet c.read_on.ensures.quiet

pub returns-in-Ok-read_on-clause-calls : goal.returns-in-Ok-read_on-clause-calls
returns-in-Ok-read_on-clause-calls g c =
    let d = g.D.Disk in
    let file = d.seen c.args.disk.now in
    let h = c.args.half in
    let l = layout c.args.capacity c.args.label.now in
    let cur = c.requires.current in
    let long : 13 < c.args.len = omega (arith, c.requires.len, cur.0) in
    let no : c.ends_before.result ≡ false = search rules in
    let lt = inside c.args.capacity h c.base-at.result c.args.len c.base-at.ensures.value long (c.ends_before.ensures.no no) in
    let most_is : c.min-most.result ≡ min (c.args.len - c.base-at.result) c.half_bytes.result = search rules in
    let base = c.base-at.result in
    let base_is = c.base-at.ensures.value in
    let in_side : base < length file = omega (arith, lt, c.requires.len) in
    let is_most : c.min-most.result ≡ min (length file - base) (half_size c.args.capacity) = omega (arith, most_is, c.half_bytes.ensures.value, c.requires.len) in
    let fits : length (header c.args.label.now) ≤ half_size c.args.capacity = omega (arith, length-header c.args.label.now, c.requires.fits.1) in
    let size = c.in-Ok.size in
    let size_is = c.in-Ok.ensures.header.0 in
    let fits_too : size ≤ half_size c.args.capacity = omega (arith, size_is, fits) in
    let n = min c.min-most.result size in
    let at = base + size in
    let until = base + c.min-most.result in
    let mid = c.check_label.new.disk in
    let same = c.check_label.ensures.quiet.same in
    let both = up_to_then c.min-most.result 0 (2 * (until - at) + 5) 0 _ _ _ c.check_label.ensures.calls c.read_on.ensures.calls in
    record { made = omega (arith, both.made, is_most); written = omega (arith, both.written); promise = both.promise }

pub returns-in-Err-read_on-clause-quiet : goal.returns-in-Err-read_on-clause-quiet
returns-in-Err-read_on-clause-quiet g c =
    let d = g.D.Disk in
    quiet_then d.seen d.may_leave d.moment d.left_since d.faults d.capacity c.args.disk.now c.check_label.new.disk c.read_on.new.disk c.check_label.ensures.quiet c.read_on.ensures.quiet

pub returns-in-Err-read_on-clause-calls : goal.returns-in-Err-read_on-clause-calls
returns-in-Err-read_on-clause-calls g c =
    let d = g.D.Disk in
    let file = d.seen c.args.disk.now in
    let h = c.args.half in
    let l = layout c.args.capacity c.args.label.now in
    let cur = c.requires.current in
    let long : 13 < c.args.len = omega (arith, c.requires.len, cur.0) in
    let no : c.ends_before.result ≡ false = search rules in
    let lt = inside c.args.capacity h c.base-at.result c.args.len c.base-at.ensures.value long (c.ends_before.ensures.no no) in
    let most_is : c.min-most.result ≡ min (c.args.len - c.base-at.result) c.half_bytes.result = search rules in
    let base = c.base-at.result in
    let base_is = c.base-at.ensures.value in
    let in_side : base < length file = omega (arith, lt, c.requires.len) in
    let is_most : c.min-most.result ≡ min (length file - base) (half_size c.args.capacity) = omega (arith, most_is, c.half_bytes.ensures.value, c.requires.len) in
    let fits : length (header c.args.label.now) ≤ half_size c.args.capacity = omega (arith, length-header c.args.label.now, c.requires.fits.1) in
    let size = c.in-Ok.size in
    let size_is = c.in-Ok.ensures.header.0 in
    let fits_too : size ≤ half_size c.args.capacity = omega (arith, size_is, fits) in
    let n = min c.min-most.result size in
    let at = base + size in
    let until = base + c.min-most.result in
    let mid = c.check_label.new.disk in
    let same = c.check_label.ensures.quiet.same in
    let both = up_to_then c.min-most.result 0 (2 * (until - at) + 5) 0 _ _ _ c.check_label.ensures.calls c.read_on.ensures.calls in
    record { made = omega (arith, both.made, is_most); written = omega (arith, both.written); promise = both.promise }

pub overflow_add-at : goal.overflow_add-at
overflow_add-at g c =
    let d = g.D.Disk in
    let file = d.seen c.args.disk.now in
    let h = c.args.half in
    let l = layout c.args.capacity c.args.label.now in
    let cur = c.requires.current in
    let long : 13 < c.args.len = omega (arith, c.requires.len, cur.0) in
    let no : c.ends_before.result ≡ false = search rules in
    let lt = inside c.args.capacity h c.base-at.result c.args.len c.base-at.ensures.value long (c.ends_before.ensures.no no) in
    let most_is : c.min-most.result ≡ min (c.args.len - c.base-at.result) c.half_bytes.result = search rules in
    let base = c.base-at.result in
    let base_is = c.base-at.ensures.value in
    let in_side : base < length file = omega (arith, lt, c.requires.len) in
    let is_most : c.min-most.result ≡ min (length file - base) (half_size c.args.capacity) = omega (arith, most_is, c.half_bytes.ensures.value, c.requires.len) in
    let fits : length (header c.args.label.now) ≤ half_size c.args.capacity = omega (arith, length-header c.args.label.now, c.requires.fits.1) in
    let size = c.in-Ok.size in
    let size_is = c.in-Ok.ensures.header.0 in
    let fits_too : size ≤ half_size c.args.capacity = omega (arith, size_is, fits) in
    let n = min c.min-most.result size in
    let at = base + size in
    let until = base + c.min-most.result in
    let mid = c.check_label.new.disk in
    let same = c.check_label.ensures.quiet.same in
    omega (arith, c.base-at.ensures.small, fits_too, small_half c.args.capacity)

pub overflow_add-at-2 : goal.overflow_add-at-2
overflow_add-at-2 g c =
    let d = g.D.Disk in
    let file = d.seen c.args.disk.now in
    let h = c.args.half in
    let l = layout c.args.capacity c.args.label.now in
    let cur = c.requires.current in
    let long : 13 < c.args.len = omega (arith, c.requires.len, cur.0) in
    let no : c.ends_before.result ≡ false = search rules in
    let lt = inside c.args.capacity h c.base-at.result c.args.len c.base-at.ensures.value long (c.ends_before.ensures.no no) in
    let most_is : c.min-most.result ≡ min (c.args.len - c.base-at.result) c.half_bytes.result = search rules in
    let base = c.base-at.result in
    let base_is = c.base-at.ensures.value in
    let in_side : base < length file = omega (arith, lt, c.requires.len) in
    let is_most : c.min-most.result ≡ min (length file - base) (half_size c.args.capacity) = omega (arith, most_is, c.half_bytes.ensures.value, c.requires.len) in
    let fits : length (header c.args.label.now) ≤ half_size c.args.capacity = omega (arith, length-header c.args.label.now, c.requires.fits.1) in
    let size = c.in-Ok.size in
    let size_is = c.in-Ok.ensures.header.0 in
    let fits_too : size ≤ half_size c.args.capacity = omega (arith, size_is, fits) in
    let n = min c.min-most.result size in
    let at = base + size in
    let until = base + c.min-most.result in
    let mid = c.check_label.new.disk in
    let same = c.check_label.ensures.quiet.same in
    omega (arith, c.base-at.ensures.small, is_most, small_half c.args.capacity)
