use Rattle.std.proofs.Common.{rules, ◌≡◌, ◌+◌, ◌-◌, ◌*◌, ◌<◌, ◌≤◌, ◌∙◌, ◌⊎◌, ◌≢◌, min, true, false, List, ℕ, refl, ap, sym, subst, arith, length, take, drop, get_or}
use Rattle.crash_disk.proofs.Groups.{up_to_then}
use Rattle.epoch_journal.specs.Next.{count_in}
use Rattle.epoch_journal.proofs.Nexts.{none_there, too_short, too_long, bad_record, good_record, good_count}
use Rattle.epoch_journal.proofs.records.read_next.Goals as goal

pub returns-then-not-is_committed-clause-found : goal.returns-then-not-is_committed-clause-found
returns-then-not-is_committed-clause-found g c =
    let file = g.D.Disk.seen c.args.disk.now in
    let at = c.args.at in
    let until = c.args.until in
    let front = c.in_ok-front.front.items in
    let few : c.min.result ≡ min (until - at) 5 = search rules in
    let read = c.in_ok-front.ensures.bytes in
    let le = c.requires.within.0 in
    let whole = c.requires.within.1 in
    let no : c.is_committed.result ≡ false = search rules in
    none_there file front at until c.min.result few read le whole (subst (λ (f : List ℕ). (length f ≡ 0) ⊎ (get_or f 0 0 ≢ 1)) c.deref.ensures.value (c.is_committed.ensures.other no))

pub returns-then-most-lt5-clause-damaged : goal.returns-then-most-lt5-clause-damaged
returns-then-most-lt5-clause-damaged g c place is =
    let file = g.D.Disk.seen c.args.disk.now in
    let at = c.args.at in
    let until = c.args.until in
    let front = c.in_ok-front.front.items in
    let few : c.min.result ≡ min (until - at) 5 = search rules in
    let read = c.in_ok-front.ensures.bytes in
    let le = c.requires.within.0 in
    let whole = c.requires.within.1 in
    let yes : c.is_committed.result ≡ true = search rules in
    let marked = subst (λ (f : List ℕ). (0 < length f) × (get_or f 0 0 ≡ 1)) c.deref.ensures.value (c.is_committed.ensures.marked yes) in
    let same : at ≡ place = cc is in
    (sym same, too_short file front at until c.min.result few read le whole marked.0 marked.1 c.if-most-lt5.true)

pub returns-then-size-most-clause-damaged : goal.returns-then-size-most-clause-damaged
returns-then-size-most-clause-damaged g c place is =
    let file = g.D.Disk.seen c.args.disk.now in
    let at = c.args.at in
    let until = c.args.until in
    let front = c.in_ok-front.front.items in
    let few : c.min.result ≡ min (until - at) 5 = search rules in
    let read = c.in_ok-front.ensures.bytes in
    let le = c.requires.within.0 in
    let whole = c.requires.within.1 in
    let yes : c.is_committed.result ≡ true = search rules in
    let marked = subst (λ (f : List ℕ). (0 < length f) × (get_or f 0 0 ≡ 1)) c.deref.ensures.value (c.is_committed.ensures.marked yes) in
    let four : 5 ≤ until - at = c.if-most-lt5.false in
    let is_size = c.body_size-size.ensures.value ∙ ap (λ (f : List ℕ). 4 + 14 * count_in f) c.deref-2.ensures.value in
    let same : at ≡ place = cc is in
    (sym same, too_long file front at until c.min.result few read le whole marked.0 marked.1 four (omega (arith, c.if-size-most.true, is_size)))

pub returns-in-None-clause-damaged : goal.returns-in-None-clause-damaged
returns-in-None-clause-damaged g c place is =
    let file = g.D.Disk.seen c.args.disk.now in
    let at = c.args.at in
    let until = c.args.until in
    let front = c.in_ok-front.front.items in
    let few : c.min.result ≡ min (until - at) 5 = search rules in
    let read = c.in_ok-front.ensures.bytes in
    let le = c.requires.within.0 in
    let whole = c.requires.within.1 in
    let yes : c.is_committed.result ≡ true = search rules in
    let marked = subst (λ (f : List ℕ). (0 < length f) × (get_or f 0 0 ≡ 1)) c.deref.ensures.value (c.is_committed.ensures.marked yes) in
    let four : 5 ≤ until - at = c.if-most-lt5.false in
    let is_size = c.body_size-size.ensures.value ∙ ap (λ (f : List ℕ). 4 + 14 * count_in f) c.deref-2.ensures.value in
    let size = c.body_size-size.result in
    let body_is = c.deref-3.ensures.value ∙ c.in_ok-body.ensures.bytes ∙ ap (λ (f : List ℕ). take size (drop (at + 1) f)) c.read_range.ensures.quiet.same in
    let none = rw c.in-None.is at c.in_ok-record.ensures.record in
    let same : at ≡ place = cc is in
    (sym same, bad_record file front at until c.min.result few read le whole marked.0 marked.1 four c.deref-3.result.now size (at + 1) is_size c.if-size-most.false refl body_is none)

pub returns-clause-found : goal.returns-clause-found
returns-clause-found g c =
    let file = g.D.Disk.seen c.args.disk.now in
    let at = c.args.at in
    let until = c.args.until in
    let front = c.in_ok-front.front.items in
    let few : c.min.result ≡ min (until - at) 5 = search rules in
    let read = c.in_ok-front.ensures.bytes in
    let le = c.requires.within.0 in
    let whole = c.requires.within.1 in
    let yes : c.is_committed.result ≡ true = search rules in
    let marked = subst (λ (f : List ℕ). (0 < length f) × (get_or f 0 0 ≡ 1)) c.deref.ensures.value (c.is_committed.ensures.marked yes) in
    let four : 5 ≤ until - at = c.if-most-lt5.false in
    let is_size = c.body_size-size.ensures.value ∙ ap (λ (f : List ℕ). 4 + 14 * count_in f) c.deref-2.ensures.value in
    let size = c.body_size-size.result in
    let body_is = c.deref-3.ensures.value ∙ c.in_ok-body.ensures.bytes ∙ ap (λ (f : List ℕ). take size (drop (at + 1) f)) c.read_range.ensures.quiet.same in
    let found = rw c.in-Some.is at c.in_ok-record.ensures.record in
    let long = rw c.in-Some.is at c.in_ok-record.ensures.length in
    good_record file front at until c.min.result few read le whole marked.0 marked.1 four c.deref-3.result.now size (at + 1) is_size c.if-size-most.false refl body_is c.in-Some.record.items found long

pub returns-clause-record_calls : goal.returns-clause-record_calls
returns-clause-record_calls g c =
    let file = g.D.Disk.seen c.args.disk.now in
    let at = c.args.at in
    let until = c.args.until in
    let front = c.in_ok-front.front.items in
    let few : c.min.result ≡ min (until - at) 5 = search rules in
    let read = c.in_ok-front.ensures.bytes in
    let le = c.requires.within.0 in
    let whole = c.requires.within.1 in
    let yes : c.is_committed.result ≡ true = search rules in
    let marked = subst (λ (f : List ℕ). (0 < length f) × (get_or f 0 0 ≡ 1)) c.deref.ensures.value (c.is_committed.ensures.marked yes) in
    let four : 5 ≤ until - at = c.if-most-lt5.false in
    let is_size = c.body_size-size.ensures.value ∙ ap (λ (f : List ℕ). 4 + 14 * count_in f) c.deref-2.ensures.value in
    let size = c.body_size-size.result in
    let body_is = c.deref-3.ensures.value ∙ c.in_ok-body.ensures.bytes ∙ ap (λ (f : List ℕ). take size (drop (at + 1) f)) c.read_range.ensures.quiet.same in
    let found = rw c.in-Some.is at c.in_ok-record.ensures.record in
    let count = good_count file front at until c.min.result few read le whole marked.0 marked.1 four c.deref-3.result.now size (at + 1) is_size c.if-size-most.false refl body_is c.in-Some.record.items
    found in
    let both = up_to_then c.min.result 0 size 0 _ _ _ c.read_range.ensures.calls c.read_range-2.ensures.calls in
    record { made = omega (arith, both.made, few, is_size, count); written = omega (arith, both.written); promise = both.promise }
