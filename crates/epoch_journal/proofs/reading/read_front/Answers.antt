use Rattle.std.proofs.Common.{◌≡◌, ◌<◌, ◌∙◌, ⊎_elim, sym, subst, arith, ℕ, length, take}
use Rattle.epoch_journal.specs.Layout.{layout}
use Rattle.epoch_journal.specs.Read.{IsDamaged}
use Rattle.epoch_journal.proofs.Surveys.{thirteen, unsigned, other_capacity, fronted, same_of}
use Rattle.epoch_journal.proofs.reading.read_front.Goals as goal

pub check_front-requires : goal.check_front-requires
check_front-requires g c =
    let file = g.D.Disk.seen c.args.disk.now in
    let bytes = c.deref.result.now in
    let read : bytes ≡ take 13 file = c.deref.ensures.value ∙ c.in_ok-front.ensures.bytes in
    let long : 13 < length file = omega (arith, c.requires, c.if-len-le-FRONT_END.false) in
    thirteen file bytes read long

pub returns-clause-current : goal.returns-clause-current
returns-clause-current g c =
    let file = g.D.Disk.seen c.args.disk.now in
    let bytes = c.deref.result.now in
    let read : bytes ≡ take 13 file = c.deref.ensures.value ∙ c.in_ok-front.ensures.bytes in
    let long : 13 < length file = omega (arith, c.requires, c.if-len-le-FRONT_END.false) in
    (long, fronted file bytes read long c.args.capacity c.in-Ok.ensures.current.0, sym (same_of file bytes read long) ∙ c.in-Ok.ensures.current.1)

pub returns-in-Err-clause-damaged : goal.returns-in-Err-clause-damaged
returns-in-Err-clause-damaged g c label at is =
    let file = g.D.Disk.seen c.args.disk.now in
    let bytes = c.deref.result.now in
    let read : bytes ≡ take 13 file = c.deref.ensures.value ∙ c.in_ok-front.ensures.bytes in
    let long : 13 < length file = omega (arith, c.requires, c.if-len-le-FRONT_END.false) in
    let l = layout c.args.capacity label in
    ⊎_elim
    (λ one. let same : 1 ≡ at = cc (one.0, is) in subst (λ (n : ℕ). IsDamaged l n file) same (unsigned file bytes read long l one.1))
    (λ two. absurd (cc (two.0, is)))
    c.in-Err.ensures.errors

pub returns-in-Err-clause-other_capacity : goal.returns-in-Err-clause-other_capacity
returns-in-Err-clause-other_capacity g c label is =
    let file = g.D.Disk.seen c.args.disk.now in
    let bytes = c.deref.result.now in
    let read : bytes ≡ take 13 file = c.deref.ensures.value ∙ c.in_ok-front.ensures.bytes in
    let long : 13 < length file = omega (arith, c.requires, c.if-len-le-FRONT_END.false) in
    let l = layout c.args.capacity label in
    ⊎_elim
    (λ one. absurd (cc (one.0, is)))
    (λ two. other_capacity file bytes read long l two.1 two.2)
    c.in-Err.ensures.errors

pub returns-in-Err-clause-one_capacity : goal.returns-in-Err-clause-one_capacity
returns-in-Err-clause-one_capacity g c is = ⊎_elim (λ one. cc (one.0, is)) (λ two. cc (two.0, is)) c.in-Err.ensures.errors

pub returns-in-Err-clause-not_full : goal.returns-in-Err-clause-not_full
returns-in-Err-clause-not_full g c is = ⊎_elim (λ one. cc (one.0, is)) (λ two. cc (two.0, is)) c.in-Err.ensures.errors

pub returns-in-Err-clause-cause : goal.returns-in-Err-clause-cause
returns-in-Err-clause-cause g c is = absurd (⊎_elim (λ one. cc (one.0, is)) (λ two. cc (two.0, is)) c.in-Err.ensures.errors)
