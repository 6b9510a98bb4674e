use Rattle.std.proofs.Common.{◌≡◌, ◌-◌, ℕ, sym, subst, arith}
use Rattle.epoch_journal.specs.Layout.{half_size}
use Rattle.epoch_store.proofs.Answering.{still_full}
use Rattle.epoch_store.proofs.store.prepared.Goals as goal

pub returns-in-Err-clause-full : goal.returns-in-Err-clause-full
returns-in-Err-clause-full g c is =
    let e = g.E.Recorder in
    let j = c.args.journal.now in
    let left : c.left-left.result ≡ half_size j.layout.capacity - j.end = omega (arith, c.left-left.ensures.left) in
    subst (λ (n : ℕ). e.lacks c.args.engine.now n c.args.session c.args.request) left (c.in-Err.ensures.full (still_full c.in-Err.error is))

pub returns-clause-room : goal.returns-clause-room
returns-clause-room g c lacks =
    let e = g.E.Recorder in
    let j = c.args.journal.now in
    let left : c.left-left.result ≡ half_size j.layout.capacity - j.end = omega (arith, c.left-left.ensures.left) in
    absurd (c.in-Ok.ensures.room (subst (λ (n : ℕ). e.lacks c.args.engine.now n c.args.session c.args.request) (sym left) lacks))
