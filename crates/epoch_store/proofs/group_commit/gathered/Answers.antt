use Rattle.std.proofs.Common.{◌≡◌, ◌+◌, ◌-◌, ℕ, sym, subst, arith}
use Rattle.epoch_journal.specs.Layout.{half_size}
use Rattle.epoch_journal.proofs.Sizes.{small_half}
use Rattle.epoch_store.specs.Gathering.{size_of}
use Rattle.epoch_store.proofs.Answering.{still_full}
use Rattle.epoch_store.proofs.group_commit.gathered.Goals as goal

pub returns-in-Err-clause-full : goal.returns-in-Err-clause-full
returns-in-Err-clause-full g c is =
    let e = g.E.Recorder in
    let j = c.args.journal.now in
    let left : c.left.result - c.size-waiting.result ≡ half_size j.layout.capacity - (j.end + size_of c.args.group.now.records) = omega (
      arith,
      c.left.ensures.left,
      c.size-waiting.ensures,
    ) in
    subst (λ (n : ℕ). e.lacks c.args.engine.now n c.args.session c.args.request) left (c.in-Err.ensures.full (still_full c.in-Err.error is))

pub returns-clause-room : goal.returns-clause-room
returns-clause-room g c lacks =
    let e = g.E.Recorder in
    let j = c.args.journal.now in
    let left : c.left.result - c.size-waiting.result ≡ half_size j.layout.capacity - (j.end + size_of c.args.group.now.records) = omega (
      arith,
      c.left.ensures.left,
      c.size-waiting.ensures,
    ) in
    absurd (c.in-Ok.ensures.room (subst (λ (n : ℕ). e.lacks c.args.engine.now n c.args.session c.args.request) (sym left) lacks))

pub body_and_memory-requires-clause-waiting : goal.body_and_memory-requires-clause-waiting
body_and_memory-requires-clause-waiting g c = omega (arith, c.size-waiting.ensures, c.requires, small_half c.args.journal.now.layout.capacity)
