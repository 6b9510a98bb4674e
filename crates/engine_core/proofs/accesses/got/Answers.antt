use Rattle.std.proofs.Common.{ap, ap₂, ℕ, ℤ, Option}
use Rattle.teb_rules.specs.Answer.{got_value}
use Rattle.engine_core.specs.Views.{events_in}
use Rattle.engine_core.proofs.accesses.got.Goals as goal

pub returns-clause-answer : goal.returns-clause-answer
returns-clause-answer g c =
    let H = events_in c.args.asking.now.view.now in
    let t = c.args.asking.now.txn.0 in
    ap (got_value H t c.args.cell) (ap₂ (λ (w : ℕ) (v : Option ℤ). (w, v)) c.read-value.ensures.source c.read-value.ensures.value)
