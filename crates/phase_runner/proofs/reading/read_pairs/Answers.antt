use Rattle.std.proofs.Common.{◌≡◌, ◌+◌, ◌-◌, ◌*◌, ℕ, List, Result, Err, get_or, sym, ◌∙◌, subst, arith}
use Rattle.std.specs.Prelude.{IfSome}
use Rattle.std.specs.declared.alloc.Global.{Global}
use Rattle.std.specs.declared.collections.VecDeque.{VecDeque}
use Rattle.std.proofs.lemmas.Result.{err_from_is_err_and}
use Rattle.input_reader.specs.Tasks.{Task}
use Rattle.phase_runner.specs.declared.error.PhaseError.{PhaseError}
use Rattle.phase_runner.specs.Readings.{IsRead}
use Rattle.phase_runner.proofs.PairSteps.{all_read, pair_bad, pair_read, small_at}
use Rattle.phase_runner.proofs.reading.read_pairs.Goals as goal

pub read_pair-requires : goal.read_pair-requires
read_pair-requires c = small_at c.args.parts.now (2 * c.loop-i.i + 1) _ c.requires.small (omega (arith, c.loop-i-test.true))

pub returns-in_err-task : goal.returns-in_err-task
returns-in_err-task c =
    let p = err_from_is_err_and c.from_residual.result c.from_residual.ensures.1 in
    let xs = c.loop-i.tasks.items in
    let last = subst (λ (n : ℕ). IfSome c.back.result (λ x. x.now ≡ get_or xs (n - 1) x.now)) c.loop-i.tasks.ok.0 c.back.ensures.lookup in
    let view = λ (v : VecDeque Task Global). v.items in
    rw (p.1, p.2)
    (subst (λ (r : Result (List Task) PhaseError). IsRead view (Err c.in_err-task.field-0.0) r) c.loop-i.invariant
    (pair_bad c.args.parts.now c.loop-i.i xs _ _ (omega (arith, c.loop-i-test.true)) c.back.result c.back.ensures.item.0 last view c.in_err-task.field-0.0 c.in_err-task.ensures))

pub loop-i-preserved : goal.loop-i-preserved
loop-i-preserved c =
    let xs = c.loop-i.tasks.items in
    let last = subst (λ (n : ℕ). IfSome c.back.result (λ x. x.now ≡ get_or xs (n - 1) x.now)) c.loop-i.tasks.ok.0 c.back.ensures.lookup in
    pair_read c.args.parts.now c.loop-i.i xs _ _ (omega (arith, c.loop-i-test.true)) c.back.result c.back.ensures.item.0 last c.in_ok-task.task c.push_back.new.self.items c.in_ok-task.ensures
    c.in_ok-push_back.ensures.items
    ∙ c.loop-i.invariant

pub returns : goal.returns
returns c = sym c.loop-i.invariant ∙ all_read c.args.parts.now c.loop-i.i c.loop-i.tasks.items (omega (arith, c.loop-i-test.false))
