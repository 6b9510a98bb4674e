use Rattle.std.proofs.Common.{rules, refl, arith, sym, ◌∙◌, subst}
use Rattle.record_journal.specs.Journal.{IsAtRest}
use Rattle.record_journal.proofs.Keeping.{closed_first}
use Rattle.std.specs.Prelude.{IsErr}
use Rattle.record_journal.proofs.Counting.{more, stop}
use Rattle.record_journal.proofs.append.close_first_gate.Goals as goal

pub returns-clause-empty : goal.returns-clause-empty
returns-clause-empty g c = (
  subst (IsAtRest _ _ 0) (sym c.sync.ensures.seen) (closed_first _ c.in_ok-write_at.ensures.written),
  λ image left. c.in_ok-sync.ensures.durable image left ∙ sym c.sync.ensures.seen,
)

pub returns-in_err-write_at-clause-calls : goal.returns-in_err-write_at-clause-calls
returns-in_err-write_at-clause-calls g c =
    let failed : IsErr c.from_residual.result = search rules in
    stop 2 1 1 1 _ _ _ _ (omega arith) (omega arith) c.in_err-write_at.ensures.calls refl failed

pub returns-in_err-sync-clause-calls : goal.returns-in_err-sync-clause-calls
returns-in_err-sync-clause-calls g c =
    let failed : IsErr c.from_residual-in_err-sync.result = search rules in
    stop 2 1 2 1 _ _ _ _ (omega arith) (omega arith) (more 2 1 1 1 1 0 _ _ (g.D.Disk.tally c.sync.new.self) _ _ refl refl c.in_ok-write_at.ensures.calls c.in_err-sync.ensures.calls) refl failed

pub returns-clause-calls : goal.returns-clause-calls
returns-clause-calls g c = more 2 1 1 1 1 0 _ _ (g.D.Disk.tally c.sync.new.self) _ _ refl refl c.in_ok-write_at.ensures.calls c.in_ok-sync.ensures.calls
