use Rattle.std.proofs.Common.{ℕ, ◌≤◌, List, length, sym, subst}
use Rattle.line_reader.specs.Lines.{TakesLine, ahead}
use Rattle.line_reader.specs.declared.TheConstants.{MOST_LINE_BYTES}
use Rattle.shell_runner.proofs.Brought.{asks_next}
use Rattle.shell_runner.proofs.asking.next_asked.Goals as goal

pub returns-clause-next : goal.returns-clause-next
returns-clause-next g c =
    let before = ahead c.args.reader.now (g.S.Source.left c.args.input.now) in
    let mid = ahead c.next_line.new.self (g.S.Source.left c.next_line.new.source) in
    asks_next c.args.names.now c.args.format c.in_ok-asked.asked.asks c.deref.result.now c.next_line.new.self c.read_asked.new.reader before (g.S.Source.left c.next_line.new.source)
    c.in_ok-asked.ensures.asks c.in_ok-asked.ensures.brings (subst (TakesLine before mid) (sym c.deref.ensures.value) (rw c.in-Ok-Some.field-0-is at c.in-Ok-Some.ensures.taken))
    (subst (λ (l : List ℕ). length l ≤ MOST_LINE_BYTES) (sym c.deref.ensures.value) (rw c.in-Ok-Some.field-0-is at c.in-Ok-Some.ensures.short))
