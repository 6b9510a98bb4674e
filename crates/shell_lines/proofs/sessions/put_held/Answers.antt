use Rattle.std.proofs.Common.{◌+◌, arith}
use Rattle.line_words.proofs.Counted.{counted_all, counted_more, counted_none}
use Rattle.shell_lines.specs.Sessions.{held_word}
use Rattle.shell_lines.proofs.sessions.put_held.Goals as goal

pub loop-i-init : goal.loop-i-init
loop-i-init c = counted_none (λ i. held_word c.args.history.now.events (i + 1)) c.args.out.now.items

pub loop-i-preserved : goal.loop-i-preserved
loop-i-preserved c = counted_more (λ i. held_word c.args.history.now.events (i + 1)) c.loop-i.i c.args.out.now.items c.loop-i.out.items c.put_held_word.new.out.items c.loop-i.invariant
    c.in_ok-put_held_word.ensures

pub returns : goal.returns
returns c = counted_all (λ i. held_word c.args.history.now.events (i + 1)) c.loop-i.i _ c.args.out.now.items c.loop-i.out.items (omega (arith, c.loop-i-test.false, c.loop-i.auto.i-end))
    c.loop-i.invariant
