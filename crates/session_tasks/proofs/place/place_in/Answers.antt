use Rattle.std.proofs.Common.{◌≡◌, ◌+◌, sym, length, subst, arith}
use Rattle.session_tasks.proofs.Placing.{NoneBefore, place_is, place_none}
use Rattle.session_tasks.proofs.place.place_in.Goals as goal

pub returns-then-session : goal.returns-then-session
returns-then-session c = let i = c.loop-i.i in
    sym (place_is c.args.scripts.now 0 c.args.session.0 i i c.session.result c.loop-i.invariant c.session.ensures c.if-session.true (let e : i ≡ 0 + i = omega arith in e))

pub returns : goal.returns
returns c = let n = length c.args.scripts.now in let e : c.loop-i.i ≡ n = omega (arith, c.len-i-end.ensures, c.loop-i.auto.i-end, c.loop-i-test.false) in
    sym (place_none c.args.scripts.now 0 c.args.session.0 (subst (NoneBefore c.args.scripts.now c.args.session.0) e c.loop-i.invariant))
