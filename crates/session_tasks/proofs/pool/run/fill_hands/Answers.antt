use Rattle.std.proofs.Common.{◌≡◌, length, eqb-true, sym, ◌∙◌, arith}
use Rattle.std.specs.VecDeque.{deque_len}
use Rattle.session_tasks.specs.pool.Waits.{scripted}
use Rattle.session_tasks.proofs.lemmas.pool.Working.{no_hands_yet, none_at, waiting_roster}
use Rattle.session_tasks.proofs.pool.run.fill_hands.Goals as goal

pub by_queue-requires-clause-roster : goal.by_queue-requires-clause-roster
by_queue-requires-clause-roster g c κs within = waiting_roster c.args.run.now.hall.now c.args.waiting.items c.args.run.now.scripts.now c.requires.numbers c.requires.each

pub returns-then-is_empty : goal.returns-then-is_empty
returns-then-is_empty g c =
    let ws = c.args.waiting in
    let z = ws.ok.0 in
    let none : deque_len ws ≡ 0 = eqb-true (deque_len ws) 0 (sym c.is_empty.ensures ∙ c.if-is_empty.true) in
    let empty : length ws.items ≡ 0 = omega arith in
    no_hands_yet c.args.run.now.hall.now c.args.run.now.scripts.now c.from.result c.args.workers.number (scripted c.args.run.now.scripts.now) c.empty_hands.result
    c.from.ensures c.empty_hands.ensures.len c.empty_hands.ensures.empty
    (sym c.requires.numbers ∙ none_at ws.items empty)
