use Rattle.std.proofs.Common.{◌≡◌, ◌<◌, All, length, map, drop, refl, sym, ap, ◌∙◌, subst, arith}
use Rattle.crossbeam_queue.specs.Passes.{view}
use Rattle.session_tasks.specs.pool.Waits.{IsUnused, number_at}
use Rattle.session_tasks.specs.pool.Workers.{HasToken}
use Rattle.session_tasks.specs.declared.pool.worker.Worker.{Worker}
use Rattle.session_tasks.proofs.lemmas.pool.Handing.{begins}
use Rattle.session_tasks.proofs.lemmas.pool.Working.{worked_tokens, worked_hands, first_hand, all_hands, written_back}
use Rattle.session_tasks.proofs.pool.run.by_queue.Goals as goal

pub ruled-requires-clause-rule : goal.ruled-requires-clause-rule
ruled-requires-clause-rule g c = begins g.J.Roster.numbers number_at (IsUnused g.J.Roster.hall) c.requires.roster.suits.rising

pub dismiss-requires-clause-workers : goal.dismiss-requires-clause-workers
dismiss-requires-clause-workers g c =
    let ws = c.work.new.workers in
    let n : length ws ≡ c.in_ok-hired.hired.len = omega arith in
    subst (All (HasToken c.in_ok-line.line)) (sym (written_back ws (drop (length ws) c.in_ok-hired.hired.items) c.in_ok-hired.hired.len n))
    (worked_tokens c.args.run.now.hall.now c.args.run.now.scripts.now c.in_ok-line.line ws c.work.ensures)

pub take_rest-requires : goal.take_rest-requires
take_rest-requires g c =
    let h = c.args.run.now.hall.now in
    let x = c.args.run.now.scripts.now in
    let ws = c.work.new.workers in
    let n : length ws ≡ c.in_ok-hired.hired.len = omega arith in
    let count : c.in_ok-hired.hired.len ≡ c.args.workers.number = c.in_ok-hired.ensures.count in
    let some_ = c.args.workers.some in
    let hands = c.in_ok-hands.hands in
    let last = view c.dismiss.new.token in
    let collected = worked_hands h x c.in_ok-line.line ws c.args.workers.number (length g.J.Roster.numbers) last hands.items c.work.ensures (n ∙ count)
    (c.in_ok-hands.ensures.hands ∙ ap (map (λ (w : Worker g.row.C.Denot _). w.hand)) (written_back ws (drop (length ws) c.in_ok-hired.hired.items) c.in_ok-hired.hired.len n))
    c.in_ok-hands.ensures.whole c.in_ok-hands.ensures.shared in
    let many = collected.count in
    let below : 0 < length hands.items = omega arith in
    let first = first_hand h x c.args.workers.number (length g.J.Roster.numbers) last hands.items c.index_mut.result.now collected below c.index_mut.ensures.value in record {
      suits = c.requires.roster.suits;
      token = (c.dismiss.ensures.token, c.in_ok-hands.ensures.whole);
      first = first;
    }

pub returns : goal.returns
returns g c =
    let h = c.args.run.now.hall.now in
    let x = c.args.run.now.scripts.now in
    let ws = c.work.new.workers in
    let n : length ws ≡ c.in_ok-hired.hired.len = omega arith in
    let count : c.in_ok-hired.hired.len ≡ c.args.workers.number = c.in_ok-hired.ensures.count in
    let some_ = c.args.workers.some in
    let hands = c.in_ok-hands.hands in
    let last = view c.dismiss.new.token in
    let collected = worked_hands h x c.in_ok-line.line ws c.args.workers.number (length g.J.Roster.numbers) last hands.items c.work.ensures (n ∙ count)
    (c.in_ok-hands.ensures.hands ∙ ap (map (λ (w : Worker g.row.C.Denot _). w.hand)) (written_back ws (drop (length ws) c.in_ok-hired.hired.items) c.in_ok-hired.hired.len n))
    c.in_ok-hands.ensures.whole c.in_ok-hands.ensures.shared in
    let many = collected.count in
    let below : 0 < length hands.items = omega arith in
    all_hands h x c.args.workers.number (length g.J.Roster.numbers) last g.J.Roster.numbers hands.items _ c.index_mut.result.now c.take_rest.new.hand collected below c.index_mut.ensures.value refl
    c.take_rest.ensures.tasks c.take_rest.ensures.rising c.take_rest.ensures.rest

pub fill-requires-clause-roster : goal.fill-requires-clause-roster
fill-requires-clause-roster g c = c.requires.roster.these
