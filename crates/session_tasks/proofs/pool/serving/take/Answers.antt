use Rattle.std.proofs.Common.{◌≡◌, ◌<◌, length, sym, ap, ◌∙◌, arith}
use Rattle.teb_rules.specs.declared.names.TheConstants.{SESSIONS}
use Rattle.teb_rules.specs.declared.names.Session.{Session}
use Rattle.crossbeam_queue.specs.Passes.{view}
use Rattle.session_tasks.specs.Tasks.{number_in}
use Rattle.session_tasks.specs.pool.Tallies.{after_pop}
use Rattle.session_tasks.specs.pool.Waits.{IsUnused, number_at}
use Rattle.session_tasks.proofs.lemmas.pool.Handing.{pops}
use Rattle.session_tasks.proofs.lemmas.pool.Working.{unused_new}
use Rattle.session_tasks.proofs.pool.serving.take.Goals as goal

pub pop_as-requires-clause-rule : goal.pop_as-requires-clause-rule
pop_as-requires-clause-rule g c = (pops g.J.Roster.numbers number_at (IsUnused g.J.Roster.hall) c.args.token.now.id (view c.args.token.now) c.requires.token.1, λ items views h at. tt)

pub begin-requires : goal.begin-requires
begin-requires g c =
    let r = rw c.in-Some.is at c.pop_as.ensures.rule in
    unused_new c.args.run.now.hall.now g.J.Roster.numbers g.J.Roster.hall c.requires.suits c.in-Some.next r.1

pub returns-in-Some-clause-taken : goal.returns-in-Some-clause-taken
returns-in-Some-clause-taken g c =
    let r = rw c.in-Some.is at c.pop_as.ensures.rule in
    let few = c.requires.suits.few in
    let less = r.2.0 in
    let same : number_at c.in-Some.next ≡ number_in c.begin.result = ap (λ (s : Session). s.0) (sym r.1.session ∙ sym c.begin.ensures.session) in
    (r.0 ∙ ap (after_pop (view c.args.token.now)) same, ((let z : length (view c.args.token.now).taken < SESSIONS = omega arith in z), r.2.1))
