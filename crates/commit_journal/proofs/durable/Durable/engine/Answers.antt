use Rattle.std.proofs.Common.{subst}
use Rattle.commit_laws.specs.Laws.{IsOfSerialRun}
use Rattle.commit_laws.proofs.Laws.{first_commits_serialize}
use Rattle.commit_journal.specs.Kept.{Kept}
use Rattle.commit_journal.proofs.Asked.{reads_reached}
use Rattle.commit_journal.proofs.durable.Durable.engine.Goals as goal

pub returns-clause-serial : goal.returns-clause-serial
returns-clause-serial g c k =
    let e = c.self.inside.engine in
    subst (λ (o : Kept _). IsOfSerialRun o.store o.events k) c.self.view_is
    (first_commits_serialize e.store e.events c.history.ensures.sound c.history.ensures.lawful (reads_reached e.store e.events c.history.ensures.reached.reached) k)
