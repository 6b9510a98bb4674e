use Rattle.std.proofs.Common.{List, sym, ◌∙◌, ap}
use Rattle.teb_rules.specs.declared.history.Event.{Event}
use Rattle.commit_laws.specs.Records.{puts_of}
use Rattle.commit_journal.specs.Kept.{committing}
use Rattle.commit_journal.proofs.Asked.{txn_of_some, committing_unfinished}
use Rattle.commit_journal.proofs.commit.body_of.Goals as goal

pub record_of-requires-clause-unfinished : goal.record_of-requires-clause-unfinished
record_of-requires-clause-unfinished g c =
    let is = ap (λ (P : List Event). committing P c.args.session c.args.request) (sym c.history.ensures.events) ∙ txn_of_some _ c.in-Some.t c.in-Some.ensures in
    committing_unfinished c.args.engine.now.events c.args.session c.args.request c.in-Some.t.0 is

pub record_of-requires-clause-puts : goal.record_of-requires-clause-puts
record_of-requires-clause-puts g c = c.deref.ensures.value ∙ c.in_ok-puts.ensures ∙ ap (λ (P : List Event). puts_of P c.in-Some.t.0) c.history-2.ensures.events
