use Rattle.std.proofs.Common.{◌∙◌, subst, sym, ap, rules}
use Rattle.commit_journal.specs.Answered.{Answered}
use Rattle.commit_journal.specs.Kept.{Kept, kept_of}
use Rattle.commit_journal.proofs.Asked.{all_acknowledged, ends_behind}
use Rattle.commit_journal.proofs.Answered.{keeps_alike}
use Rattle.commit_journal.proofs.Effects.{acknowledges, acknowledges_none, runs_on, changes_at_fault, fault_rose, fault_at_commit}
use Rattle.commit_journal.proofs.Effects.{fault_adds_nothing, touches_none, makes_four, writes_one_more, makes_few, never_at_fault, fails_at_commit}
use Rattle.commit_journal.proofs.durable.Durable.ask.Given.{Over}
use Rattle.commit_journal.proofs.durable.Durable.ask.Goals as goal

-- the effect of the answer, relative to the store before the call
did : (g : Over) (c : goal.After-drop-body g)
    → Answered g.D.Disk.moment g.D.Disk.left_since g.D.Disk.safe g.D.Disk.faults g.D.Disk.tally c.args.self.now
    (kept_of c.answered.new.engine c.answered.new.journal) c.args.session c.args.request c.answered.result
did g c =
    let d = g.D.Disk in
    let n = kept_of c.answered.new.engine c.answered.new.journal in
    subst (λ (o : Kept _). Answered d.moment d.left_since d.safe d.faults d.tally o n c.args.session c.args.request c.answered.result)
    (c.prepared.ensures.same ∙ c.self.view_is) c.answered.ensures.answered

pub answered-requires-clause-keeps : goal.answered-requires-clause-keeps
answered-requires-clause-keeps g c =
    keeps_alike g.D.Disk.seen g.D.Disk.may_leave c.self.inside.engine c.prepared.new.engine c.self.inside.journal c.prepared.ensures.same c.self.invariant

pub invariant_of-self : goal.invariant_of-self
invariant_of-self g c =
    keeps_alike g.D.Disk.seen g.D.Disk.may_leave c.self.inside.engine c.prepared.new.engine c.self.inside.journal c.prepared.ensures.same c.self.invariant

pub returns-clause-store : goal.returns-clause-store
returns-clause-store g c = (did g c).store

pub returns-clause-reply : goal.returns-clause-reply
returns-clause-reply g c = (did g c).reply

pub returns-clause-any_moment : goal.returns-clause-any_moment
returns-clause-any_moment g c = (did g c).any_moment

pub returns-clause-images : goal.returns-clause-images
returns-clause-images g c = c.answered.ensures.keeps.each

pub returns-clause-not_asked : goal.returns-clause-not_asked
returns-clause-not_asked g c = changes_at_fault c.answered.result (did g c).effect

pub returns-clause-goes_on : goal.returns-clause-goes_on
returns-clause-goes_on g c = runs_on c.answered.result (did g c).effect (sym (ap (λ (o : Kept _). o.stopped) c.self.view_is) ∙ c.in_ok-body.ensures.runs)

pub returns-clause-capacity : goal.returns-clause-capacity
returns-clause-capacity g c = c.answered.ensures.capacity ∙ ap (λ (o : Kept _). g.D.Disk.capacity o.disk) c.self.view_is

pub returns-in_err-body-clause-acknowledged : goal.returns-in_err-body-clause-acknowledged
returns-in_err-body-clause-acknowledged g c =
    let kept = keeps_alike g.D.Disk.seen g.D.Disk.may_leave c.self.inside.engine c.prepared.new.engine c.self.inside.journal c.prepared.ensures.same c.self.invariant in
    record {
      one = search rules;
      others = search rules;
      all = all_acknowledged g.D.Disk.seen g.D.Disk.may_leave c.prepared.new.engine.store c.prepared.new.engine.events c.self.inside.journal kept;
      end = ends_behind g.D.Disk.seen g.D.Disk.may_leave c.prepared.new.engine.store c.prepared.new.engine.events c.self.inside.journal kept;
    }

pub returns-clause-acknowledged : goal.returns-clause-acknowledged
returns-clause-acknowledged g c = record {
  one = acknowledges c.answered.result (did g c).effect;
  others = acknowledges_none c.answered.result (did g c).effect;
  all = all_acknowledged g.D.Disk.seen g.D.Disk.may_leave c.answered.new.engine.store c.answered.new.engine.events c.answered.new.journal c.answered.ensures.keeps;
  end = ends_behind g.D.Disk.seen g.D.Disk.may_leave c.answered.new.engine.store c.answered.new.engine.events c.answered.new.journal c.answered.ensures.keeps;
}

pub returns-clause-fault : goal.returns-clause-fault
returns-clause-fault g c is =
    let commit = fault_at_commit c.answered.result (did g c).effect (did g c).events is in
    record {
      cause = fault_rose c.answered.result (did g c).effect is;
      commits = commit.0;
      events = commit.1;
      acknowledged = commit.2;
      stopped = commit.3;
      not_added = fault_adds_nothing c.answered.result (did g c).effect is;
    }

pub returns-clause-calls : goal.returns-clause-calls
returns-clause-calls g c = record {
  untouched = touches_none c.answered.result (did g c).effect;
  counted = makes_four c.answered.result (did g c).effect;
  written = writes_one_more c.answered.result (did g c).effect;
  up_to = makes_few c.answered.result (did g c).effect;
  sure = never_at_fault c.answered.result (did g c).effect;
  fails = fails_at_commit c.answered.result (did g c).effect;
}
