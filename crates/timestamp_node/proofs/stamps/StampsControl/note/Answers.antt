use Rattle.std.proofs.Common.{◌≡◌, ◌∙◌, ◌-◌, ◌∷◌, ℕ, List, length, sym, subst, refl, inl, inr}
use Rattle.teb_rules.specs.declared.history.Event.{Event}
use Rattle.teb_rules.specs.Setup.{Setup}
use Rattle.phase_api.specs.FactsView.{setup_of, events_of}
use Rattle.phase_api.specs.Calls.{IsNewest}
use Rattle.batch_book.specs.Histories.{BatchesOf, MayCome, Finishes}
use Rattle.timestamp_node.specs.declared.stamps.Stamps.{Stamps}
use Rattle.timestamp_node.specs.Standing.{StampsStand}
use Rattle.timestamp_node.proofs.Noting.{at_end, got_on, got_off, done, gone_read, gone_on, gone_off, put, readied, told}
use Rattle.timestamp_node.proofs.stamps.StampsControl.note.Goals as goal
use Rattle.timestamp_node.proofs.stamps.StampsControl.note.Goals.{then-has-2, else-has-2}

pub begin-requires-clause-newest : goal.begin-requires-clause-newest
begin-requires-clause-newest c =
    let f = c.args.facts.now in
    let now = subst (λ (d : Event). IsNewest f d c.args.self.now.node.0) c.in-Began.is c.requires.newest in
    (c.in-Began.session, c.in-Began.kind, c.in-Began.instance, now)

pub begin-requires-clause-at : goal.begin-requires-clause-at
begin-requires-clause-at c =
    at_end (setup_of c.args.facts.now) (events_of c.args.facts.now) c.args.self.now.node.0 c.args.e c.requires.newest.is c.requires.newest.may (c.len-at.result - 1) c.len-at.result c.len-at.ensures
    refl

pub returns-then-has-clause-stands : goal.returns-then-has-clause-stands
returns-then-has-clause-stands c =
    let S = setup_of c.args.facts.now in
    let H = events_of c.args.facts.now in
    let n = c.args.self.now.node.0 in
    let is = c.requires.newest.is in
    let may = c.requires.newest.may in
    got_on S H n c.args.e is may c.args.self.now.ordered c.args.self.now.batches c.args.self.now.reads c.requires.stands c.in-Got.txn c.in-Got.cell c.in-Got.from c.in-Got.value c.in-Got.is
    (sym c.has.ensures.joined ∙ c.if-has.true) c.push_read.new.reads c.push_read.ensures.values

pub returns-else-has-clause-stands : goal.returns-else-has-clause-stands
returns-else-has-clause-stands c =
    let S = setup_of c.args.facts.now in
    let H = events_of c.args.facts.now in
    let n = c.args.self.now.node.0 in
    let is = c.requires.newest.is in
    let may = c.requires.newest.may in
    got_off S H n c.args.e is may c.args.self.now.ordered c.args.self.now.batches c.args.self.now.reads c.requires.stands c.in-Got.txn c.in-Got.cell c.in-Got.from c.in-Got.value c.in-Got.is
    (sym c.has.ensures.joined ∙ c.if-has.false)

pub returns-in-Done-clause-stands : goal.returns-in-Done-clause-stands
returns-in-Done-clause-stands c =
    let S = setup_of c.args.facts.now in
    let H = events_of c.args.facts.now in
    let n = c.args.self.now.node.0 in
    let is = c.requires.newest.is in
    let may = c.requires.newest.may in
    done S H n c.args.e is may c.args.self.now.ordered c.args.self.now.batches c.args.self.now.reads c.requires.stands c.in-Done.txn c.in-Done.is c.finish.new.self (c.len-at.result - 1)
    (at_end S H n c.args.e is may (c.len-at.result - 1) c.len-at.result c.len-at.ensures refl) c.finish.ensures.size c.finish.ensures.batches

pub forget_reads-requires : goal.forget_reads-requires
forget_reads-requires c =
    let S = setup_of c.args.facts.now in
    let H = events_of c.args.facts.now in
    let n = c.args.self.now.node.0 in
    let is = c.requires.newest.is in
    let may = c.requires.newest.may in
    gone_read S H n c.args.e is may c.args.self.now.ordered c.args.self.now.batches c.args.self.now.reads c.requires.stands c.in-Gone.txn c.in-Gone.cause c.in-Gone.is
    (sym c.has-in-Gone.ensures.joined ∙ c.if-has-2.true)

pub returns-after-has-2-clause-stands : goal.returns-after-has-2-clause-stands
returns-after-has-2-clause-stands c =
    let S = setup_of c.args.facts.now in
    let H = events_of c.args.facts.now in
    let n = c.args.self.now.node.0 in
    let is = c.requires.newest.is in
    let may = c.requires.newest.may in
    let was = c.args.self.now in
    let t = c.in-Gone.txn in
    let b' = c.finish-in-Gone.new.self in
    let at = c.len-at.result - 1 in
    let end = at_end S H n c.args.e is may at c.len-at.result c.len-at.ensures refl in
    let K = λ (s : Stamps). b'.size ≡ s.batches.size
    → ((S : Setup) (Q : List Event) (n : ℕ) (d : Event) → BatchesOf s.batches S Q n → MayCome Q d → Finishes t.0 d → at ≡ length Q → BatchesOf b' S (d ∷ Q) n)
    → StampsStand s.node.0 s.ordered b' s.reads S H in
    elim c.if-has-2.branch [
      | then-has-2 w ↦ subst K (sym w.self-is)
          (λ z f. gone_on S H n c.args.e is may was.ordered was.batches was.reads c.requires.stands t c.in-Gone.cause c.in-Gone.is b' at end z f w.forget_reads.new.reads w.forget_reads.ensures.values)
          c.finish-in-Gone.ensures.size c.finish-in-Gone.ensures.batches
      | else-has-2 w ↦ subst K (sym w.self-is) (λ z f. gone_off S H n c.args.e is may was.ordered was.batches was.reads c.requires.stands t c.in-Gone.cause c.in-Gone.is
          (sym c.has-in-Gone.ensures.joined ∙ w.if-has-2.false) b' at end z f)
          c.finish-in-Gone.ensures.size c.finish-in-Gone.ensures.batches
    ]

pub returns-in-Put-clause-stands : goal.returns-in-Put-clause-stands
returns-in-Put-clause-stands c =
    let S = setup_of c.args.facts.now in
    let H = events_of c.args.facts.now in
    let n = c.args.self.now.node.0 in
    let is = c.requires.newest.is in
    let may = c.requires.newest.may in
    elim c.in-Put.is [
      | inl q ↦ put S H n c.args.e is may c.args.self.now.ordered c.args.self.now.batches c.args.self.now.reads c.requires.stands q.0 q.1 q.2 q.3
      | inr o ↦ elim o [
        | inl q ↦ readied S H n c.args.e is may c.args.self.now.ordered c.args.self.now.batches c.args.self.now.reads c.requires.stands q.0 q.1
        | inr q ↦ told S H n c.args.e is may c.args.self.now.ordered c.args.self.now.batches c.args.self.now.reads c.requires.stands q.0 q.1
      ]
    ]
