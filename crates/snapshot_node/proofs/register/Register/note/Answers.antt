use Rattle.std.proofs.Common.{◌≡◌, ◌∙◌, ◌∷◌, ◌-◌, List, refl, sym, ap, subst, arith, drop, length, inl, inr}
use Rattle.teb_rules.specs.declared.history.Event.{Event}
use Rattle.phase_api.specs.FactsView.{setup_of, events_of}
use Rattle.phase_api.specs.Calls.{IsNewest, MayNote}
use Rattle.snapshot_node.specs.Standing.{SnapshotStand}
use Rattle.snapshot_node.specs.Committed.{CommittedStand}
use Rattle.snapshot_node.proofs.Noting.{here, numbered, newest_place, noted_put, noted_put_off, noted_done, noted_gone, noted_got, noted_got_off, noted_ready, noted_told}
use Rattle.snapshot_node.proofs.Committing.{committed_got, committed_put, committed_put_off, committed_ready, committed_told, committed_done, committed_gone, ended_puts}
use Rattle.snapshot_node.proofs.register.Register.note.Goals as goal

pub begin-requires-clause-newest : goal.begin-requires-clause-newest
begin-requires-clause-newest c =
    let now = subst (λ (d : Event). IsNewest c.args.facts.now d c.args.self.now.node.0) c.in-Began.is c.requires.newest in
    (c.in-Began.session, c.in-Began.kind, c.in-Began.instance, now)

pub begin-requires-clause-at : goal.begin-requires-clause-at
begin-requires-clause-at c =
    let z = newest_place (events_of c.args.facts.now) c.args.e c.requires.newest.is in
    omega (arith, c.len-at.ensures, z)

pub read-requires-clause-first : goal.read-requires-clause-first
read-requires-clause-first c =
    let S = setup_of c.args.facts.now in
    let P = drop 1 (events_of c.args.facts.now) in
    let was = c.args.self.now in
    let n = was.node.0 in
    let m = subst (λ (d : Event). MayNote S P n d) c.in-Got.is c.requires.newest.may in
    (numbered S P n was.batches was.accesses c.requires.stands c.in-Got.txn.0 m.0).0

pub read-requires-clause-begun : goal.read-requires-clause-begun
read-requires-clause-begun c =
    let S = setup_of c.args.facts.now in
    let P = drop 1 (events_of c.args.facts.now) in
    let was = c.args.self.now in
    let n = was.node.0 in
    let m = subst (λ (d : Event). MayNote S P n d) c.in-Got.is c.requires.newest.may in
    (numbered S P n was.batches was.accesses c.requires.stands c.in-Got.txn.0 m.0).1

pub put-requires-clause-first : goal.put-requires-clause-first
put-requires-clause-first c =
    let S = setup_of c.args.facts.now in
    let P = drop 1 (events_of c.args.facts.now) in
    let was = c.args.self.now in
    let n = was.node.0 in
    let m = subst (λ (d : Event). MayNote S P n d) c.in-Put.is c.requires.newest.may in
    (numbered S P n was.batches was.accesses c.requires.stands c.in-Put.txn.0 m.0).0

pub put-requires-clause-begun : goal.put-requires-clause-begun
put-requires-clause-begun c =
    let S = setup_of c.args.facts.now in
    let P = drop 1 (events_of c.args.facts.now) in
    let was = c.args.self.now in
    let n = was.node.0 in
    let m = subst (λ (d : Event). MayNote S P n d) c.in-Put.is c.requires.newest.may in
    (numbered S P n was.batches was.accesses c.requires.stands c.in-Put.txn.0 m.0).1

pub commit-requires-clause-first : goal.commit-requires-clause-first
commit-requires-clause-first c =
    let S = setup_of c.args.facts.now in
    let P = drop 1 (events_of c.args.facts.now) in
    let was = c.args.self.now in
    let n = was.node.0 in
    let m = subst (λ (d : Event). MayNote S P n d) c.in-Done.is c.requires.newest.may in
    (numbered S P n was.batches was.accesses c.requires.stands c.in-Done.txn.0 m).0

pub commit-requires-clause-begun : goal.commit-requires-clause-begun
commit-requires-clause-begun c =
    let S = setup_of c.args.facts.now in
    let P = drop 1 (events_of c.args.facts.now) in
    let was = c.args.self.now in
    let n = was.node.0 in
    let m = subst (λ (d : Event). MayNote S P n d) c.in-Done.is c.requires.newest.may in
    (numbered S P n was.batches was.accesses c.requires.stands c.in-Done.txn.0 m).1

pub commit-requires-clause-puts : goal.commit-requires-clause-puts
commit-requires-clause-puts c =
    let S = setup_of c.args.facts.now in
    let P = drop 1 (events_of c.args.facts.now) in
    let was = c.args.self.now in
    let n = was.node.0 in
    let m = subst (λ (d : Event). MayNote S P n d) c.in-Done.is c.requires.newest.may in
    ended_puts S P n was.accesses c.requires.committed c.in-Done.txn m (c.requires.stands.touched c.in-Done.txn.0)

pub abort-requires-clause-first : goal.abort-requires-clause-first
abort-requires-clause-first c =
    let S = setup_of c.args.facts.now in
    let P = drop 1 (events_of c.args.facts.now) in
    let was = c.args.self.now in
    let n = was.node.0 in
    let m = subst (λ (d : Event). MayNote S P n d) c.in-Gone.is c.requires.newest.may in
    (numbered S P n was.batches was.accesses c.requires.stands c.in-Gone.txn.0 m).0

pub abort-requires-clause-begun : goal.abort-requires-clause-begun
abort-requires-clause-begun c =
    let S = setup_of c.args.facts.now in
    let P = drop 1 (events_of c.args.facts.now) in
    let was = c.args.self.now in
    let n = was.node.0 in
    let m = subst (λ (d : Event). MayNote S P n d) c.in-Gone.is c.requires.newest.may in
    (numbered S P n was.batches was.accesses c.requires.stands c.in-Gone.txn.0 m).1

pub abort-requires-clause-puts : goal.abort-requires-clause-puts
abort-requires-clause-puts c =
    let S = setup_of c.args.facts.now in
    let P = drop 1 (events_of c.args.facts.now) in
    let was = c.args.self.now in
    let n = was.node.0 in
    let m = subst (λ (d : Event). MayNote S P n d) c.in-Gone.is c.requires.newest.may in
    ended_puts S P n was.accesses c.requires.committed c.in-Gone.txn m (c.requires.stands.touched c.in-Gone.txn.0)

pub returns-then-has-clause-stands : goal.returns-then-has-clause-stands
returns-then-has-clause-stands c =
    let S = setup_of c.args.facts.now in
    let P = drop 1 (events_of c.args.facts.now) in
    let was = c.args.self.now in
    let n = was.node.0 in
    let m = subst (λ (d : Event). MayNote S P n d) c.in-Got.is c.requires.newest.may in
    let now = c.read.ensures in
    subst (λ (G : List Event). SnapshotStand n was.batches c.read.new.self S G) (sym (c.requires.newest.is ∙ ap (λ (d : Event). d ∷ P) c.in-Got.is))
    (noted_got S P n was.batches was.accesses c.requires.stands c.in-Got.txn c.in-Got.cell c.in-Got.from c.in-Got.value m c.read.new.self (sym c.has.ensures.joined ∙ c.if-has.true) now.filed
    now.readers now.writers now.begun now.touched)

pub returns-else-has-clause-stands : goal.returns-else-has-clause-stands
returns-else-has-clause-stands c =
    let S = setup_of c.args.facts.now in
    let P = drop 1 (events_of c.args.facts.now) in
    let was = c.args.self.now in
    let n = was.node.0 in
    let m = subst (λ (d : Event). MayNote S P n d) c.in-Got.is c.requires.newest.may in
    subst (λ (G : List Event). SnapshotStand n was.batches was.accesses S G) (sym (c.requires.newest.is ∙ ap (λ (d : Event). d ∷ P) c.in-Got.is))
    (noted_got_off S P n was.batches was.accesses c.requires.stands c.in-Got.txn c.in-Got.cell c.in-Got.from c.in-Got.value m (sym c.has.ensures.joined ∙ c.if-has.false))

pub returns-then-has-2-clause-stands : goal.returns-then-has-2-clause-stands
returns-then-has-2-clause-stands c =
    let S = setup_of c.args.facts.now in
    let P = drop 1 (events_of c.args.facts.now) in
    let was = c.args.self.now in
    let n = was.node.0 in
    let m = subst (λ (d : Event). MayNote S P n d) c.in-Put.is c.requires.newest.may in
    let now = c.put.ensures in
    subst (λ (G : List Event). SnapshotStand n was.batches c.put.new.self S G) (sym (c.requires.newest.is ∙ ap (λ (d : Event). d ∷ P) c.in-Put.is))
    (noted_put S P n was.batches was.accesses c.requires.stands c.in-Put.txn c.in-Put.cell c.in-Put.value m c.put.new.self (sym c.has-in-Put.ensures.joined ∙ c.if-has-2.true) now.filed now.readers
    now.writers now.begun now.touched)

pub returns-else-has-2-clause-stands : goal.returns-else-has-2-clause-stands
returns-else-has-2-clause-stands c =
    let S = setup_of c.args.facts.now in
    let P = drop 1 (events_of c.args.facts.now) in
    let was = c.args.self.now in
    let n = was.node.0 in
    let m = subst (λ (d : Event). MayNote S P n d) c.in-Put.is c.requires.newest.may in
    subst (λ (G : List Event). SnapshotStand n was.batches was.accesses S G) (sym (c.requires.newest.is ∙ ap (λ (d : Event). d ∷ P) c.in-Put.is))
    (noted_put_off S P n was.batches was.accesses c.requires.stands c.in-Put.txn c.in-Put.cell c.in-Put.value m (sym c.has-in-Put.ensures.joined ∙ c.if-has-2.false))

pub returns-in-Done-clause-stands : goal.returns-in-Done-clause-stands
returns-in-Done-clause-stands c =
    let S = setup_of c.args.facts.now in
    let P = drop 1 (events_of c.args.facts.now) in
    let was = c.args.self.now in
    let n = was.node.0 in
    let m = subst (λ (d : Event). MayNote S P n d) c.in-Done.is c.requires.newest.may in
    let z = newest_place (events_of c.args.facts.now) c.args.e c.requires.newest.is in
    let l : c.len-at.result - 1 ≡ length P = omega (arith, c.len-at.ensures, z) in
    let now = c.commit.ensures in
    subst (λ (G : List Event). SnapshotStand n c.finish.new.self c.commit.new.self S G) (sym (c.requires.newest.is ∙ ap (λ (d : Event). d ∷ P) c.in-Done.is))
    (noted_done S P n was.batches was.accesses c.requires.stands c.in-Done.txn c.finish.new.self (c.len-at.result - 1) l c.finish.ensures.size c.finish.ensures.batches c.commit.new.self now.filed
    now.begun now.touched m now.readers now.writers)

pub returns-in-Gone-clause-stands : goal.returns-in-Gone-clause-stands
returns-in-Gone-clause-stands c =
    let S = setup_of c.args.facts.now in
    let P = drop 1 (events_of c.args.facts.now) in
    let was = c.args.self.now in
    let n = was.node.0 in
    let m = subst (λ (d : Event). MayNote S P n d) c.in-Gone.is c.requires.newest.may in
    let z = newest_place (events_of c.args.facts.now) c.args.e c.requires.newest.is in
    let l : c.len-at.result - 1 ≡ length P = omega (arith, c.len-at.ensures, z) in
    let now = c.abort.ensures in
    subst (λ (G : List Event). SnapshotStand n c.finish-in-Gone.new.self c.abort.new.self S G) (sym (c.requires.newest.is ∙ ap (λ (d : Event). d ∷ P) c.in-Gone.is))
    (noted_gone S P n was.batches was.accesses c.requires.stands c.in-Gone.txn c.finish-in-Gone.new.self (c.len-at.result - 1) l c.finish-in-Gone.ensures.size c.finish-in-Gone.ensures.batches
    c.abort.new.self now.filed now.begun now.touched c.in-Gone.cause m now.readers now.writers)

pub returns-in-Ready-clause-stands : goal.returns-in-Ready-clause-stands
returns-in-Ready-clause-stands c =
    let S = setup_of c.args.facts.now in
    let P = drop 1 (events_of c.args.facts.now) in
    let was = c.args.self.now in
    let n = was.node.0 in
    let now = λ (d : Event) (q : c.args.e ≡ d) (k : SnapshotStand n was.batches was.accesses S (d ∷ P)). subst (λ (G : List Event). SnapshotStand n was.batches was.accesses S G)
    (sym (c.requires.newest.is ∙ ap (λ (d : Event). d ∷ P) q)) k in
    let may = λ (d : Event) (q : c.args.e ≡ d). subst (λ (d : Event). MayNote S P n d) q c.requires.newest.may in
    elim c.in-Ready.is [
      | inl q ↦ now _ q.1 (noted_ready S P n was.batches was.accesses c.requires.stands q.0 (may _ q.1))
      | inr q ↦ now _ q.1 (noted_told S P n was.batches was.accesses c.requires.stands q.0 (may _ q.1))
    ]

pub returns-then-has-clause-committed : goal.returns-then-has-clause-committed
returns-then-has-clause-committed c =
    let S = setup_of c.args.facts.now in
    let P = drop 1 (events_of c.args.facts.now) in
    let was = c.args.self.now in
    let n = was.node.0 in
    subst (λ (G : List Event). CommittedStand n c.read.new.self S G) (sym (c.requires.newest.is ∙ ap (λ (d : Event). d ∷ P) c.in-Got.is))
    (committed_got S P n was.accesses c.requires.committed c.read.new.self c.read.ensures.committed c.read.ensures.pending c.in-Got.txn c.in-Got.cell c.in-Got.from c.in-Got.value)

pub returns-else-has-clause-committed : goal.returns-else-has-clause-committed
returns-else-has-clause-committed c =
    let S = setup_of c.args.facts.now in
    let P = drop 1 (events_of c.args.facts.now) in
    let was = c.args.self.now in
    let n = was.node.0 in
    subst (λ (G : List Event). CommittedStand n was.accesses S G) (sym (c.requires.newest.is ∙ ap (λ (d : Event). d ∷ P) c.in-Got.is))
    (committed_got S P n was.accesses c.requires.committed was.accesses (λ x. refl) refl c.in-Got.txn c.in-Got.cell c.in-Got.from c.in-Got.value)

pub returns-then-has-2-clause-committed : goal.returns-then-has-2-clause-committed
returns-then-has-2-clause-committed c =
    let S = setup_of c.args.facts.now in
    let P = drop 1 (events_of c.args.facts.now) in
    let was = c.args.self.now in
    let n = was.node.0 in
    let m = subst (λ (d : Event). MayNote S P n d) c.in-Put.is c.requires.newest.may in
    subst (λ (G : List Event). CommittedStand n c.put.new.self S G) (sym (c.requires.newest.is ∙ ap (λ (d : Event). d ∷ P) c.in-Put.is))
    (committed_put S P n was.accesses c.requires.committed c.in-Put.txn c.in-Put.cell c.in-Put.value m.0 c.put.new.self (here S P n was.batches was.accesses c.requires.stands c.in-Put.txn.0 m.0
    ∙ sym c.has-in-Put.ensures.joined ∙ c.if-has-2.true) c.put.ensures.committed c.put.ensures.pending)

pub returns-else-has-2-clause-committed : goal.returns-else-has-2-clause-committed
returns-else-has-2-clause-committed c =
    let S = setup_of c.args.facts.now in
    let P = drop 1 (events_of c.args.facts.now) in
    let was = c.args.self.now in
    let n = was.node.0 in
    let m = subst (λ (d : Event). MayNote S P n d) c.in-Put.is c.requires.newest.may in
    subst (λ (G : List Event). CommittedStand n was.accesses S G) (sym (c.requires.newest.is ∙ ap (λ (d : Event). d ∷ P) c.in-Put.is))
    (committed_put_off S P n was.accesses c.requires.committed c.in-Put.txn c.in-Put.cell c.in-Put.value m.0 (here S P n was.batches was.accesses c.requires.stands c.in-Put.txn.0 m.0
    ∙ sym c.has-in-Put.ensures.joined ∙ c.if-has-2.false))

pub returns-in-Done-clause-committed : goal.returns-in-Done-clause-committed
returns-in-Done-clause-committed c =
    let S = setup_of c.args.facts.now in
    let P = drop 1 (events_of c.args.facts.now) in
    let was = c.args.self.now in
    let n = was.node.0 in
    let m = subst (λ (d : Event). MayNote S P n d) c.in-Done.is c.requires.newest.may in
    subst (λ (G : List Event). CommittedStand n c.commit.new.self S G) (sym (c.requires.newest.is ∙ ap (λ (d : Event). d ∷ P) c.in-Done.is))
    (committed_done S P n was.accesses c.requires.committed c.in-Done.txn m (c.requires.stands.touched c.in-Done.txn.0) c.commit.new.self c.commit.ensures.committed c.commit.ensures.pending)

pub returns-in-Gone-clause-committed : goal.returns-in-Gone-clause-committed
returns-in-Gone-clause-committed c =
    let S = setup_of c.args.facts.now in
    let P = drop 1 (events_of c.args.facts.now) in
    let was = c.args.self.now in
    let n = was.node.0 in
    let m = subst (λ (d : Event). MayNote S P n d) c.in-Gone.is c.requires.newest.may in
    subst (λ (G : List Event). CommittedStand n c.abort.new.self S G) (sym (c.requires.newest.is ∙ ap (λ (d : Event). d ∷ P) c.in-Gone.is))
    (committed_gone S P n was.accesses c.requires.committed c.in-Gone.txn m (c.requires.stands.touched c.in-Gone.txn.0) c.abort.new.self c.in-Gone.cause c.abort.ensures.committed
    c.abort.ensures.pending)

pub returns-in-Ready-clause-committed : goal.returns-in-Ready-clause-committed
returns-in-Ready-clause-committed c =
    let S = setup_of c.args.facts.now in
    let P = drop 1 (events_of c.args.facts.now) in
    let was = c.args.self.now in
    let n = was.node.0 in
    let now = λ (d : Event) (q : c.args.e ≡ d) (k : CommittedStand n was.accesses S (d ∷ P)). subst (λ (G : List Event). CommittedStand n was.accesses S G)
    (sym (c.requires.newest.is ∙ ap (λ (d : Event). d ∷ P) q)) k in
    elim c.in-Ready.is [
      | inl q ↦ now _ q.1 (committed_ready S P n was.accesses c.requires.committed q.0)
      | inr q ↦ now _ q.1 (committed_told S P n was.accesses c.requires.committed q.0)
    ]
