use Rattle.std.proofs.Common.{◌≡◌, ◌≤◌, ◌∙◌, ap, refl, sym, subst, inl, inr, List, length, cond, eqb}
use Rattle.teb_rules.specs.declared.names.Node.{Node}
use Rattle.phase_api.specs.FactsView.{setup_of, events_of}
use Rattle.hold_book.specs.declared.Hold.{Hold}
use Rattle.access_conflicts.proofs.Noting.{accessor_begun, writer_begun, typed_now}
use Rattle.access_conflicts.specs.Blockers.{in_the_way}
use Rattle.access_conflicts.proofs.Blockers.{held_typed}
use Rattle.runtime_pipeline.specs.Predecessors.{joined, list_of}
use Rattle.runtime_pipeline.proofs.Alone.{lists_stay}
use Rattle.runtime_pipeline.proofs.Following.{lists_ascend, began_next, ready_next, end_some, end_next, access_next, access_few, is_put}
use Rattle.runtime_pipeline.proofs.predecessors.Predecessors.note.Goals as goal
use Rattle.runtime_pipeline.proofs.predecessors.Predecessors.note.Goals.{in-Put, in_default}

pub finish-requires-clause-unfinished : goal.finish-requires-clause-unfinished
finish-requires-clause-unfinished c = end_some _ _ _ c.args.e c.requires.newest.is c.requires.newest.may c.requires.orderly c.args.self.now c.requires.stands c.in-Done.txn c.in-Done.is

pub finish-requires-clause-ascending : goal.finish-requires-clause-ascending
finish-requires-clause-ascending c v = lists_ascend _ _ _ c.args.self.now c.requires.stands v

pub returns-in-Began-clause-stands : goal.returns-in-Began-clause-stands
returns-in-Began-clause-stands c =
    began_next _ _ _ c.args.e c.requires.newest.is c.requires.newest.may c.requires.orderly c.args.self.now c.requires.stands c.begin.new.self c.in-Began.txn c.in-Began.session c.in-Began.kind
    c.in-Began.instance c.in-Began.is c.begin.ensures.lists c.begin.ensures.unfinished

pub returns-in-Ready-clause-stands : goal.returns-in-Ready-clause-stands
returns-in-Ready-clause-stands c = ready_next _ _ _ c.args.e c.requires.newest.is c.requires.newest.may c.requires.orderly c.args.self.now c.requires.stands c.in-Ready.is

pub returns-in-Done-clause-stands : goal.returns-in-Done-clause-stands
returns-in-Done-clause-stands c =
    end_next _ _ _ c.args.e c.requires.newest.is c.requires.newest.may c.requires.orderly c.args.self.now c.requires.stands c.finish.new.self c.in-Done.txn c.in-Done.is c.finish.ensures.unfinished
    c.finish.ensures.lists

pub access-requires-clause-few : goal.access-requires-clause-few
access-requires-clause-few c =
    subst (λ (hs : List Hold). length hs ≤ c.args.self.now.unfinished) (sym c.holds-holds.ensures)
    (access_few _ _ _ c.args.e c.requires.newest.is c.requires.newest.may c.requires.orderly c.args.self.now c.requires.stands c.in-Got.txn c.in-Got.cell c.in-Got.is)

pub access-requires-clause-ascending : goal.access-requires-clause-ascending
access-requires-clause-ascending c = lists_ascend _ _ _ c.args.self.now c.requires.stands c.in-Got.txn

pub access-requires-clause-typed : goal.access-requires-clause-typed
access-requires-clause-typed c =
    typed_now c.args.facts.now c.in-Got.txn.0 c.requires.register.book.orderly
    (elim c.in-Got.is [
      | inl q ↦ accessor_begun _ _ _ c.args.e c.requires.newest.is c.requires.newest.may c.in-Got.txn c.in-Got.cell q
      | inr q ↦ writer_begun _ _ _ c.args.e c.requires.newest.is c.requires.newest.may c.in-Got.txn c.in-Got.cell q
    ])

pub access-requires-clause-holders : goal.access-requires-clause-holders
access-requires-clause-holders c i d l =
    held_typed c.args.facts.now _ c.in-Got.cell c.holds-holds.result.now i d c.requires.register.book.orderly c.holds-holds.ensures l

pub returns-after-matches-clause-stands : goal.returns-after-matches-clause-stands
returns-after-matches-clause-stands c =
    let S = setup_of c.args.facts.now in
    let H = events_of c.args.facts.now in
    let t = c.in-Got.txn in
    let k = c.args.self.now in
    let write : c.match-matches.matches ≡ is_put c.args.e = elim c.match-matches.branch [
      | in-Put w ↦ w.matches-is ∙ sym (ap is_put w.in-Put.is) ∙ ap is_put c.in-Got.e-is
      | in_default w ↦ w.matches-is ∙ sym (elim c.in-Got.is [
        | inl q ↦ ap is_put q.2
        | inr q ↦ absurd (w.in_default.not-Put t c.in-Got.cell q.0 (c.in-Got.e-is ∙ q.1))
      ])
    ] in
    access_next S H _ c.args.e c.requires.newest.is c.requires.newest.may c.requires.orderly k c.requires.stands t c.in-Got.cell c.access.new.self c.in-Got.is c.access.ensures.unfinished
    (λ v. c.access.ensures.lists v ∙ (λ j. cond (eqb t.0 v.0) (joined (in_the_way S H (ap (λ (m : Node). m.0) c.node.ensures j) t.0 (write j)) (c.holds-holds.ensures j) (list_of k v)) (list_of k v)))

pub returns-else-not-is_alone-clause-stands : goal.returns-else-not-is_alone-clause-stands
returns-else-not-is_alone-clause-stands c =
    let S = setup_of c.args.facts.now in
    let H = events_of c.args.facts.now in
    let n = c.args.register.now.node.0 in
    let t = c.in-Got.txn in
    let k = c.args.self.now in
    let write = is_put c.args.e in
    access_next S H n c.args.e c.requires.newest.is c.requires.newest.may c.requires.orderly k c.requires.stands t c.in-Got.cell k c.in-Got.is refl
    (λ v. lists_stay S H n t v write c.holds-holds.result.now (c.is_alone.ensures c.if-not-is_alone.false) (list_of k v)
    ∙ ap (λ (hs : List Hold). cond (eqb t.0 v.0) (joined (in_the_way S H n t.0 write) hs (list_of k v)) (list_of k v)) c.holds-holds.ensures)
