use Rattle.std.proofs.Common.{◌≡◌, ◌∙◌, Bool, List, sym, refl, ap, inl, inr}
use Rattle.teb_rules.specs.Tree.{on}
use Rattle.phase_api.specs.FactsView.{setup_of, events_of}
use Rattle.access_conflicts.specs.Registered.{is_here, puts}
use Rattle.access_conflicts.proofs.Noting.{orderly_now, got_on, got_off, put_on, put_off, finished_on, finished_off, began, readied, told, typed_now}
use Rattle.access_conflicts.proofs.Here.{begins, here_now, told_access, here_access, told_end, here_end, here_anew, began_typed}
use Rattle.access_conflicts.proofs.hold_register.HoldRegister.note.Goals as goal

pub begin-requires-clause-typed : goal.begin-requires-clause-typed
begin-requires-clause-typed c =
    let H = events_of c.args.facts.now in
    let S = setup_of c.args.facts.now in
    typed_now c.args.facts.now c.in-Began.txn.0 (orderly_now S H _ c.args.e c.requires.newest.is c.requires.newest.may c.requires.stands.book.orderly)
    (began_typed S H _ c.args.e c.requires.newest.is c.requires.newest.may c.args.self.now.here.items c.requires.stands.book.orderly c.requires.stands.here c.in-Began.txn c.in-Began.session
    c.in-Began.kind c.in-Began.instance c.in-Began.is)

pub returns-in-Began-clause-stands : goal.returns-in-Began-clause-stands
returns-in-Began-clause-stands c = record {
  book = rw (c.begin.ensures.node, c.begin.ensures.book)
      (began _ _ _ c.args.e c.requires.newest.is c.requires.newest.may c.args.self.now.book c.requires.stands.book c.in-Began.txn c.in-Began.session c.in-Began.kind c.in-Began.instance c.in-Began.is);
  here = rw c.begin.ensures.node (here_anew _ _ _ c.args.e c.requires.newest.is c.requires.newest.may c.args.self.now.here.items c.requires.stands.book.orderly c.requires.stands.here _
      c.in-Began.txn c.in-Began.session c.in-Began.kind c.in-Began.instance _ c.in-Began.is refl c.begin.ensures.here);
}

pub returns-then-is_here-2-clause-stands : goal.returns-then-is_here-2-clause-stands
returns-then-is_here-2-clause-stands c =
    let t = c.in-Got.txn in
    let told_here : is_here c.args.self.now.here.items t.0 ≡ on (setup_of c.args.facts.now) (events_of c.args.facts.now) c.args.self.now.node.0 t.0 = told_access _ _ _ c.args.e c.requires.newest.is
    c.requires.newest.may c.args.self.now.here.items c.requires.stands.book.orderly c.requires.stands.here t c.in-Got.cell c.in-Got.is in
    let on_path = sym told_here ∙ sym (c.is_here-in-Got.ensures ∙ ap (λ (l : List Bool). is_here l t.0) c.deref-in-Got.ensures.value) ∙ c.if-is_here-2.true in
    record {
      book = elim c.in-Got.is [
        | inl q ↦ got_on _ _ _ c.args.e c.requires.newest.is c.requires.newest.may _ c.requires.stands.book _ t c.in-Got.cell q.0 q.1 q.2 on_path
            (λ m h. c.access.ensures.got _ _ _ q.0 q.1 (c.is_put.ensures ∙ ap puts (c.in-Got.e-is ∙ q.2)) m h)
        | inr q ↦ put_on _ _ _ c.args.e c.requires.newest.is c.requires.newest.may _ c.requires.stands.book _ t c.in-Got.cell q.0 q.1 on_path
            (λ m h. c.access.ensures.put _ _ _ q.0 (c.is_put.ensures ∙ ap puts (c.in-Got.e-is ∙ q.1)) m h)
      ];
      here = here_access _ _ _ c.args.e c.requires.newest.is c.requires.newest.may c.args.self.now.here.items c.requires.stands.book.orderly c.requires.stands.here t c.in-Got.cell c.in-Got.is;
    }

pub returns-else-is_here-2-clause-stands : goal.returns-else-is_here-2-clause-stands
returns-else-is_here-2-clause-stands c =
    let t = c.in-Got.txn in
    let told_here : is_here c.args.self.now.here.items t.0 ≡ on (setup_of c.args.facts.now) (events_of c.args.facts.now) c.args.self.now.node.0 t.0 = told_access _ _ _ c.args.e c.requires.newest.is
    c.requires.newest.may c.args.self.now.here.items c.requires.stands.book.orderly c.requires.stands.here t c.in-Got.cell c.in-Got.is in
    let off_path = sym told_here ∙ sym (c.is_here-in-Got.ensures ∙ ap (λ (l : List Bool). is_here l t.0) c.deref-in-Got.ensures.value) ∙ c.if-is_here-2.false in
    record {
      book = elim c.in-Got.is [
        | inl q ↦ got_off _ _ _ c.args.e c.requires.newest.is c.requires.newest.may _ c.requires.stands.book t c.in-Got.cell q.0 q.1 q.2 off_path
        | inr q ↦ put_off _ _ _ c.args.e c.requires.newest.is c.requires.newest.may _ c.requires.stands.book t c.in-Got.cell q.0 q.1 off_path
      ];
      here = here_access _ _ _ c.args.e c.requires.newest.is c.requires.newest.may c.args.self.now.here.items c.requires.stands.book.orderly c.requires.stands.here t c.in-Got.cell c.in-Got.is;
    }

pub returns-in-Ready-clause-stands : goal.returns-in-Ready-clause-stands
returns-in-Ready-clause-stands c = elim c.in-Ready.is [
  | inl q ↦ record {
    book = readied _ _ _ c.args.e c.requires.newest.is c.requires.newest.may _ c.requires.stands.book q.0 q.1;
    here = here_now _ _ _ c.args.e c.requires.newest.is c.requires.newest.may c.args.self.now.here.items c.requires.stands.book.orderly c.requires.stands.here (ap begins q.1);
  }
  | inr q ↦ record {
    book = told _ _ _ c.args.e c.requires.newest.is c.requires.newest.may _ c.requires.stands.book q.0 q.1;
    here = here_now _ _ _ c.args.e c.requires.newest.is c.requires.newest.may c.args.self.now.here.items c.requires.stands.book.orderly c.requires.stands.here (ap begins q.1);
  }
]

pub returns-then-is_here-clause-stands : goal.returns-then-is_here-clause-stands
returns-then-is_here-clause-stands c = record {
  book = finished_on _ _ _ c.args.e c.requires.newest.is c.requires.newest.may _ c.requires.stands.book _ c.in-Done.txn c.in-Done.is c.release_all.ensures.shown;
  here = here_end _ _ _ c.args.e c.requires.newest.is c.requires.newest.may c.args.self.now.here.items c.requires.stands.book.orderly c.requires.stands.here c.in-Done.txn c.in-Done.is;
}

pub returns-else-is_here-clause-stands : goal.returns-else-is_here-clause-stands
returns-else-is_here-clause-stands c =
    let told_here : is_here c.args.self.now.here.items c.in-Done.txn.0 ≡ on (setup_of c.args.facts.now) (events_of c.args.facts.now) c.args.self.now.node.0 c.in-Done.txn.0 =
    told_end _ _ _ c.args.e c.requires.newest.is c.requires.newest.may c.args.self.now.here.items c.requires.stands.book.orderly c.requires.stands.here c.in-Done.txn c.in-Done.is in
    record {
      book = finished_off _ _ _ c.args.e c.requires.newest.is c.requires.newest.may _ c.requires.stands.book c.in-Done.txn c.in-Done.is
          (sym told_here ∙ sym (c.is_here.ensures ∙ ap (λ (l : List Bool). is_here l c.in-Done.txn.0) c.deref.ensures.value) ∙ c.if-is_here.false);
      here = here_end _ _ _ c.args.e c.requires.newest.is c.requires.newest.may c.args.self.now.here.items c.requires.stands.book.orderly c.requires.stands.here c.in-Done.txn c.in-Done.is;
    }
