use Rattle.std.proofs.Common.{◌≡◌, ◌∙◌, ap, sym, subst, refl, List, ℕ}
use Rattle.teb_rules.specs.declared.names.Node.{Node}
use Rattle.teb_rules.specs.declared.names.Kind.{Kind}
use Rattle.teb_rules.specs.history.Phases.{kind_of}
use Rattle.teb_rules.specs.Setup.{profile}
use Rattle.phase_api.specs.FactsView.{setup_of, events_of}
use Rattle.cursor_book.specs.Cursors.{CursorsOf}
use Rattle.runtime_pipeline.proofs.Noting.{began_cursors, accessor_cursor, accessor_begun, kind_there, accessed_cursors, left_cursors, kind_is, profile_is, stands_next}
use Rattle.runtime_pipeline.proofs.pipeline.PipelineControl.note.Goals as goal

pub access-requires-clause-begun : goal.access-requires-clause-begun
access-requires-clause-begun c = (accessor_cursor _ _ _ c.args.e c.requires.newest.is c.requires.newest.may c.requires.stands.register.book.orderly _ c.requires.stands.cursors c.in-Got.txn
    c.in-Got.cell c.in-Got.is).1

pub returns-in-Began-clause-stands : goal.returns-in-Began-clause-stands
returns-in-Began-clause-stands c =
    let k = began_cursors _ _ _ c.args.e c.requires.newest.is c.requires.newest.may c.requires.stands.register.book.orderly _ c.requires.stands.cursors c.in-Began.txn c.in-Began.session
    c.in-Began.kind c.in-Began.instance c.in-Began.is in
    stands_next _ _ _ _ _ (ap (λ (m : Node). m.0) c.note.ensures.node) refl c.requires.stands c.note.ensures.stands
    (subst (λ (cs : List ℕ). CursorsOf cs (setup_of c.args.facts.now) (events_of c.args.facts.now)) (sym c.begin.ensures.cursors) k) c.note-2.ensures.stands

pub returns-in-Ready-clause-stands : goal.returns-in-Ready-clause-stands
returns-in-Ready-clause-stands c =
    stands_next _ _ _ _ _ (ap (λ (m : Node). m.0) c.note.ensures.node) refl c.requires.stands c.note.ensures.stands
    (left_cursors _ _ _ c.args.e c.requires.newest.is c.requires.newest.may c.requires.stands.register.book.orderly _ c.requires.stands.cursors c.in-Ready.is) c.note-2.ensures.stands

pub returns-in-Some-clause-stands : goal.returns-in-Some-clause-stands
returns-in-Some-clause-stands c =
    let S = setup_of c.args.facts.now in
    let H = events_of c.args.facts.now in
    let t = c.in-Got.txn.0 in
    let b = accessor_begun S H _ c.args.e c.requires.newest.is c.requires.newest.may c.requires.stands.register.book.orderly _ c.requires.stands.cursors c.in-Got.txn c.in-Got.cell c.in-Got.is in
    let at : c.from.result ≡ kind_of H t = c.from.ensures ∙ ap (λ (k : Kind). k.0) (kind_is H t c.in-Some.kind b (sym c.in-Some.is ∙ c.kind.ensures)) in
    let steps : c.index-facts-from.result ≡ profile S (kind_of H t) = profile_is S (kind_of H t) c.from.result c.index-facts-from.result c.requires.stands.profiled
    (c.note.ensures.stands.book.orderly.typed t b) at c.index-facts-from.is in
    let k = accessed_cursors S H _ c.args.e c.requires.newest.is c.requires.newest.may c.requires.stands.register.book.orderly _ c.requires.stands.cursors c.in-Got.txn c.in-Got.cell _ c.in-Got.is
    (sym c.index-facts-from.is ∙ steps) in
    stands_next _ _ _ _ _ (ap (λ (m : Node). m.0) c.note.ensures.node) refl c.requires.stands c.note.ensures.stands
    (subst (λ (cs : List ℕ). CursorsOf cs S H) (sym c.access.ensures.cursors) k) c.note-2.ensures.stands

pub returns-in_default-clause-stands : goal.returns-in_default-clause-stands
returns-in_default-clause-stands c =
    let S = setup_of c.args.facts.now in
    let H = events_of c.args.facts.now in
    let b = accessor_begun S H _ c.args.e c.requires.newest.is c.requires.newest.may c.requires.stands.register.book.orderly _ c.requires.stands.cursors c.in-Got.txn c.in-Got.cell c.in-Got.is in
    absurd (c.in_default.not-Some _ (c.kind.ensures ∙ kind_there H c.in-Got.txn.0 b))
