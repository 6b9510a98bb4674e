use Rattle.std.proofs.Common.{◌≡◌, ◌∙◌, ◌∷◌, ◌++◌, [], ℕ, true, false, List, Some, sym, ap, subst, drop, take, length, arith}
use Rattle.std.proofs.Math.Seq.{take-append_seam}
use Rattle.teb_rules.specs.declared.names.Node.{Node}
use Rattle.teb_rules.specs.declared.names.Txn.{Txn}
use Rattle.teb_rules.specs.declared.history.Event.{Event}
use Rattle.teb_rules.specs.history.Phases.{begun}
use Rattle.teb_rules.specs.Tree.{on}
use Rattle.access_conflicts.proofs.Noting.{typed_now}
use Rattle.batch_book.proofs.Telling.{joined_began, on_joined}
use Rattle.phase_api.specs.FactsView.{setup_of, events_of}
use Rattle.teb_rules.specs.laws.Pivots.{IsSettled}
use Rattle.snapshot_node.specs.declared.marks.Mark.{Mark}
use Rattle.snapshot_node.specs.Marks.{no_mark, HaveGrown, MarkedStand}
use Rattle.snapshot_node.proofs.Grown.{grown_none}
use Rattle.snapshot_node.proofs.Marked.{validated_begun, marked_noted, settled_stands, stake_settled, tells_off, TellsOf}
use Rattle.snapshot_node.proofs.snapshot.SnapshotControl.note.Goals as goal

pub mark_edges-requires-clause-here : goal.mark_edges-requires-clause-here
mark_edges-requires-clause-here c =
    let f = c.args.facts.now in
    let t = c.in-Some.t.0 in
    let joined = joined_began c.note.new.self.batches (setup_of f) (events_of f) c.note.new.self.node.0 t c.note.ensures.stands.batches (sym c.has.ensures.joined ∙ c.if-has.true) in
    record { typed = typed_now f t c.note.ensures.stands.orderly joined.0; on = joined.1 }

pub returns-then-has-clause-stands : goal.returns-then-has-clause-stands
returns-then-has-clause-stands c =
    let f = c.args.facts.now in
    let S = setup_of f in
    let H = events_of f in
    let m = c.note.new.self.node.0 in
    let old = c.args.self.now.marks.items in
    let pushed = c.push.new.self.items in
    let same : m ≡ c.args.self.now.register.node.0 = ap (λ (k : Node). k.0) c.note.ensures.node in
    let push : pushed ≡ old ++ no_mark ∷ [] = rw (c.push.ensures.succeeds (omega arith)) at c.push.ensures.items in
    let ms = c.mark_edges.new.marks in
    let grown = subst (λ (xs : List Mark). HaveGrown xs ms) c.deref_mut.ensures.value c.mark_edges.ensures.grown in
    let long : c.push.new.self.len ≡ length ms = sym (c.mark_edges.ensures.grown.long ∙ c.deref_mut.ensures.len) in
    let whole = ap (λ (l : ℕ). take l (ms ++ drop (length ms) pushed)) long ∙ take-append_seam ms (drop (length ms) pushed) in
    subst (λ (xs : List Mark). MarkedStand m c.note.new.self.batches c.note.new.self.accesses xs S H) (sym whole) (record {
      register = c.note.ensures.stands;
      committed = c.note.ensures.committed;
      marked = marked_noted S H c.args.e (drop 1 H) c.requires.newest.is m c.args.self.now.register.node.0 same old pushed ms no_mark push grown c.requires.stands.marked
          (λ t q l u a b. let z : Some c.in-Some.t ≡ Some t = sym (sym c.validated.ensures ∙ c.in-Some.is) ∙ q in
          let is : c.in-Some.t ≡ t = cc in
          let st = stake_settled H c.in-Some.t.0 u b in
          subst (λ (s : Txn). TellsOf S H m ms s.0 u) is (
            (λ p. c.mark_edges.ensures.ahead (record { lawful = l; runs = settled_stands S H c.in-Some.t.0 l (subst (λ (s : Txn). IsSettled H s.0) (sym is) a) }) u st p),
            (λ p. c.mark_edges.ensures.behind (record { lawful = l; runs = settled_stands S H c.in-Some.t.0 l (subst (λ (s : Txn). IsSettled H s.0) (sym is) a) }) u st p),
          ));
    })

pub returns-else-has-clause-stands : goal.returns-else-has-clause-stands
returns-else-has-clause-stands c =
    let f = c.args.facts.now in
    let S = setup_of f in
    let H = events_of f in
    let m = c.note.new.self.node.0 in
    let old = c.args.self.now.marks.items in
    let pushed = c.push.new.self.items in
    let same : m ≡ c.args.self.now.register.node.0 = ap (λ (k : Node). k.0) c.note.ensures.node in
    let push : pushed ≡ old ++ no_mark ∷ [] = rw (c.push.ensures.succeeds (omega arith)) at c.push.ensures.items in
    let begun : begun H c.in-Some.t.0 ≡ true = ap (λ (G : List Event). begun G c.in-Some.t.0) c.requires.newest.is ∙ validated_begun S (drop 1 H) c.args.self.now.register.node.0 c.args.e c.in-Some.t
    c.requires.newest.may (sym c.in-Some.ensures) in
    let off : on S H m c.in-Some.t.0 ≡ false = on_joined c.note.new.self.batches S H m c.in-Some.t.0 c.note.ensures.stands.batches begun ∙ sym c.has.ensures.joined ∙ c.if-has.false in
    record {
      register = c.note.ensures.stands;
      committed = c.note.ensures.committed;
      marked = marked_noted S H c.args.e (drop 1 H) c.requires.newest.is m c.args.self.now.register.node.0 same old pushed pushed no_mark push (grown_none pushed) c.requires.stands.marked
          (λ t q l u a b. let z : Some c.in-Some.t ≡ Some t = sym (sym c.validated.ensures ∙ c.in-Some.is) ∙ q in
          let is : c.in-Some.t ≡ t = cc in
          subst (λ (s : Txn). TellsOf S H m pushed s.0 u) is (tells_off S H m pushed c.in-Some.t.0 u off));
    }

pub returns-in_default-clause-stands : goal.returns-in_default-clause-stands
returns-in_default-clause-stands c =
    let f = c.args.facts.now in
    let S = setup_of f in
    let H = events_of f in
    let m = c.note.new.self.node.0 in
    let old = c.args.self.now.marks.items in
    let pushed = c.push.new.self.items in
    let same : m ≡ c.args.self.now.register.node.0 = ap (λ (k : Node). k.0) c.note.ensures.node in
    let push : pushed ≡ old ++ no_mark ∷ [] = rw (c.push.ensures.succeeds (omega arith)) at c.push.ensures.items in
    record {
      register = c.note.ensures.stands;
      committed = c.note.ensures.committed;
      marked = marked_noted S H c.args.e (drop 1 H) c.requires.newest.is m c.args.self.now.register.node.0 same old pushed pushed no_mark push (grown_none pushed) c.requires.stands.marked
          (λ t q l u a b. absurd (c.in_default.not-Some t (c.validated.ensures ∙ q)));
    }
