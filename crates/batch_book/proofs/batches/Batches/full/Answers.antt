use Rattle.std.proofs.Common.{◌≡◌, ◌∙◌, ◌≤◌, ◌<◌, ℕ, Bool, cond, List, eqb, find, length, Some, None, sym, ap, rules, arith}
use Rattle.std.proofs.lemmas.Bool.{le-leb, lt-leb}
use Rattle.std.proofs.lemmas.List.{get_or_default}
use Rattle.teb_rules.specs.history.Written.{txn_of}
use Rattle.batch_book.specs.declared.members.Member.{Member}
use Rattle.batch_book.specs.declared.members.Batch.{Batch}
use Rattle.batch_book.specs.Book.{Book, full_on}
use Rattle.batch_book.specs.Fields.{no_batch, batch_at}
use Rattle.batch_book.proofs.Elements.{found_Has, All-Has, find_agree}
use Rattle.batch_book.proofs.Entering.{found_full, unfound_full}
use Rattle.batch_book.proofs.Telling.{full_tells}
use Rattle.batch_book.proofs.batches.Batches.full.Goals as goal

pub index-requires : goal.index-requires
index-requires c =
    let B = c.self.inside.batches.items in
    let R = c.self.inside.running.items in
    let found : find (λ (m : Member). eqb (batch_at B m).side c.args.side) R ≡ Some c.in-Some.first = sym
    (find_agree (λ (m : Member). eqb m.side c.args.side) (λ (m : Member). eqb (batch_at B m).side c.args.side) R (λ m h. ap (λ (a : ℕ). eqb a c.args.side) (c.self.invariant.held.sides m h)))
    ∙ ap (λ (ms : List Member). find (λ (m : Member). eqb m.side c.args.side) ms) (sym c.deref.ensures.value) ∙ sym c.first_on.ensures ∙ c.in-Some.is in
    let within : c.in-Some.first.batch < length B = All-Has (λ (m : Member). m.batch < length B) c.in-Some.first R c.self.invariant.held.running_within
    (found_Has (λ (m : Member). eqb (batch_at B m).side c.args.side) c.in-Some.first R found).0 in
    search (rules, within)

pub returns-in-Some : goal.returns-in-Some
returns-in-Some c =
    let B = c.self.inside.batches.items in
    let R = c.self.inside.running.items in
    let found : find (λ (m : Member). eqb (batch_at B m).side c.args.side) R ≡ Some c.in-Some.first = sym
    (find_agree (λ (m : Member). eqb m.side c.args.side) (λ (m : Member). eqb (batch_at B m).side c.args.side) R (λ m h. ap (λ (a : ℕ). eqb a c.args.side) (c.self.invariant.held.sides m h)))
    ∙ ap (λ (ms : List Member). find (λ (m : Member). eqb m.side c.args.side) ms) (sym c.deref.ensures.value) ∙ sym c.first_on.ensures ∙ c.in-Some.is in
    let within : c.in-Some.first.batch < length B = All-Has (λ (m : Member). m.batch < length B) c.in-Some.first R c.self.invariant.held.running_within
    (found_Has (λ (m : Member). eqb (batch_at B m).side c.args.side) c.in-Some.first R found).0 in
    let same : c.index.result.now.admitted ≡ (batch_at B c.in-Some.first).admitted = ap (λ (z : Batch). z.admitted)
    (c.index.ensures ∙ get_or_default B c.in-Some.first.batch c.index.result.now no_batch within) in
    let shown = ap (λ (b : Book). full_on b.size c.args.side b.running) (sym c.self.view_is) in
    let enough : c.self.inside.size ≤ (batch_at B c.in-Some.first).admitted = omega arith in
    let full = found_full B c.args.side R c.in-Some.first c.self.inside.size found ∙ ap (λ (b : Bool). cond b (Some c.in-Some.first.txn.0) None) (le-leb _ _ enough) in
    λ S H n h. ap txn_of (sym (shown ∙ full)) ∙ ap txn_of (full_tells c.args.self.now S H n c.args.side h)

pub returns-in_default : goal.returns-in_default
returns-in_default c =
    let B = c.self.inside.batches.items in
    let R = c.self.inside.running.items in
    let found : find (λ (m : Member). eqb (batch_at B m).side c.args.side) R ≡ Some c.in-Some.first = sym
    (find_agree (λ (m : Member). eqb m.side c.args.side) (λ (m : Member). eqb (batch_at B m).side c.args.side) R (λ m h. ap (λ (a : ℕ). eqb a c.args.side) (c.self.invariant.held.sides m h)))
    ∙ ap (λ (ms : List Member). find (λ (m : Member). eqb m.side c.args.side) ms) (sym c.deref.ensures.value) ∙ sym c.first_on.ensures ∙ c.in-Some.is in
    let within : c.in-Some.first.batch < length B = All-Has (λ (m : Member). m.batch < length B) c.in-Some.first R c.self.invariant.held.running_within
    (found_Has (λ (m : Member). eqb (batch_at B m).side c.args.side) c.in-Some.first R found).0 in
    let same : c.index.result.now.admitted ≡ (batch_at B c.in-Some.first).admitted = ap (λ (z : Batch). z.admitted)
    (c.index.ensures ∙ get_or_default B c.in-Some.first.batch c.index.result.now no_batch within) in
    let shown = ap (λ (b : Book). full_on b.size c.args.side b.running) (sym c.self.view_is) in
    let few : (batch_at B c.in-Some.first).admitted < c.self.inside.size = omega arith in
    let full = found_full B c.args.side R c.in-Some.first c.self.inside.size found ∙ ap (λ (b : Bool). cond b (Some c.in-Some.first.txn.0) None) (lt-leb _ _ few) in
    λ S H n h. ap txn_of (sym (shown ∙ full)) ∙ ap txn_of (full_tells c.args.self.now S H n c.args.side h)

pub returns-in_default-2 : goal.returns-in_default-2
returns-in_default-2 c =
    let B = c.self.inside.batches.items in
    let R = c.self.inside.running.items in
    let found : find (λ (m : Member). eqb (batch_at B m).side c.args.side) R ≡ None = sym
    (find_agree (λ (m : Member). eqb m.side c.args.side) (λ (m : Member). eqb (batch_at B m).side c.args.side) R (λ m h. ap (λ (a : ℕ). eqb a c.args.side) (c.self.invariant.held.sides m h)))
    ∙ ap (λ (ms : List Member). find (λ (m : Member). eqb m.side c.args.side) ms) (sym c.deref.ensures.value) ∙ sym c.first_on.ensures ∙ c.in_default.is in
    let shown = ap (λ (b : Book). full_on b.size c.args.side b.running) (sym c.self.view_is) in
    let full = unfound_full B c.args.side R c.self.inside.size found in
    λ S H n h. ap txn_of (sym (shown ∙ full)) ∙ ap txn_of (full_tells c.args.self.now S H n c.args.side h)
