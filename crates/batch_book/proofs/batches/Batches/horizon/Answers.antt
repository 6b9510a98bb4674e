use Rattle.std.proofs.Common.{◌≡◌, ◌∙◌, ◌<◌, List, map, eqb, find, get_or, length, Some, sym, ap, subst, true, rules}
use Rattle.std.specs.List.{list_any}
use Rattle.std.proofs.lemmas.Bool.{both_ways}
use Rattle.std.proofs.lemmas.List.{get_or_default}
use Rattle.batch_book.specs.declared.members.Member.{Member}
use Rattle.batch_book.specs.declared.members.Batch.{Batch}
use Rattle.batch_book.specs.Book.{Row, Book, has_joined}
use Rattle.batch_book.specs.Histories.{ClosedBelow}
use Rattle.batch_book.specs.Fields.{row_shown, no_batch, batch_at}
use Rattle.batch_book.specs.Settled.{no_member}
use Rattle.batch_book.proofs.Elements.{found_Has, All-Has, found_shown, unfound_shown, some_unless}
use Rattle.batch_book.proofs.Telling.{row_tells}
use Rattle.batch_book.proofs.Horizons.{joined_at, closed_below}
use Rattle.batch_book.proofs.batches.Batches.horizon.Goals as goal

pub unwrap-member-requires : goal.unwrap-member-requires
unwrap-member-requires c =
    let J = c.self.inside.joined.items in
    let B = c.self.inside.batches.items in
    let looked = λ (js : List Member). find (λ (m : Member). eqb m.txn.0 c.args.t.0) js in
    let there : list_any (λ (r : Row). eqb r.txn c.args.t.0) (map (row_shown B) J) ≡ true = ap (λ (b : Book). list_any (λ (r : Row). eqb r.txn c.args.t.0) b.rows) c.self.view_is ∙ c.requires in
    some_unless _ (λ none. both_ways _ (unfound_shown (row_shown B) (λ (r : Row). eqb r.txn c.args.t.0) J (ap looked (sym c.deref.ensures.value) ∙ sym c.find_member.ensures ∙ none)) there)

pub index-requires : goal.index-requires
index-requires c =
    let J = c.self.inside.joined.items in
    let B = c.self.inside.batches.items in
    let looked = λ (js : List Member). find (λ (m : Member). eqb m.txn.0 c.args.t.0) js in
    let found : looked J ≡ Some c.unwrap-member.result = ap looked (sym c.deref.ensures.value) ∙ sym c.find_member.ensures ∙ c.unwrap-member.ensures in
    let within : c.unwrap-member.result.batch < length B = All-Has (λ (m : Member). m.batch < length B) c.unwrap-member.result J c.self.invariant.held.joined_within
    (found_Has (λ (m : Member). eqb m.txn.0 c.args.t.0) c.unwrap-member.result J found).0 in
    search (rules, within)

pub index-requires-2 : goal.index-requires-2
index-requires-2 c =
    let J = c.self.inside.joined.items in
    let B = c.self.inside.batches.items in
    let looked = λ (js : List Member). find (λ (m : Member). eqb m.txn.0 c.args.t.0) js in
    let found : looked J ≡ Some c.unwrap-member.result = ap looked (sym c.deref.ensures.value) ∙ sym c.find_member.ensures ∙ c.unwrap-member.ensures in
    let within : c.unwrap-member.result.batch < length B = All-Has (λ (m : Member). m.batch < length B) c.unwrap-member.result J c.self.invariant.held.joined_within
    (found_Has (λ (m : Member). eqb m.txn.0 c.args.t.0) c.unwrap-member.result J found).0 in
    let same : c.index.result.now ≡ batch_at B c.unwrap-member.result = c.index.ensures ∙ get_or_default B c.unwrap-member.result.batch c.index.result.now no_batch within in
    let fewer : c.index.result.now.settled < length J = subst (λ (z : Batch). z.settled < length J) (sym same) (c.self.invariant.settled.fewer c.unwrap-member.result.batch within) in
    search (rules, fewer)

pub returns-clause-joined : goal.returns-clause-joined
returns-clause-joined c =
    let J = c.self.inside.joined.items in
    let B = c.self.inside.batches.items in
    let looked = λ (js : List Member). find (λ (m : Member). eqb m.txn.0 c.args.t.0) js in
    let found : looked J ≡ Some c.unwrap-member.result = ap looked (sym c.deref.ensures.value) ∙ sym c.find_member.ensures ∙ c.unwrap-member.ensures in
    let within : c.unwrap-member.result.batch < length B = All-Has (λ (m : Member). m.batch < length B) c.unwrap-member.result J c.self.invariant.held.joined_within
    (found_Has (λ (m : Member). eqb m.txn.0 c.args.t.0) c.unwrap-member.result J found).0 in
    let same : c.index.result.now ≡ batch_at B c.unwrap-member.result = c.index.ensures ∙ get_or_default B c.unwrap-member.result.batch c.index.result.now no_batch within in
    let fewer : c.index.result.now.settled < length J = subst (λ (z : Batch). z.settled < length J) (sym same) (c.self.invariant.settled.fewer c.unwrap-member.result.batch within) in
    let first : c.index-2.result.now ≡ get_or J c.index.result.now.settled no_member = c.index-2.ensures ∙ get_or_default J c.index.result.now.settled c.index-2.result.now no_member fewer in
    subst (λ (m : Member). has_joined c.args.self.now m.txn.0 ≡ true) (sym first)
    (subst (λ (b : Book). has_joined b (get_or J c.index.result.now.settled no_member).txn.0 ≡ true) c.self.view_is (joined_at B J c.index.result.now.settled fewer))

pub returns-clause-closed : goal.returns-clause-closed
returns-clause-closed c =
    let J = c.self.inside.joined.items in
    let R = c.self.inside.running.items in
    let B = c.self.inside.batches.items in
    let looked = λ (js : List Member). find (λ (m : Member). eqb m.txn.0 c.args.t.0) js in
    let found : looked J ≡ Some c.unwrap-member.result = ap looked (sym c.deref.ensures.value) ∙ sym c.find_member.ensures ∙ c.unwrap-member.ensures in
    let within : c.unwrap-member.result.batch < length B = All-Has (λ (m : Member). m.batch < length B) c.unwrap-member.result J c.self.invariant.held.joined_within
    (found_Has (λ (m : Member). eqb m.txn.0 c.args.t.0) c.unwrap-member.result J found).0 in
    let same : c.index.result.now ≡ batch_at B c.unwrap-member.result = c.index.ensures ∙ get_or_default B c.unwrap-member.result.batch c.index.result.now no_batch within in
    let fewer : c.index.result.now.settled < length J = subst (λ (z : Batch). z.settled < length J) (sym same) (c.self.invariant.settled.fewer c.unwrap-member.result.batch within) in
    let first : c.index-2.result.now ≡ get_or J c.index.result.now.settled no_member = c.index-2.ensures ∙ get_or_default J c.index.result.now.settled c.index-2.result.now no_member fewer in
    let last : c.index-2.result.now ≡ get_or J (batch_at B c.unwrap-member.result).settled no_member = first ∙ ap (λ (z : Batch). get_or J z.settled no_member) same in
    let row = ap (λ (b : Book). find (λ (r : Row). eqb r.txn c.args.t.0) b.rows) (sym c.self.view_is) ∙ found_shown (row_shown B) (λ (r : Row). eqb r.txn c.args.t.0) J c.unwrap-member.result found in
    λ S H n h. subst (λ (m : Member). ClosedBelow S H n c.args.t.0 m.txn.0) (sym last)
    (closed_below c.args.self.now J R B S H n c.args.t.0 c.unwrap-member.result c.self.invariant (ap (λ (b : Book). b.rows) c.self.view_is) h within
    (row_tells c.args.self.now S H n c.args.t.0 (row_shown B c.unwrap-member.result) h row))
