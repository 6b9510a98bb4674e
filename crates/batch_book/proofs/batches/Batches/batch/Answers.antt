use Rattle.std.proofs.Common.{◌≡◌, ◌∙◌, ◌<◌, List, map, eqb, find, length, Some, sym, ap, true, rules}
use Rattle.std.specs.List.{list_any}
use Rattle.std.proofs.lemmas.Bool.{both_ways}
use Rattle.std.proofs.lemmas.List.{get_or_default}
use Rattle.batch_book.specs.declared.members.Member.{Member}
use Rattle.batch_book.specs.declared.members.Batch.{Batch}
use Rattle.batch_book.specs.Book.{Row, Book}
use Rattle.batch_book.specs.Fields.{row_shown, no_batch, batch_at}
use Rattle.batch_book.proofs.Elements.{found_Has, All-Has, found_shown, unfound_shown, some_unless}
use Rattle.batch_book.proofs.Telling.{row_tells}
use Rattle.batch_book.proofs.batches.Batches.batch.Goals as goal

pub unwrap-member-requires : goal.unwrap-member-requires
unwrap-member-requires c =
    let J = c.self.inside.joined.items in
    let B = c.self.inside.batches.items in
    let looked = λ (js : List Member). find (λ (m : Member). eqb m.txn.0 c.args.t.0) js in
    let there : list_any (λ (r : Row). eqb r.txn c.args.t.0) (map (row_shown B) J) ≡ true = ap (λ (b : Book). list_any (λ (r : Row). eqb r.txn c.args.t.0) b.rows) c.self.view_is ∙ c.requires in
    some_unless _ (λ none. both_ways _ (unfound_shown (row_shown B) (λ (r : Row). eqb r.txn c.args.t.0) J (ap looked (sym c.deref.ensures.value) ∙ sym c.find_member.ensures ∙ none)) there)

pub index-requires : goal.index-requires
index-requires c =
    let J = c.self.inside.joined.items in
    let B = c.self.inside.batches.items in
    let looked = λ (js : List Member). find (λ (m : Member). eqb m.txn.0 c.args.t.0) js in
    let found : looked J ≡ Some c.unwrap-member.result = ap looked (sym c.deref.ensures.value) ∙ sym c.find_member.ensures ∙ c.unwrap-member.ensures in
    let within : c.unwrap-member.result.batch < length B = All-Has (λ (m : Member). m.batch < length B) c.unwrap-member.result J c.self.invariant.held.joined_within
    (found_Has (λ (m : Member). eqb m.txn.0 c.args.t.0) c.unwrap-member.result J found).0 in
    search (rules, within)

pub returns-clause-start : goal.returns-clause-start
returns-clause-start c =
    let J = c.self.inside.joined.items in
    let B = c.self.inside.batches.items in
    let looked = λ (js : List Member). find (λ (m : Member). eqb m.txn.0 c.args.t.0) js in
    let found : looked J ≡ Some c.unwrap-member.result = ap looked (sym c.deref.ensures.value) ∙ sym c.find_member.ensures ∙ c.unwrap-member.ensures in
    let within : c.unwrap-member.result.batch < length B = All-Has (λ (m : Member). m.batch < length B) c.unwrap-member.result J c.self.invariant.held.joined_within
    (found_Has (λ (m : Member). eqb m.txn.0 c.args.t.0) c.unwrap-member.result J found).0 in
    let same : c.index.result.now ≡ batch_at B c.unwrap-member.result = c.index.ensures ∙ get_or_default B c.unwrap-member.result.batch c.index.result.now no_batch within in
    let row = ap (λ (b : Book). find (λ (r : Row). eqb r.txn c.args.t.0) b.rows) (sym c.self.view_is) ∙ found_shown (row_shown B) (λ (r : Row). eqb r.txn c.args.t.0) J c.unwrap-member.result found in
    λ S H n h. ap (λ (z : Batch). z.start) same ∙ ap (λ (r : Row). r.start) (row_tells c.args.self.now S H n c.args.t.0 (row_shown B c.unwrap-member.result) h row)

pub returns-clause-close : goal.returns-clause-close
returns-clause-close c =
    let J = c.self.inside.joined.items in
    let B = c.self.inside.batches.items in
    let looked = λ (js : List Member). find (λ (m : Member). eqb m.txn.0 c.args.t.0) js in
    let found : looked J ≡ Some c.unwrap-member.result = ap looked (sym c.deref.ensures.value) ∙ sym c.find_member.ensures ∙ c.unwrap-member.ensures in
    let within : c.unwrap-member.result.batch < length B = All-Has (λ (m : Member). m.batch < length B) c.unwrap-member.result J c.self.invariant.held.joined_within
    (found_Has (λ (m : Member). eqb m.txn.0 c.args.t.0) c.unwrap-member.result J found).0 in
    let same : c.index.result.now ≡ batch_at B c.unwrap-member.result = c.index.ensures ∙ get_or_default B c.unwrap-member.result.batch c.index.result.now no_batch within in
    let row = ap (λ (b : Book). find (λ (r : Row). eqb r.txn c.args.t.0) b.rows) (sym c.self.view_is) ∙ found_shown (row_shown B) (λ (r : Row). eqb r.txn c.args.t.0) J c.unwrap-member.result found in
    λ S H n h. ap (λ (z : Batch). z.close) same ∙ ap (λ (r : Row). r.close) (row_tells c.args.self.now S H n c.args.t.0 (row_shown B c.unwrap-member.result) h row)
