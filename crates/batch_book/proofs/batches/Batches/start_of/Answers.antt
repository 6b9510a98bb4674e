use Rattle.std.proofs.Common.{◌≡◌, ◌∙◌, ◌<◌, ℕ, List, eqb, find, length, cond, Some, None, sym, ap, false, rules}
use Rattle.std.specs.List.{list_any}
use Rattle.std.proofs.lemmas.Bool.{both_ways, false_from_ne_true}
use Rattle.std.proofs.lemmas.List.{get_or_default}
use Rattle.teb_rules.specs.Tree.{on}
use Rattle.teb_rules.specs.Batches.{start}
use Rattle.batch_book.specs.declared.members.Member.{Member}
use Rattle.batch_book.specs.declared.members.Batch.{Batch}
use Rattle.batch_book.specs.Book.{Row, Book, has_joined}
use Rattle.batch_book.specs.Fields.{row_shown, no_batch, batch_at}
use Rattle.batch_book.proofs.Elements.{found_Has, All-Has, Has-any, found_shown, unfound_shown}
use Rattle.batch_book.proofs.Telling.{row_tells, joined_from, joined_began}
use Rattle.batch_book.proofs.batches.Batches.start_of.Goals as goal

pub index-requires : goal.index-requires
index-requires c =
    let J = c.self.inside.joined.items in
    let B = c.self.inside.batches.items in
    let looked = λ (js : List Member). find (λ (m : Member). eqb m.txn.0 c.args.t.0) js in
    let m = c.in-Some.member in
    let found : looked J ≡ Some m = ap looked (sym c.deref.ensures.value) ∙ sym c.in-Some.ensures in
    let within : m.batch < length B = All-Has (λ (m : Member). m.batch < length B) m J c.self.invariant.held.joined_within (found_Has (λ (m : Member). eqb m.txn.0 c.args.t.0) m J found).0 in
    search (rules, within)

pub returns-in-Some : goal.returns-in-Some
returns-in-Some c S H n h b =
    let J = c.self.inside.joined.items in
    let B = c.self.inside.batches.items in
    let looked = λ (js : List Member). find (λ (m : Member). eqb m.txn.0 c.args.t.0) js in
    let m = c.in-Some.member in
    let found : looked J ≡ Some m = ap looked (sym c.deref.ensures.value) ∙ sym c.in-Some.ensures in
    let within : m.batch < length B = All-Has (λ (m : Member). m.batch < length B) m J c.self.invariant.held.joined_within (found_Has (λ (m : Member). eqb m.txn.0 c.args.t.0) m J found).0 in
    let same : c.index.result.now ≡ batch_at B m = c.index.ensures ∙ get_or_default B m.batch c.index.result.now no_batch within in
    let row : find (λ (r : Row). eqb r.txn c.args.t.0) c.args.self.now.rows ≡ Some (row_shown B m) = ap (λ (b : Book). find (λ (r : Row). eqb r.txn c.args.t.0) b.rows) (sym c.self.view_is)
    ∙ found_shown (row_shown B) (λ (r : Row). eqb r.txn c.args.t.0) J m found in
    let there = found_Has (λ (r : Row). eqb r.txn c.args.t.0) (row_shown B m) c.args.self.now.rows row in
    let o = (joined_began c.args.self.now S H n c.args.t.0 h (Has-any (λ (r : Row). eqb r.txn c.args.t.0) (row_shown B m) c.args.self.now.rows there.0 there.1)).1 in
    ap (λ (i : ℕ). Some i) (ap (λ (z : Batch). z.start) same ∙ ap (λ (r : Row). r.start) (row_tells c.args.self.now S H n c.args.t.0 (row_shown B m) h row))
    ∙ (λ j. cond (sym o j) (Some (start S H n c.args.t.0)) None)

pub returns-in-None : goal.returns-in-None
returns-in-None c S H n h b =
    let J = c.self.inside.joined.items in
    let B = c.self.inside.batches.items in
    let looked = λ (js : List Member). find (λ (m : Member). eqb m.txn.0 c.args.t.0) js in
    let none : has_joined c.args.self.now c.args.t.0 ≡ false = sym (ap (λ (b : Book). list_any (λ (r : Row). eqb r.txn c.args.t.0) b.rows) c.self.view_is)
    ∙ unfound_shown (row_shown B) (λ (r : Row). eqb r.txn c.args.t.0) J (ap looked (sym c.deref.ensures.value) ∙ sym c.in-None.ensures) in
    let off : on S H n c.args.t.0 ≡ false = false_from_ne_true _ (λ o. both_ways _ none (joined_from c.args.self.now S H n c.args.t.0 h b o)) in
    (λ j. cond (sym off j) (Some (start S H n c.args.t.0)) None)
