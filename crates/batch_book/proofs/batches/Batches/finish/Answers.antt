use Rattle.std.proofs.Common.{◌≡◌, ◌∙◌, ◌<◌, true, false, List, map, eqb, find, get_or, length, set, Some, sym, ap, subst, rules}
use Rattle.std.specs.List.{list_any}
use Rattle.std.proofs.lemmas.List.{get_or_default}
use Rattle.batch_book.specs.declared.members.Member.{Member}
use Rattle.batch_book.specs.declared.members.Batch.{Batch}
use Rattle.batch_book.specs.Book.{Book, rows_finished, running_finished}
use Rattle.batch_book.specs.Fields.{no_batch, running_shown, IsHeld}
use Rattle.batch_book.specs.Settled.{IsKept}
use Rattle.batch_book.proofs.Elements.{found_Has, All-Has}
use Rattle.batch_book.proofs.Leaving.{without, absent_left, absent_rows, one_rows, one_held, left_running, last_rows, last_running, last_held}
use Rattle.batch_book.proofs.Settling.{settled_closed}
use Rattle.batch_book.proofs.Telling.{batches_finished}
use Rattle.batch_book.proofs.batches.Batches.finish.Goals as goal

pub index_mut-requires : goal.index_mut-requires
index_mut-requires c =
    let J = c.self.inside.joined.items in
    let R = c.self.inside.running.items in
    let B = c.self.inside.batches.items in
    let t = c.args.t.0 in
    let looked = λ (ms : List Member). find (λ (m : Member). eqb m.txn.0 c.args.t.0) ms in
    let found : looked R ≡ Some c.in-Some.member = sym c.take_out.ensures.member ∙ c.in-Some.is in
    let within : c.in-Some.member.batch < length B = All-Has (λ (m : Member). m.batch < length B) c.in-Some.member R c.self.invariant.held.running_within
    (found_Has (λ (m : Member). eqb m.txn.0 c.args.t.0) c.in-Some.member R found).0 in
    search (rules, within)

pub invariant_of-self : goal.invariant_of-self
invariant_of-self c =
    let J = c.self.inside.joined.items in
    let R = c.self.inside.running.items in
    let B = c.self.inside.batches.items in
    let t = c.args.t.0 in
    let looked = λ (ms : List Member). find (λ (m : Member). eqb m.txn.0 c.args.t.0) ms in
    let found : looked R ≡ Some c.in-Some.member = sym c.take_out.ensures.member ∙ c.in-Some.is in
    let any = λ (ms : List Member). list_any (λ (m : Member). eqb m.batch c.in-Some.member.batch) ms in
    let asked : c.is_any_of.result ≡ any (without t R) = c.is_any_of.ensures ∙ ap any (c.deref.ensures.value ∙ c.take_out.ensures.items) in
    let none : any (without t R) ≡ false = sym asked ∙ c.if-not-is_any_of.true in
    let left : Batch = c.index_mut.result.now in
    let C : List Batch = set B c.in-Some.member.batch (record { side = left.side; start = left.start; close = Some c.args.at; admitted = left.admitted; settled = left.settled }) in
    let has = (found_Has (λ (m : Member). eqb m.txn.0 c.args.t.0) c.in-Some.member R found).0 in
    let within : c.in-Some.member.batch < length B = All-Has (λ (m : Member). m.batch < length B) c.in-Some.member R c.self.invariant.held.running_within has in
    let there : left ≡ get_or B c.in-Some.member.batch no_batch = c.index_mut.ensures.value ∙ get_or_default B c.in-Some.member.batch left no_batch within in
    record {
      held = subst (λ (ms : List Member). IsHeld J ms C) (sym c.take_out.ensures.items)
          (last_held J R B t c.self.invariant.held c.in-Some.member found none c.args.at c.index_mut.result.now c.index_mut.ensures.value);
      settled = settled_closed J B c.in-Some.member.batch c.args.at left within there (c.self.invariant.held.unclosed c.in-Some.member has) c.self.invariant.settled;
    }

pub invariant_of-self-else-not-is_any_of : goal.invariant_of-self-else-not-is_any_of
invariant_of-self-else-not-is_any_of c =
    let J = c.self.inside.joined.items in
    let R = c.self.inside.running.items in
    let B = c.self.inside.batches.items in
    let t = c.args.t.0 in
    let looked = λ (ms : List Member). find (λ (m : Member). eqb m.txn.0 c.args.t.0) ms in
    let found : looked R ≡ Some c.in-Some.member = sym c.take_out.ensures.member ∙ c.in-Some.is in
    let any = λ (ms : List Member). list_any (λ (m : Member). eqb m.batch c.in-Some.member.batch) ms in
    let asked : c.is_any_of.result ≡ any (without t R) = c.is_any_of.ensures ∙ ap any (c.deref.ensures.value ∙ c.take_out.ensures.items) in
    let left : any (without t R) ≡ true = sym asked ∙ c.if-not-is_any_of.false in
    record {
      held = subst (λ (ms : List Member). IsHeld J ms B) (sym c.take_out.ensures.items) (one_held J R B t c.self.invariant.held c.in-Some.member found left);
      settled = c.self.invariant.settled;
    }

pub returns-then-not-is_any_of-clause-batches : goal.returns-then-not-is_any_of-clause-batches
returns-then-not-is_any_of-clause-batches c =
    let J = c.self.inside.joined.items in
    let R = c.self.inside.running.items in
    let B = c.self.inside.batches.items in
    let t = c.args.t.0 in
    let looked = λ (ms : List Member). find (λ (m : Member). eqb m.txn.0 c.args.t.0) ms in
    let found : looked R ≡ Some c.in-Some.member = sym c.take_out.ensures.member ∙ c.in-Some.is in
    let any = λ (ms : List Member). list_any (λ (m : Member). eqb m.batch c.in-Some.member.batch) ms in
    let asked : c.is_any_of.result ≡ any (without t R) = c.is_any_of.ensures ∙ ap any (c.deref.ensures.value ∙ c.take_out.ensures.items) in
    let none : any (without t R) ≡ false = sym asked ∙ c.if-not-is_any_of.true in
    let rows = last_rows J R B t c.self.invariant.held c.in-Some.member found none c.args.at c.index_mut.result.now c.index_mut.ensures.value
    ∙ ap (λ (b : Book). rows_finished b.running b.rows t c.args.at) c.self.view_is in
    let left : Batch = c.index_mut.result.now in
    let C : List Batch = set B c.in-Some.member.batch (record { side = left.side; start = left.start; close = Some c.args.at; admitted = left.admitted; settled = left.settled }) in
    let running = ap (map (running_shown C)) c.take_out.ensures.items ∙ last_running J R B t c.self.invariant.held c.in-Some.member found none c.args.at c.index_mut.result.now
    c.index_mut.ensures.value ∙ ap (λ (b : Book). running_finished b.running t) c.self.view_is in
    λ S P n e h m f q. batches_finished c.args.self.now _ S P n e t c.args.at h m f q rows running

pub returns-else-not-is_any_of-clause-batches : goal.returns-else-not-is_any_of-clause-batches
returns-else-not-is_any_of-clause-batches c =
    let J = c.self.inside.joined.items in
    let R = c.self.inside.running.items in
    let B = c.self.inside.batches.items in
    let t = c.args.t.0 in
    let looked = λ (ms : List Member). find (λ (m : Member). eqb m.txn.0 c.args.t.0) ms in
    let found : looked R ≡ Some c.in-Some.member = sym c.take_out.ensures.member ∙ c.in-Some.is in
    let any = λ (ms : List Member). list_any (λ (m : Member). eqb m.batch c.in-Some.member.batch) ms in
    let asked : c.is_any_of.result ≡ any (without t R) = c.is_any_of.ensures ∙ ap any (c.deref.ensures.value ∙ c.take_out.ensures.items) in
    let left : any (without t R) ≡ true = sym asked ∙ c.if-not-is_any_of.false in
    let rows = one_rows J R B t c.self.invariant.held c.in-Some.member found c.args.at left ∙ ap (λ (b : Book). rows_finished b.running b.rows t c.args.at) c.self.view_is in
    let running = ap (map (running_shown B)) c.take_out.ensures.items ∙ left_running B t R ∙ ap (λ (b : Book). running_finished b.running t) c.self.view_is in
    λ S P n e h m f q. batches_finished c.args.self.now _ S P n e t c.args.at h m f q rows running

pub invariant_of-self-in_default : goal.invariant_of-self-in_default
invariant_of-self-in_default c =
    let none = sym c.take_out.ensures.member ∙ c.in_default.is in
    let same = c.take_out.ensures.items ∙ absent_left c.args.t.0 c.self.inside.running.items none in
    subst (λ (ms : List Member). IsKept c.self.inside.joined.items ms c.self.inside.batches.items) (sym same) c.self.invariant

pub returns-in_default-clause-batches : goal.returns-in_default-clause-batches
returns-in_default-clause-batches c =
    let J = c.self.inside.joined.items in
    let R = c.self.inside.running.items in
    let B = c.self.inside.batches.items in
    let t = c.args.t.0 in
    let none = sym c.take_out.ensures.member ∙ c.in_default.is in
    let rows = absent_rows J R B t c.self.invariant.held c.args.at none ∙ ap (λ (b : Book). rows_finished b.running b.rows t c.args.at) c.self.view_is in
    let running = ap (map (running_shown B)) c.take_out.ensures.items ∙ left_running B t R ∙ ap (λ (b : Book). running_finished b.running t) c.self.view_is in
    λ S P n e h m f q. batches_finished c.args.self.now _ S P n e t c.args.at h m f q rows running
