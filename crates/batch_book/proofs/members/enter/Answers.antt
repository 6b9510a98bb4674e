use Rattle.std.proofs.Common.{◌≡◌, ◌∙◌, ◌+◌, ◌<◌, ◌-◌, ◌^◌, ◌++◌, [], ◌∷◌, ℕ, eqb, find, length, List, Some, None, sym, ap, subst, rules, arith}
use Rattle.std.proofs.lemmas.List.{get_or_default}
use Rattle.batch_book.specs.declared.members.Member.{Member}
use Rattle.batch_book.specs.declared.members.Batch.{Batch}
use Rattle.batch_book.specs.Fields.{batch_at, no_batch, Entered}
use Rattle.batch_book.proofs.Elements.{found_Has, All-Has, find_agree}
use Rattle.batch_book.proofs.Entering.{entered_first, entered_none}
use Rattle.batch_book.specs.Settled.{AreClosed, IsSettled}
use Rattle.batch_book.proofs.Settling.{settled_more, settled_opened}
use Rattle.batch_book.proofs.members.enter.Goals as goal

pub index_mut-requires : goal.index_mut-requires
index_mut-requires c =
    let on = λ (B : List Batch). find (λ (m : Member). eqb (batch_at B m).side c.args.side) c.args.running.now in
    let found : on c.args.batches.now.items ≡ Some c.in-Some.first = sym
    (find_agree (λ (m : Member). eqb m.side c.args.side) (λ (m : Member). eqb (batch_at c.args.batches.now.items m).side c.args.side) c.args.running.now
    (λ m h. ap (λ (a : ℕ). eqb a c.args.side) (c.requires.sides m h))) ∙ sym c.first_on.ensures ∙ c.in-Some.is in
    let within : c.in-Some.first.batch < length c.args.batches.now.items = All-Has (λ (m : Member). m.batch < length c.args.batches.now.items) c.in-Some.first c.args.running.now c.requires.within
    (found_Has (λ (m : Member). eqb (batch_at c.args.batches.now.items m).side c.args.side) c.in-Some.first c.args.running.now found).0 in
    search (rules, within)

pub overflow_add-index_mut : goal.overflow_add-index_mut
overflow_add-index_mut c =
    let on = λ (B : List Batch). find (λ (m : Member). eqb (batch_at B m).side c.args.side) c.args.running.now in
    let found : on c.args.batches.now.items ≡ Some c.in-Some.first = sym
    (find_agree (λ (m : Member). eqb m.side c.args.side) (λ (m : Member). eqb (batch_at c.args.batches.now.items m).side c.args.side) c.args.running.now
    (λ m h. ap (λ (a : ℕ). eqb a c.args.side) (c.requires.sides m h))) ∙ sym c.first_on.ensures ∙ c.in-Some.is in
    let has = (found_Has (λ (m : Member). eqb (batch_at c.args.batches.now.items m).side c.args.side) c.in-Some.first c.args.running.now found).0 in
    let within = All-Has (λ (m : Member). m.batch < length c.args.batches.now.items) c.in-Some.first c.args.running.now c.requires.within has in
    let few : (batch_at c.args.batches.now.items c.in-Some.first).admitted < 2 ^ 64 - 1 = c.requires.few c.in-Some.first has in
    let same : c.index_mut.result.now.admitted ≡ (batch_at c.args.batches.now.items c.in-Some.first).admitted =
    ap (λ (z : Batch). z.admitted) (c.index_mut.ensures.value ∙ get_or_default c.args.batches.now.items c.in-Some.first.batch c.index_mut.result.now no_batch within) in
    omega arith

pub returns-in-Some-clause-entered : goal.returns-in-Some-clause-entered
returns-in-Some-clause-entered c =
    let on = λ (B : List Batch). find (λ (m : Member). eqb (batch_at B m).side c.args.side) c.args.running.now in
    let found : on c.args.batches.now.items ≡ Some c.in-Some.first = sym
    (find_agree (λ (m : Member). eqb m.side c.args.side) (λ (m : Member). eqb (batch_at c.args.batches.now.items m).side c.args.side) c.args.running.now
    (λ m h. ap (λ (a : ℕ). eqb a c.args.side) (c.requires.sides m h))) ∙ sym c.first_on.ensures ∙ c.in-Some.is in
    entered_first c.args.batches.now.items c.args.side c.args.running.now c.requires.within c.in-Some.first c.args.at c.index_mut.result.now found c.index_mut.ensures.value c.requires.unclosed
    c.requires.one_side

pub returns-in-None-clause-entered : goal.returns-in-None-clause-entered
returns-in-None-clause-entered c =
    let on = λ (B : List Batch). find (λ (m : Member). eqb (batch_at B m).side c.args.side) c.args.running.now in
    let found : on c.args.batches.now.items ≡ None = sym
    (find_agree (λ (m : Member). eqb m.side c.args.side) (λ (m : Member). eqb (batch_at c.args.batches.now.items m).side c.args.side) c.args.running.now
    (λ m h. ap (λ (a : ℕ). eqb a c.args.side) (c.requires.sides m h))) ∙ sym c.first_on.ensures ∙ c.in-None.is in
    let B = c.args.batches.now.items in
    let new : Batch = record { side = c.args.side; start = c.args.at; close = None; admitted = 1; settled = c.settled_before-settled.result } in
    let pushed : c.push.new.self.items ≡ B ++ new ∷ [] = rw (c.push.ensures.succeeds c.requires.room) at c.push.ensures.items in
    let number : c.len-number.result ≡ length B = search rules in
    subst (λ (k : ℕ). Entered c.args.running.now B c.push.new.self.items c.args.side c.args.at k) (sym number)
    (subst (λ (C : List Batch). Entered c.args.running.now B C c.args.side c.args.at (length B)) (sym pushed)
    (entered_none B c.args.side c.args.running.now c.requires.within c.args.at c.settled_before-settled.result found))

pub returns-in-Some-clause-settled : goal.returns-in-Some-clause-settled
returns-in-Some-clause-settled c =
    let B = c.args.batches.now.items in
    let on = λ (B : List Batch). find (λ (m : Member). eqb (batch_at B m).side c.args.side) c.args.running.now in
    let found : on B ≡ Some c.in-Some.first = sym (find_agree (λ (m : Member). eqb m.side c.args.side) (λ (m : Member). eqb (batch_at c.args.batches.now.items m).side c.args.side) c.args.running.now
    (λ m h. ap (λ (a : ℕ). eqb a c.args.side) (c.requires.sides m h))) ∙ sym c.first_on.ensures ∙ c.in-Some.is in
    let within = All-Has (λ (m : Member). m.batch < length B) c.in-Some.first c.args.running.now c.requires.within
    (found_Has (λ (m : Member). eqb (batch_at B m).side c.args.side) c.in-Some.first c.args.running.now found).0 in
    settled_more c.args.joined.now B c.in-Some.first.batch c.index_mut.result.now within (c.index_mut.ensures.value ∙ get_or_default B c.in-Some.first.batch c.index_mut.result.now no_batch within)
    c.requires.settled

pub returns-in-None-clause-settled : goal.returns-in-None-clause-settled
returns-in-None-clause-settled c =
    let B = c.args.batches.now.items in
    let J = c.args.joined.now in
    let new : Batch = record { side = c.args.side; start = c.args.at; close = None; admitted = 1; settled = c.settled_before-settled.result } in
    let pushed : c.push.new.self.items ≡ B ++ new ∷ [] = rw (c.push.ensures.succeeds c.requires.room) at c.push.ensures.items in
    subst (λ (C : List Batch). IsSettled J C (length J + 1)) (sym pushed)
    (settled_opened J B new c.requires.joined_within c.settled_before-settled.ensures.within
    (subst (λ (C : List Batch). AreClosed J C c.args.at c.settled_before-settled.result) c.deref.ensures.value c.settled_before-settled.ensures.closed) c.requires.settled)
