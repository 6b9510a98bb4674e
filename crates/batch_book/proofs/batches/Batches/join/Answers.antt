use Rattle.std.proofs.Common.{◌≡◌, ◌∙◌, ◌+◌, ◌++◌, [], ◌∷◌, List, length, map, refl, sym, ap, subst, arith}
use Rattle.batch_book.specs.declared.members.Member.{Member}
use Rattle.batch_book.specs.Book.{Row, Running, Book, AllBelow, rows_joined, running_joined}
use Rattle.batch_book.specs.Fields.{row_shown, running_shown, Entered}
use Rattle.batch_book.specs.Settled.{IsSettled, IsKept}
use Rattle.batch_book.proofs.Elements.{below_shown}
use Rattle.batch_book.proofs.Entering.{entered_rows, entered_running, entered_held}
use Rattle.batch_book.proofs.Settling.{settled_joined}
use Rattle.batch_book.proofs.Telling.{batches_joined}
use Rattle.batch_book.proofs.batches.Batches.join.Goals as goal

pub invariant_of-self : goal.invariant_of-self
invariant_of-self c =
    let J = c.self.inside.joined.items in
    let R = c.self.inside.running.items in
    let B = c.self.inside.batches.items in
    let C = c.enter-batch.new.batches.items in
    let t : Member = record { txn = c.args.t; side = c.args.side; batch = c.enter-batch.result } in
    let spare = ap (λ (b : Book). b.spare) c.self.view_is in
    let e = subst (λ (ms : List Member). Entered ms B C c.args.side c.args.at c.enter-batch.result) c.deref-2.ensures.value c.enter-batch.ensures.entered in
    let in_joined : c.push.new.self.items ≡ J ++ t ∷ [] = rw (c.push.ensures.succeeds (omega arith)) at c.push.ensures.items in
    let in_running : c.push-2.new.self.items ≡ R ++ t ∷ [] = rw (c.push-2.ensures.succeeds (omega arith)) at c.push-2.ensures.items in
    let above_joined = below_shown (row_shown B) (λ (r : Row). r.txn) c.args.t.0 J (subst (λ (b : Book). AllBelow (λ (r : Row). r.txn) c.args.t.0 b.rows) (sym c.self.view_is) c.requires.new.rows) in
    let above_running = below_shown (running_shown B) (λ (r : Running). r.txn) c.args.t.0 R
    (subst (λ (b : Book). AllBelow (λ (r : Running). r.txn) c.args.t.0 b.running) (sym c.self.view_is) c.requires.new.running) in
    let settled = settled_joined J C t (subst (λ (ms : List Member). IsSettled ms C (length ms + 1)) c.deref.ensures.value c.enter-batch.ensures.settled) in
    subst (λ (js : List Member). IsKept js c.push-2.new.self.items C) (sym in_joined)
    (subst (λ (rs : List Member). IsKept (J ++ t ∷ []) rs C) (sym in_running)
    (record { held = entered_held J R B C c.args.side c.args.at c.enter-batch.result c.self.invariant.held e t refl refl above_joined above_running; settled = settled }))

pub returns-clause-batches : goal.returns-clause-batches
returns-clause-batches c =
    let J = c.self.inside.joined.items in
    let R = c.self.inside.running.items in
    let B = c.self.inside.batches.items in
    let C = c.enter-batch.new.batches.items in
    let s = c.args.side in
    let at = c.args.at in
    let t : Member = record { txn = c.args.t; side = c.args.side; batch = c.enter-batch.result } in
    let spare = ap (λ (b : Book). b.spare) c.self.view_is in
    let e = subst (λ (ms : List Member). Entered ms B C s at c.enter-batch.result) c.deref-2.ensures.value c.enter-batch.ensures.entered in
    let in_joined : c.push.new.self.items ≡ J ++ t ∷ [] = rw (c.push.ensures.succeeds (omega arith)) at c.push.ensures.items in
    let in_running : c.push-2.new.self.items ≡ R ++ t ∷ [] = rw (c.push-2.ensures.succeeds (omega arith)) at c.push-2.ensures.items in
    let rows : map (row_shown C) c.push.new.self.items ≡ rows_joined c.args.self.now.running c.args.self.now.rows s c.args.t.0 at =
    ap (map (row_shown C)) in_joined ∙ entered_rows J R B C s at c.enter-batch.result c.self.invariant.held e t refl ∙ ap (λ (b : Book). rows_joined b.running b.rows s c.args.t.0 at) c.self.view_is in
    let running : map (running_shown C) c.push-2.new.self.items ≡ running_joined c.args.self.now.running s c.args.t.0 at =
    ap (map (running_shown C)) in_running ∙ entered_running J R B C s at c.enter-batch.result c.self.invariant.held e t refl
    ∙ ap (λ (b : Book). running_joined b.running s c.args.t.0 at) c.self.view_is in
    λ S P n ev h m j q. batches_joined c.args.self.now _ S P n ev s c.args.t.0 at h m j q rows running
