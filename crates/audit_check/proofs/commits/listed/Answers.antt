use Rattle.std.proofs.Common.{◌≡◌, ◌∙◌, ◌==◌, ◌||◌, Bool, List, take, get_or, ap, sym, refl}
use Rattle.audit_check.specs.Faults.{is_among}
use Rattle.audit_check.specs.Marks.{is_marked}
use Rattle.audit_check.proofs.OrderRules.{one_more, among_more, not_distinct, not_passing}
use Rattle.audit_check.proofs.commits.listed.Goals as goal
use Rattle.audit_check.proofs.commits.listed.Goals.{then-marked-via-then-marked, then-marked-via-else-marked+then-not-marked}

pub returns-then-marked : goal.returns-then-marked
returns-then-marked c =
    let ts = c.args.txns.now in
    let i = c.loop-txn.txn-index in
    let t = get_or ts i 0 in
    let marked : c.marked.result ≡ is_among (take i ts) t = c.marked.ensures ∙ ap (λ (bs : List Bool). is_marked bs t) c.deref.ensures.value ∙ c.loop-txn.invariant.marks t in
    elim c.then-marked.branch [
      | then-marked-via-then-marked w ↦ not_distinct (is_marked c.args.done.now) ts i t c.loop-txn-test.true refl (sym marked ∙ w.if-marked.true)
      | then-marked-via-else-marked+then-not-marked w ↦ not_passing (is_marked c.args.done.now) ts i t c.loop-txn-test.true refl (sym w.marked-else-marked.ensures ∙ w.if-not-marked.true)
    ]

pub loop-txn-preserved : goal.loop-txn-preserved
loop-txn-preserved c =
    let ts = c.args.txns.now in
    let i = c.loop-txn.txn-index in
    let t = get_or ts i 0 in
    let marked : c.marked.result ≡ is_among (take i ts) t = c.marked.ensures ∙ ap (λ (bs : List Bool). is_marked bs t) c.deref.ensures.value ∙ c.loop-txn.invariant.marks t in
    record {
      marks = λ n. c.in_ok-mark.ensures n ∙ ap (λ b. t == n || b) (c.loop-txn.invariant.marks n) ∙ sym (among_more (is_marked c.args.done.now) ts i t c.loop-txn-test.true refl n);
      right = one_more (is_marked c.args.done.now) ts i t c.loop-txn-test.true refl c.loop-txn.invariant.right (sym marked ∙ c.if-marked.false)
          (sym c.marked-else-marked.ensures ∙ c.if-not-marked.false);
    }
