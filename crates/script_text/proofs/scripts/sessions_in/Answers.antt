use Rattle.std.proofs.Common.{◌≡◌, ◌==◌, length, vec_len, true, false, sym, ap, ◌∙◌, arith}
use Rattle.script_text.specs.Lists.{lists_in, list_at}
use Rattle.script_text.proofs.SessionLists.{sessions_more, sessions_all, list_read}
use Rattle.script_text.proofs.scripts.sessions_in.Goals as goal
use Rattle.script_text.proofs.scripts.sessions_in.Goals.{then-not-is_empty+in_ok-push, else-not-is_empty}

no_list : (c : goal.Joined-not-is_empty) → (length (list_at (lists_in c.args.lists.now) c.loop-number.number) == 0) ≡ c.is_empty.result
no_list c =
    let long : length c.index-lists-number.result.items ≡ vec_len c.index-lists-number.result = omega (arith, c.index-lists-number.result.ok.0) in
    ap (λ l. length l == 0) (list_read c.args.lists.now c.loop-number.number c.index-lists-number.result c.loop-number-test.true c.index-lists-number.is)
    ∙ ap (λ k. k == 0) long ∙ sym c.is_empty.ensures

pub loop-number-preserved : goal.loop-number-preserved
loop-number-preserved c = elim c.if-not-is_empty.branch [
  | then-not-is_empty+in_ok-push w ↦
      sessions_more (lists_in c.args.lists.now) _ _ c.loop-number.number false (no_list c ∙ w.if-not-is_empty.true) c.loop-number.invariant
      (ap (λ s. s.items) w.sessions-is ∙ w.in_ok-push.ensures.items)
  | else-not-is_empty w ↦
      sessions_more (lists_in c.args.lists.now) _ _ c.loop-number.number true (no_list c ∙ w.if-not-is_empty.false) c.loop-number.invariant (ap (λ s. s.items) w.sessions-is)
]

pub returns : goal.returns
returns c = c.loop-number.invariant ∙ sessions_all (lists_in c.args.lists.now) c.loop-number.number (omega arith)
