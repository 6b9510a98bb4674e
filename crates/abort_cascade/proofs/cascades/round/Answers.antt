use Rattle.std.proofs.Common.{◌++◌, ◌∷◌, [], ◌∙◌, ap, sym, arith, append-nil, take, get_or, length, List, Option}
use Rattle.teb_rules.specs.declared.names.Txn.{Txn}
use Rattle.abort_cascade.specs.Rounds.{with_culprit, round_of}
use Rattle.abort_cascade.proofs.RoundsOf.{round_more, round_room}
use Rattle.abort_cascade.proofs.cascades.round.Goals as goal
use Rattle.abort_cascade.proofs.cascades.round.Goals.{in-Some, in_default}

pub push-requires : goal.push-requires
push-requires c =
    let b = c.args.book.now.lists in
    let t = c.args.t.0 in
    let fell = c.args.fell.now in
    let us = c.unfinished-u-items.result.now in
    let all = ap (λ (l : List Txn). length (round_of b t fell l)) c.unfinished-u-items.ensures in
    let more = round_room b t fell us c.loop-u.u-index (record { 0 = 0 }) c.in-Some.w c.loop-u-test.true (sym c.culprit.ensures ∙ c.in-Some.is) in
    omega (arith, more, all, ap length c.loop-u.invariant, c.requires)

pub loop-u-preserved : goal.loop-u-preserved
loop-u-preserved c =
    let b = c.args.book.now.lists in
    let t = c.args.t.0 in
    let fell = c.args.fell.now in
    let us = c.unfinished-u-items.result.now in
    let i = c.loop-u.u-index in
    let u : Txn = get_or us i (record { 0 = 0 }) in
    let before = round_of b t fell (take i us) in
    let more = round_more b t fell us i (record { 0 = 0 }) c.loop-u-test.true in
    elim c.match-culprit.branch [
      | in-Some w ↦
          w.next-is ∙ w.push.ensures ∙ ap (λ (l : List (Txn × Txn)). l ++ (u, w.in-Some.w) ∷ []) c.loop-u.invariant
          ∙ ap (λ (o : Option Txn). before ++ with_culprit u o []) (sym (sym c.culprit.ensures ∙ w.in-Some.is)) ∙ sym more
      | in_default w ↦
          w.next-is ∙ c.loop-u.invariant ∙ sym (append-nil before)
          ∙ ap (λ (o : Option Txn). before ++ with_culprit u o []) (sym (sym c.culprit.ensures ∙ w.in_default.is)) ∙ sym more
    ]
