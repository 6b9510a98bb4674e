use Rattle.std.proofs.Common.{◌≢◌, ◌<◌, ◌∙◌, ap, sym, arith, length, suc}
use Rattle.phase_api.specs.FactsView.{events_of}
use Rattle.abort_cascade.specs.Rounds.{round_of}
use Rattle.abort_cascade.proofs.RoundsOf.{first_stage, round_stage, round_last, round_length, round_grows, fallen_numbers}
use Rattle.abort_cascade.proofs.cascades.cascade.Goals as goal

pub loop-t-init : goal.loop-t-init
loop-t-init c = first_stage _ _ _ c.new-fell.ensures

pub round-next-requires : goal.round-next-requires
round-next-requires c =
    let b = c.args.book.now.lists in
    let H = events_of c.args.facts.now in
    let r = c.requires in
    let fell = c.loop-t.fell in
    let k = c.loop-t.invariant.rounds in
    let is = c.loop-t.invariant.is in
    round_length b H r.book c.args.t.0 r.unfinished r.recoverable fell k is r.few

pub returns-then-len : goal.returns-then-len
returns-then-len c =
    let b = c.args.book.now.lists in
    let H = events_of c.args.facts.now in
    let r = c.requires in
    let fell = c.loop-t.fell in
    let k = c.loop-t.invariant.rounds in
    let is = c.loop-t.invariant.is in
    c.round-next.ensures ∙ round_last b H r.book c.args.t.0 r.unfinished r.recoverable fell k is (ap length (sym c.round-next.ensures) ∙ sym c.len.ensures ∙ c.if-len.true ∙ c.len-in-loop-t.ensures)

pub loop-t-smaller : goal.loop-t-smaller
loop-t-smaller c =
    let b = c.args.book.now.lists in
    let H = events_of c.args.facts.now in
    let r = c.requires in
    let fell = c.loop-t.fell in
    let k = c.loop-t.invariant.rounds in
    let is = c.loop-t.invariant.is in
    let next = ap length c.round-next.ensures in
    let ne : length (round_of b c.args.t.0 fell b.unfinished) ≢ length fell = λ e. c.if-len.false (c.len.ensures ∙ next ∙ e ∙ sym c.len-in-loop-t.ensures) in
    let more : length fell < length (round_of b c.args.t.0 fell b.unfinished) = round_grows b H r.book c.args.t.0 r.unfinished r.recoverable fell k is ne in
    let most = round_length b H r.book c.args.t.0 r.unfinished r.recoverable fell k is r.few in
    omega (arith, next, more, most)

pub loop-t-preserved : goal.loop-t-preserved
loop-t-preserved c =
    let b = c.args.book.now.lists in
    let H = events_of c.args.facts.now in
    let r = c.requires in
    let fell = c.loop-t.fell in
    let k = c.loop-t.invariant.rounds in
    let is = c.loop-t.invariant.is in
    record { rounds = suc k; is = ap fallen_numbers c.round-next.ensures ∙ round_stage b H r.book c.args.t.0 r.unfinished r.recoverable fell k is }
