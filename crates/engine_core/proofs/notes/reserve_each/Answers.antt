use Rattle.std.proofs.Common.{◌∙◌, ◌<◌, sym, subst, arith, List, length, get_or, set}
use Rattle.std.proofs.lemmas.List.{take_at}
use Rattle.std.proofs.lemmas.Option.{slice_get_within}
use Rattle.phase_api.specs.Standing.{StandAll}
use Rattle.engine_core.specs.Wholes.{RoomFor}
use Rattle.engine_core.proofs.Noting.{IsRoomy, next_there, one_more_done, done_less, all_roomy, roomy_standing}
use Rattle.engine_core.proofs.notes.reserve_each.Goals as goal

pub loop-control-preserved : goal.loop-control-preserved
loop-control-preserved g c =
    let i = c.loop-control.control-index in
    let cs = c.loop-control.control-items in
    let lt : i < length cs = omega arith in
    one_more_done _ _ cs i c.reserve.new.self c.loop-control.invariant (
      record {
        before = get_or cs i c.control-item.result;
        there = next_there _ _ cs i c.control-item.result c.loop-control.invariant lt;
        numbered = c.reserve.ensures.node_number;
        stood = c.reserve.ensures.stands;
      },
      c.in_ok-reserve.ensures.room,
    )

pub returns-in_err-reserve-clause-stand : goal.returns-in_err-reserve-clause-stand
returns-in_err-reserve-clause-stand g c = λ S H a.
    let i = c.loop-control.control-index in
    let cs = c.loop-control.control-items in
    let ds = set cs i c.reserve.new.self in
    let old = c.deref_mut-control-items.result.now in
    let lt : i < length cs = omega arith in
    let done = one_more_done (IsRoomy g.K.Control.node_number g.K.Control.stands old) old cs i c.reserve.new.self
    (done_less _ _ old cs i (λ n d p. p.0) c.loop-control.invariant) (record {
      before = get_or cs i c.control-item.result;
      there = next_there _ old cs i c.control-item.result c.loop-control.invariant lt;
      numbered = c.reserve.ensures.node_number;
      stood = c.reserve.ensures.stands;
    }) in
    let n = done.len ∙ c.deref_mut-control-items.ensures.len in
    subst (λ (es : List _). StandAll g.K.Control.node_number g.K.Control.stands es S H) (sym (take_at ds _ _ n))
    (roomy_standing g.K.Control.node_number g.K.Control.stands old ds done.len (all_roomy g.K.Control.node_number g.K.Control.stands old ds _ done) S H
    (subst (λ (es : List _). StandAll g.K.Control.node_number g.K.Control.stands es S H) (sym c.deref_mut-control-items.ensures.value) a))

pub returns-clause-stand : goal.returns-clause-stand
returns-clause-stand g c = λ S H a.
    let cs = c.loop-control.control-items in
    let old = c.deref_mut-control-items.result.now in
    let done = done_less _ (IsRoomy g.K.Control.node_number g.K.Control.stands old) old cs c.loop-control.control-index (λ n d p. p.0) c.loop-control.invariant in
    let n = done.len ∙ c.deref_mut-control-items.ensures.len in
    subst (λ (es : List _). StandAll g.K.Control.node_number g.K.Control.stands es S H) (sym (take_at cs _ _ n))
    (roomy_standing g.K.Control.node_number g.K.Control.stands old cs done.len (all_roomy g.K.Control.node_number g.K.Control.stands old cs _ done) S H
    (subst (λ (es : List _). StandAll g.K.Control.node_number g.K.Control.stands es S H) (sym c.deref_mut-control-items.ensures.value) a))

pub returns-clause-room : goal.returns-clause-room
returns-clause-room g c =
    let cs = c.loop-control.control-items in
    let n = c.loop-control.invariant.len ∙ c.deref_mut-control-items.ensures.len in
    subst (λ (ds : List _). RoomFor g.K.Control.spare c.args.n ds) (sym (take_at cs _ _ n))
    (record { each = λ m d e. (c.loop-control.invariant.done m d (let w = slice_get_within cs m d e in omega arith) e).1 })
