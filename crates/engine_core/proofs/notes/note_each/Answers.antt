use Rattle.std.proofs.Common.{◌≡◌, ◌∙◌, ◌<◌, sym, ap, subst, suc, arith, List, length, get_or, slice_get, Some}
use Rattle.std.proofs.lemmas.List.{take_at}
use Rattle.std.proofs.lemmas.Option.{slice_get_within}
use Rattle.teb_rules.specs.history.Written.{Written}
use Rattle.phase_api.specs.Standing.{StandAll}
use Rattle.store_setup.specs.Stores.{store_of}
use Rattle.engine_core.specs.Wholes.{RoomFor}
use Rattle.engine_core.proofs.Noting.{next_there, one_more_done, told_newest, told_standing, all_standing}
use Rattle.engine_core.proofs.notes.note_each.Goals as goal

pub note-requires-clause-newest : goal.note-requires-clause-newest
note-requires-clause-newest g c =
    told_newest c.facts_of-facts.result (store_of c.args.setup.now).setup c.args.history.now.events c.facts_of-facts.ensures.setup (ap (λ (h : Written). h.events) c.facts_of-facts.ensures.history)
    c.args.event c.requires.newest c.requires.may _

pub note-requires-clause-stands : goal.note-requires-clause-stands
note-requires-clause-stands g c =
    let i = c.loop-control.control-index in
    let lt : i < length c.loop-control.control-items = omega arith in
    let there = subst (λ (cs : List _). slice_get cs i ≡ Some (get_or c.loop-control.control-items i c.control-item.result)) c.deref_mut-control-items.ensures.value
    (next_there _ _ c.loop-control.control-items i c.control-item.result c.loop-control.invariant lt) in
    told_standing c.facts_of-facts.result (store_of c.args.setup.now).setup c.args.history.now.events c.facts_of-facts.ensures.setup (ap (λ (h : Written). h.events) c.facts_of-facts.ensures.history)
    g.K.Control.stands _ (c.requires.stand.each_stands i (get_or c.loop-control.control-items i c.control-item.result) there)

pub note-requires-clause-room : goal.note-requires-clause-room
note-requires-clause-room g c =
    let i = c.loop-control.control-index in
    let lt : i < length c.loop-control.control-items = omega arith in
    let there = subst (λ (cs : List _). slice_get cs i ≡ Some (get_or c.loop-control.control-items i c.control-item.result)) c.deref_mut-control-items.ensures.value
    (next_there _ _ c.loop-control.control-items i c.control-item.result c.loop-control.invariant lt) in
    let some = c.requires.room.each i (get_or c.loop-control.control-items i c.control-item.result) there in omega arith

pub loop-control-preserved : goal.loop-control-preserved
loop-control-preserved g c =
    let i = c.loop-control.control-index in
    let cs = c.loop-control.control-items in
    let lt : i < length cs = omega arith in
    let there = next_there _ _ cs i c.control-item.result c.loop-control.invariant lt in
    let at = subst (λ (ds : List _). slice_get ds i ≡ Some (get_or cs i c.control-item.result)) c.deref_mut-control-items.ensures.value there in
    one_more_done _ _ cs i c.note.new.self c.loop-control.invariant (record {
      numbered = c.note.ensures.node_number ∙ c.requires.stand.each_numbered i (get_or cs i c.control-item.result) at;
      stood = c.note.ensures.stands;
      room = λ k r. let a = r.each i (get_or cs i c.control-item.result) there in let b = c.note.ensures.spare in omega arith;
    })

pub returns-clause-stand : goal.returns-clause-stand
returns-clause-stand g c =
    let cs = c.loop-control.control-items in
    let n = c.loop-control.invariant.len ∙ c.deref_mut-control-items.ensures.len in
    subst (λ (ds : List _). StandAll g.K.Control.node_number g.K.Control.stands ds (store_of c.args.setup.now).setup c.args.history.now.events) (sym (take_at cs _ _ n))
    (all_standing c.facts_of-facts.result (store_of c.args.setup.now).setup c.args.history.now.events c.facts_of-facts.ensures.setup (ap (λ (h : Written). h.events) c.facts_of-facts.ensures.history)
    g.K.Control.node_number g.K.Control.stands g.K.Control.spare _ cs c.loop-control.control-index c.loop-control.invariant (omega arith) (ap length c.deref_mut-control-items.ensures.value
    ∙ c.requires.stand.one_each))

pub returns-clause-room : goal.returns-clause-room
returns-clause-room g c =
    λ k r.
    let cs = c.loop-control.control-items in
    let n = c.loop-control.invariant.len ∙ c.deref_mut-control-items.ensures.len in
    subst (λ (ds : List _). RoomFor g.K.Control.spare k ds) (sym (take_at cs _ _ n))
    (record {
      each = λ m d e. (c.loop-control.invariant.done m d (let w = slice_get_within cs m d e in omega arith) e).room k
          (subst (λ (ds : List _). RoomFor g.K.Control.spare (suc k) ds) (sym c.deref_mut-control-items.ensures.value) r);
    })
