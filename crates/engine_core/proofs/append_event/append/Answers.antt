use Rattle.std.proofs.Common.{◌≡◌, ℕ, suc, ◌-◌, sym, ap, subst, List, drop, arith}
use Rattle.teb_rules.specs.declared.history.Event.{Event}
use Rattle.teb_rules.proofs.lemmas.laws.Answers.{lawful_cons}
use Rattle.teb_rules.proofs.lemmas.laws.Sound.{tree_facts}
use Rattle.phase_api.specs.Calls.{MayNote}
use Rattle.dependency_book.proofs.LawfulHistories.{granted_follows}
use Rattle.store_setup.specs.Stores.{store_of}
use Rattle.engine_core.specs.AnyControls.{any_spare}
use Rattle.engine_core.specs.Wholes.{RoomFor}
use Rattle.engine_core.proofs.Noting.{granted_noted}
use Rattle.engine_core.proofs.Appending.{one_behind, whole_after}
use Rattle.engine_core.proofs.Again.{put_again}
use Rattle.engine_core.proofs.Rooms.{less_room}
use Rattle.engine_core.proofs.append_event.append.Goals as goal

pub note_each-requires-clause-may : goal.note_each-requires-clause-may
note_each-requires-clause-may g c = λ n.
    let k = c.args.state.now in
    let S = (store_of k.setup).setup in
    subst (λ (P : List Event). MayNote S P n c.args.event) (sym (ap (drop 1) c.push.ensures.events)) (granted_noted S k.history.events c.args.event c.requires.granted c.requires.begins n)

pub note_each-requires-clause-room : goal.note_each-requires-clause-room
note_each-requires-clause-room g c = let k = c.args.state.now in let some = c.requires.some in less_room any_spare 1 k.room k.controls.items (omega arith) k.has_room.controls

pub move_cursors-requires : goal.move_cursors-requires
move_cursors-requires g c =
    let k = c.args.state.now in
    let S = (store_of k.setup).setup in
    one_behind S k.history.events c.push.new.self.events c.args.event k.cursors c.push.ensures.events
    (lawful_cons S c.args.event k.history.events c.requires.granted k.whole.lawful) k.whole.profiled k.whole.cursors
    (let some = c.requires.some in let room = k.has_room.cursors in omega arith)

pub invariant_of-state-clause-whole : goal.invariant_of-state-clause-whole
invariant_of-state-clause-whole g c =
    let k = c.args.state.now in
    let S = (store_of k.setup).setup in
    let H = k.history.events in
    let L = g.C.Chains.lists k.chains in
    let M = g.C.Chains.lists c.keep_versions.new.chains in
    whole_after (store_of k.setup) H c.push.new.self.events c.args.event k.controls.items c.note_each.new.controls.items L M k.book.lists c.note.new.self.lists k.cursors.cursors
    c.move_cursors.new.cursors.cursors
    k.latest c.note-2.new.self k.whole c.requires.granted c.requires.begins c.push.ensures.events c.note_each.ensures.stand
    (c.keep_versions.ensures.versions S H (tree_facts S k.whole.sound) (lawful_cons S c.args.event H c.requires.granted k.whole.lawful) k.whole.versions c.requires.order)
    (c.note.ensures.book H c.push.ensures.events (put_again S H L c.args.event c.args.place k.whole.versions c.requires.place c.requires.granted) k.whole.book
    (granted_follows S H c.args.event c.requires.granted))
    c.move_cursors.ensures.cursors (c.note-2.ensures H k.whole.latest)

pub invariant_of-state-clause-has_room : goal.invariant_of-state-clause-has_room
invariant_of-state-clause-has_room g c =
    let k = c.args.state.now in
    let some = c.requires.some in
    let one : suc (k.room - 1) ≡ k.room = omega arith in
    record {
      history = (let a = k.has_room.history in let b = c.push.ensures.spare in omega arith);
      controls = c.note_each.ensures.room (k.room - 1) (subst (λ (n : ℕ). RoomFor any_spare n k.controls.items) (sym one) k.has_room.controls);
      book = (let a = k.has_room.book in let b = c.note.ensures.spare in omega arith);
      versions = (let a = k.has_room.versions in let b = c.keep_versions.ensures.spare in omega arith);
      cursors = (let a = k.has_room.cursors in let b = c.move_cursors.ensures.spare in omega arith);
    }
