use Rattle.std.proofs.Common.{◌+◌, sym, subst, arith}
use Rattle.arena_multimap.specs.Arenas.{HasRoom}
use Rattle.arena_multimap.proofs.Segments.{less_room}
use Rattle.arena_multimap.proofs.arena.Arena.push.Goals as goal
use Rattle.arena_multimap.proofs.arena.Arena.push.Goals.{then-segment, else-segment}

pub open-requires-clause-room : goal.open-requires-clause-room
open-requires-clause-room g c = c.begin.ensures.room 0 1 c.requires.room

pub returns-then-i-len-clause-room : goal.returns-then-i-len-clause-room
returns-then-i-len-clause-room g c n room = c.open.ensures.room n n (c.begin.ensures.room n (n + 1) room)

pub returns-then-segment-eq0-clause-room : goal.returns-then-segment-eq0-clause-room
returns-then-segment-eq0-clause-room g c n room = c.open-then-segment-eq0.ensures.room n n (less_room room n (n + 1) (omega arith) (omega arith))

pub append-requires-clause-room : goal.append-requires-clause-room
append-requires-clause-room g c = elim c.if-segment.branch [
  | then-segment w ↦ subst (λ a. HasRoom a 1) (sym w.self-is) (w.widen.ensures.room 1 c.requires.room)
  | else-segment w ↦ subst (λ a. HasRoom a 1) (sym w.self-is) c.requires.room
]

pub returns-clause-room : goal.returns-clause-room
returns-clause-room g c n room = elim c.if-segment.branch [
  | then-segment w ↦ c.append.ensures.room n (subst (λ a. HasRoom a (n + 1)) (sym w.self-is) (w.widen.ensures.room (n + 1) room))
  | else-segment w ↦ c.append.ensures.room n (subst (λ a. HasRoom a (n + 1)) (sym w.self-is) room)
]
