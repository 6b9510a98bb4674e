use Rattle.std.proofs.Common.{◌≡◌, ◌<◌, length, ap, rules, arith}
use Rattle.arena_multimap.specs.Arenas.{segment_at}
use Rattle.arena_multimap.specs.declared.arena.Segment.{Segment}
use Rattle.arena_multimap.proofs.Segments.{read_is, same_place, shrunk}
use Rattle.arena_multimap.proofs.arena.Arena.clear.Goals as goal

pub returns-clause-sound : goal.returns-clause-sound
returns-clause-sound g c =
    let ss = c.args.self.now.segments.items in
    let lt : c.args.i < length ss = search rules in
    let is : c.index_mut.result.now ≡ segment_at ss c.args.i = read_is ss c.args.i c.index_mut.result.now lt c.index_mut.ensures.value in
    shrunk ss _ c.args.self.now.debt c.args.i _ c.requires lt (ap (λ (r : Segment). r.start) is) (ap (λ (r : Segment). r.room) is) (omega arith)

pub returns-clause-segments : goal.returns-clause-segments
returns-clause-segments g c j =
    let ss = c.args.self.now.segments.items in
    let lt : c.args.i < length ss = search rules in
    let is : c.index_mut.result.now ≡ segment_at ss c.args.i = read_is ss c.args.i c.index_mut.result.now lt c.index_mut.ensures.value in
    let p = same_place ss _ c.args.self.now.debt c.args.i (record c.index_mut.result.now { len = 0 }) c.requires lt (ap (λ (r : Segment). r.start) is) (ap (λ (r : Segment). r.room) is)
    (omega arith) j in
    p.1
