use Rattle.std.proofs.Common.{◌≡◌, ◌+◌, refl, arith, ap}
use Rattle.arena_multimap.specs.Arenas.{segment_at}
use Rattle.arena_multimap.specs.declared.arena.Segment.{Segment}
use Rattle.arena_multimap.proofs.Segments.{read_is, appended}
use Rattle.arena_multimap.proofs.arena.Arena.append.Goals as goal

pub returns-clause-values : goal.returns-clause-values
returns-clause-values g c =
    let ss = c.args.self.now.segments.items in
    let r = c.index_mut-2.result.now in
    let read : c.index.result.now ≡ segment_at ss c.args.i = read_is _ _ _ c.requires.within c.index.ensures in
    let is : r ≡ segment_at ss c.args.i = read_is _ _ _ c.requires.within c.index_mut-2.ensures.value in
    let start = ap (λ (s : Segment). s.start) is in
    let len = ap (λ (s : Segment). s.len) is in
    let room = ap (λ (s : Segment). s.room) is in
    let here : c.end-place.result ≡ r.start + r.len = omega (arith, c.end-place.ensures, start, len, ap (λ (s : Segment). s.start) read, ap (λ (s : Segment). s.len) read) in
    appended ss c.args.self.now.values.items c.args.self.now.debt c.args.i r c.requires.sound is c.end-place.result c.args.value _
    c.requires.within (omega (arith, c.requires.wide, len, room)) here refl refl
