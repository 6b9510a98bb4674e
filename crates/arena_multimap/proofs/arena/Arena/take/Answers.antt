use Rattle.std.proofs.Common.{◌≡◌, ◌+◌, ◌-◌, ◌∙◌, ap, subst, sym, rules, arith, length, set, ℕ}
use Rattle.arena_multimap.specs.Arenas.{segment_at, Lies}
use Rattle.arena_multimap.specs.declared.arena.Segment.{Segment}
use Rattle.arena_multimap.proofs.Segments.{known, read_is, removed, same_place, shrunk}
use Rattle.arena_multimap.proofs.arena.Arena.take.Goals as goal

pub returns-clause-sound : goal.returns-clause-sound
returns-clause-sound g c =
    let ss = c.args.self.now.segments.items in
    let vs = c.args.self.now.values.items in
    let debt = c.args.self.now.debt in
    let r = c.index_mut.result.now in
    let lt = known ss vs c.args.i c.args.at c.requires.at in
    let is : r ≡ segment_at ss c.args.i = read_is _ _ _ lt c.index_mut.ensures.value in
    let same : length c.copy_within.new.self.items ≡ length vs = search rules in
    let less_one : Segment = record { start = r.start; len = r.len - 1; room = r.room } in
    let less = shrunk ss (length vs) debt c.args.i less_one c.requires.sound lt (ap (λ (s : Segment). s.start) is) (ap (λ (s : Segment). s.room) is) (omega (arith, ap (λ (s : Segment). s.len) is)) in
    subst (λ (n : ℕ). Lies (set ss c.args.i less_one) n debt) (sym same) less

pub returns-clause-segments : goal.returns-clause-segments
returns-clause-segments g c j =
    let ss = c.args.self.now.segments.items in
    let vs = c.args.self.now.values.items in
    let r = c.index_mut.result.now in
    let lt = known ss vs c.args.i c.args.at c.requires.at in
    let is : r ≡ segment_at ss c.args.i = read_is _ _ _ lt c.index_mut.ensures.value in
    let less_one : Segment = record { start = r.start; len = r.len - 1; room = r.room } in
    let p = same_place ss (length vs) c.args.self.now.debt c.args.i less_one c.requires.sound lt (ap (λ (s : Segment). s.start) is) (ap (λ (s : Segment). s.room) is)
    (omega (arith, ap (λ (s : Segment). s.len) is)) j in
    p.1

pub returns-clause-values : goal.returns-clause-values
returns-clause-values g c =
    let ss = c.args.self.now.segments.items in
    let vs = c.args.self.now.values.items in
    let r = c.index_mut.result.now in
    let lt = known ss vs c.args.i c.args.at c.requires.at in
    let read : c.index-segment.result.now ≡ segment_at ss c.args.i = read_is _ _ _ lt c.index-segment.ensures in
    let again : r ≡ c.index-segment.result.now = read_is _ _ _ lt c.index_mut.ensures.value ∙ sym read in
    let same : length c.copy_within.new.self.items ≡ length vs = search rules in
    let less_one : Segment = record { start = r.start; len = r.len - 1; room = r.room } in
    removed ss vs c.args.self.now.debt c.args.i c.index-segment.result.now c.requires.sound read c.copy_within.new.self.items c.args.at (c.start.result + c.args.at) c.end.result less_one c.requires.at
    (ap (λ (p : ℕ). p + c.args.at) c.start.ensures) c.end.ensures (ap (λ (s : Segment). s.start) again) (ap (λ (s : Segment). s.len - 1) again) same
    c.copy_within.ensures.by_index.0 c.copy_within.ensures.by_index.1 c.copy_within.ensures.by_index.2
