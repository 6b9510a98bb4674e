use Rattle.std.proofs.Common.{◌≡◌, ℕ, ◌+◌, ap}
use Rattle.arena_multimap.specs.Arenas.{segment_at}
use Rattle.arena_multimap.proofs.Segments.{known, read_is, replaced}
use Rattle.arena_multimap.proofs.arena.Arena.replace.Goals as goal

pub returns-clause-values : goal.returns-clause-values
returns-clause-values g c =
    let is : c.index.result.now ≡ segment_at c.args.self.now.segments.items c.args.i = read_is _ _ _ (known _ c.args.self.now.values.items c.args.i c.args.at c.requires.at) c.index.ensures in
    replaced c.args.self.now.segments.items c.args.self.now.values.items c.args.self.now.debt c.args.i c.index.result.now c.requires.sound is c.args.at (c.start.result + c.args.at) c.args.value
    c.requires.at (ap (λ (p : ℕ). p + c.args.at) c.start.ensures)
