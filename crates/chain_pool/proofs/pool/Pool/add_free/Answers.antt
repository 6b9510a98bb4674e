use Rattle.std.proofs.Common.{◌≡◌, ◌+◌, ◌<◌, ◌^◌, arith, length}
use Rattle.chain_pool.specs.Heads.{last_of}
use Rattle.chain_pool.proofs.Growing.{grown, grown_lasts, grown_versions}
use Rattle.chain_pool.proofs.pool.Pool.add_free.Goals as goal

pub returns-clause-sound : goal.returns-clause-sound
returns-clause-sound c =
    let s = c.requires.sound in
    let p = c.args.self.now in
    let q_is : c.len-first.result ≡ length p.places.items = omega (arith, c.len-first.ensures, p.places.ok.0) in
    let none : p.unused.len ≡ 0 = omega (arith, c.if-self-gt0.false) in
    let short : length p.places.items + 1 < 2 ^ 32 = omega (arith, c.requires.room.short, p.places.ok.0) in
    record {
      linked = grown p.places.items c.push_reserved.new.self.items _ _ p.unused s.linked c.len-first.result c.push_reserved.ensures.items q_is none short;
      lasts = grown_lasts p.places.items c.push_reserved.new.self.items _ _ p.unused s.linked c.len-first.result c.push_reserved.ensures.items q_is none short (last_of p.cells.entries) s.lasts;
      busy = s.busy;
    }

pub returns-clause-same : goal.returns-clause-same
returns-clause-same c x =
    let p = c.args.self.now in
    let q_is : c.len-first.result ≡ length p.places.items = omega (arith, c.len-first.ensures, p.places.ok.0) in
    let none : p.unused.len ≡ 0 = omega (arith, c.if-self-gt0.false) in
    let short : length p.places.items + 1 < 2 ^ 32 = omega (arith, c.requires.room.short, p.places.ok.0) in
    grown_versions p.places.items c.push_reserved.new.self.items _ _ p.unused c.requires.sound.linked c.len-first.result c.push_reserved.ensures.items q_is none short x
