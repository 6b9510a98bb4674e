use Rattle.std.proofs.Common.{arith}
use Rattle.sorted_multimap.proofs.BucketEdits.{range_within, take_edited, only_edited, place_found, place_missing, take_found, take_missing}
use Rattle.sorted_multimap.proofs.bucket.Bucket.take_by_number.Goals as goal

pub returns-in_default : goal.returns-in_default
returns-in_default g c =
    take_missing g.K.Ord.cmp g.met.K.Ord.total c.args.self.now c.requires.sorted g.V.Numbered.numbered_by c.args.key c.args.number c.in_default.field-0 c.requires.ascending
    (place_missing g.K.Ord.cmp g.met.K.Ord.total c.args.self.now c.requires.sorted g.V.Numbered.numbered_by c.args.key c.args.number c.in_default.field-0 c.place_in.result.1 c.place_in.ensures.place
    c.in_default.is)

pub returns-then-len-eq1 : goal.returns-then-len-eq1
returns-then-len-eq1 g c =
    let R = g.K.Ord.cmp in
    let total = g.met.K.Ord.total in
    let f = place_found g.K.Ord.cmp g.met.K.Ord.total c.args.self.now c.requires.sorted g.V.Numbered.numbered_by c.args.key c.args.number c.in-Ok.at c.place_in.result.1 c.place_in.ensures.place
    c.in-Ok.is in
    take_found R total c.args.self.now c.requires.sorted g.V.Numbered.numbered_by c.args.key c.args.number c.in-Ok.at c.requires.ascending
    (record { keys = c.clear.new.self; values = c.clear-then-len-eq1.new.self }) f
    (only_edited R total c.args.self.now c.requires.sorted (record { keys = c.clear.new.self; values = c.clear-then-len-eq1.new.self }) c.args.key c.in-Ok.at f.low f.top
    (omega (arith, c.len.ensures, c.if-len-eq1.true)) c.clear.ensures.items c.clear-then-len-eq1.ensures.items
    c.clear.ensures.len c.clear-then-len-eq1.ensures.len (omega (arith, c.clear.ensures.capacity)) (omega (arith, c.clear-then-len-eq1.ensures.capacity)))

pub take_out-requires : goal.take_out-requires
take_out-requires g c =
    let f = place_found g.K.Ord.cmp g.met.K.Ord.total c.args.self.now c.requires.sorted g.V.Numbered.numbered_by c.args.key c.args.number c.in-Ok.at c.place_in.result.1 c.place_in.ensures.place
    c.in-Ok.is in
    omega (arith, f.top, range_within g.K.Ord.cmp g.met.K.Ord.total c.args.self.now c.requires.sorted c.args.key)

pub returns : goal.returns
returns g c =
    let R = g.K.Ord.cmp in
    let total = g.met.K.Ord.total in
    let f = place_found g.K.Ord.cmp g.met.K.Ord.total c.args.self.now c.requires.sorted g.V.Numbered.numbered_by c.args.key c.args.number c.in-Ok.at c.place_in.result.1 c.place_in.ensures.place
    c.in-Ok.is in
    take_found R total c.args.self.now c.requires.sorted g.V.Numbered.numbered_by c.args.key c.args.number c.in-Ok.at c.requires.ascending
    (record { keys = c.take_out.new.v; values = c.take_out-2.new.v }) f
    (take_edited R total c.args.self.now c.requires.sorted (record { keys = c.take_out.new.v; values = c.take_out-2.new.v }) c.args.key c.in-Ok.at f.low f.top c.take_out.ensures.items
    c.take_out-2.ensures.items
    c.take_out.ensures.len c.take_out-2.ensures.len (omega (arith, c.take_out.ensures.capacity)) (omega (arith, c.take_out-2.ensures.capacity)))
