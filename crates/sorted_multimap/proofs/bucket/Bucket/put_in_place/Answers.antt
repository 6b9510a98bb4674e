use Rattle.std.proofs.Common.{refl, arith}
use Rattle.std.proofs.Math.Bool.{or-true}
use Rattle.sorted_multimap.proofs.BucketEdits.{range_within, left_alone, place_found, place_missing, put_found, put_missing}
use Rattle.sorted_multimap.proofs.bucket.Bucket.put_in_place.Goals as goal

pub index_mut-requires : goal.index_mut-requires
index_mut-requires g c =
    let f = place_found g.K.Ord.cmp g.met.K.Ord.total c.args.self.now c.requires.sorted g.V.Numbered.numbered_by c.args.key (g.V.Numbered.numbered_by c.args.value) c.in-Ok.at c.args.place
    c.requires.place c.in-Ok.is in
    omega (arith, f.top, c.requires.sorted.paired, range_within g.K.Ord.cmp g.met.K.Ord.total c.args.self.now c.requires.sorted c.args.key)

pub returns-in-Ok-clause-edited : goal.returns-in-Ok-clause-edited
returns-in-Ok-clause-edited g c =
    let f = place_found g.K.Ord.cmp g.met.K.Ord.total c.args.self.now c.requires.sorted g.V.Numbered.numbered_by c.args.key (g.V.Numbered.numbered_by c.args.value) c.in-Ok.at c.args.place
    c.requires.place c.in-Ok.is in
    rw c.if-replace.true (put_found g.K.Ord.cmp g.met.K.Ord.total c.args.self.now c.requires.sorted g.V.Numbered.numbered_by c.args.key c.args.value c.in-Ok.at f)

pub returns-in-Ok-2-clause-edited : goal.returns-in-Ok-2-clause-edited
returns-in-Ok-2-clause-edited g c = rw c.if-replace.false (left_alone g.K.Ord.cmp g.met.K.Ord.total c.args.self.now c.requires.sorted c.args.key _ refl)

pub returns-in-Err-clause-edited : goal.returns-in-Err-clause-edited
returns-in-Err-clause-edited g c =
    let f = place_missing g.K.Ord.cmp g.met.K.Ord.total c.args.self.now c.requires.sorted g.V.Numbered.numbered_by c.args.key (g.V.Numbered.numbered_by c.args.value) c.in-Err.at c.args.place
    c.requires.place c.in-Err.is in
    rw (or-true c.args.replace) (put_missing g.K.Ord.cmp g.met.K.Ord.total c.args.self.now c.requires.sorted g.V.Numbered.numbered_by c.args.key c.args.value c.in-Err.at c.put_at.new.self f
    c.put_at.ensures)
