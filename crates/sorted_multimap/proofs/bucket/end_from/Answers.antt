use Rattle.std.proofs.Common.{◌≡◌, ◌<◌, false, true, length, arith, rules}
use Rattle.std.specs.Ordering.{is_eq}
use Rattle.sorted_multimap.proofs.SortedEntries.{lows_tops, tops_length, tied_more, tied_ends}
use Rattle.sorted_multimap.proofs.bucket.end_from.Goals as goal

pub loop-i-init : goal.loop-i-init
loop-i-init g c = omega (arith, c.requires.start, lows_tops g.K.Ord.cmp g.met.K.Ord.total c.args.keys.now c.args.key c.requires.ascends)

pub loop-i-preserved : goal.loop-i-preserved
loop-i-preserved g c =
    let R = g.K.Ord.cmp in
    let ks = c.args.keys.now in
    let l : c.loop-i.i < length ks = omega (arith, c.loop-i-test.true) in
    let on : is_eq (R c.index-keys-i.result c.args.key) ≡ true = search rules in
    tied_more R g.met.K.Ord.total ks c.args.key c.index-keys-i.result c.loop-i.i c.requires.ascends l (search rules) on

pub returns-then-ne : goal.returns-then-ne
returns-then-ne g c =
    let R = g.K.Ord.cmp in
    let off : is_eq (R c.index-keys-i.result c.args.key) ≡ false = search rules in
    tied_ends R g.met.K.Ord.total c.args.keys.now c.args.key c.index-keys-i.result c.loop-i.i c.requires.ascends (search rules) off (omega (arith, c.requires.start, c.loop-i.auto.i))
    c.loop-i.invariant

pub returns : goal.returns
returns g c = omega (arith, c.loop-i.invariant, c.loop-i-test.false, tops_length g.K.Ord.cmp g.met.K.Ord.total c.args.keys.now c.args.key)
