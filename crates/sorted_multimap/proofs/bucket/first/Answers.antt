use Rattle.std.proofs.Common.{◌≡◌, ◌<◌, false, true, length, refl, arith, rules}
use Rattle.std.specs.Ordering.{is_lt}
use Rattle.sorted_multimap.proofs.SortedEntries.{low_none, low_more, low_ends, low_all}
use Rattle.sorted_multimap.proofs.bucket.first.Goals as goal

pub loop-i-init : goal.loop-i-init
loop-i-init g c = low_none g.K.Ord.cmp c.args.keys.now c.args.key

pub loop-i-preserved : goal.loop-i-preserved
loop-i-preserved g c =
    let R = g.K.Ord.cmp in
    let ks = c.args.keys.now in
    let l : c.loop-i.i < length ks = omega (arith, c.loop-i-test.true) in
    let below : is_lt (R c.index-keys-i.result c.args.key) ≡ true = search rules in
    low_more R ks c.args.key c.index-keys-i.result c.loop-i.i l (search rules) below c.loop-i.invariant

pub returns-then-ne : goal.returns-then-ne
returns-then-ne g c =
    let R = g.K.Ord.cmp in
    let ks = c.args.keys.now in
    let l : c.loop-i.i < length ks = omega (arith, c.loop-i-test.true) in
    let off : is_lt (R c.index-keys-i.result c.args.key) ≡ false = search rules in
    low_ends R g.met.K.Ord.total ks c.args.key c.index-keys-i.result c.loop-i.i c.requires l (search rules) off c.loop-i.invariant

pub returns : goal.returns
returns g c = low_all g.K.Ord.cmp c.args.keys.now c.args.key (length c.args.keys.now) refl (λ j d l. c.loop-i.invariant j d (omega (arith, c.loop-i-test.false)))
