use Rattle.std.proofs.Common.{◌<◌, ◌++◌, ◌∷◌, ◌∙◌, [], length, take, ap, sym, arith}
use Rattle.std.proofs.lemmas.List.{take_more}
use Rattle.std.proofs.lemmas.Option.{get_or_from_slice_get}
use Rattle.c_forms.proofs.values.ValueList.scan.Goals as goal

pub loop-i-preserved : goal.loop-i-preserved
loop-i-preserved c =
    let xs = c.args.self.now in
    let i = c.loop-i.i in
    let v = c.at.result in
    let kept = c.loop-i.invariant in
    let within : i < length xs = omega (arith, c.loop-i-test.true, kept.1) in
    let read = get_or_from_slice_get xs i v v c.at.ensures in
    (c.push.ensures ∙ ap (λ ys. ys ++ v ∷ []) kept.0 ∙ ap (λ w. take i xs ++ w ∷ []) (sym read) ∙ sym (take_more xs i v within), kept.1, kept.2, omega (arith, c.loop-i-test.true))
