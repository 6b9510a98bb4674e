use Rattle.std.proofs.Common.{refl, arith}
use Rattle.std.proofs.lemmas.Simd.{zip2_splat}
use Rattle.script_text.specs.Words.{is_inside}
use Rattle.script_text.proofs.Loads.{joined, masked}
use Rattle.script_text.proofs.script.words.inside_of_half.Goals as goal

pub returns : goal.returns
returns c =
    let v = c.args.bytes in
    let long = c.fits-bytes.0 in
    masked _ is_inside refl v _ (omega arith) c.fits-bytes.1 (joined _ _ _ v (zip2_splat _ v 16 32 long) (zip2_splat _ v 16 9 long))
