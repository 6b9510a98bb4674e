use Rattle.std.proofs.Common.{refl, arith}
use Rattle.std.proofs.lemmas.Simd.{zip2_splat}
use Rattle.script_text.specs.Lines.{is_feed}
use Rattle.script_text.proofs.Loads.{masked}
use Rattle.script_text.proofs.script.fronts.feeds_of.Goals as goal

pub returns : goal.returns
returns c =
    let v = c.args.bytes in
    let long = c.fits-bytes.0 in
    masked _ is_feed refl v _ (omega arith) c.fits-bytes.1 (zip2_splat _ v 32 10 long)
