use Rattle.std.proofs.lemmas.Result.{err_from_is_err_and}
use Rattle.phase_runner.proofs.Parted.{has_parts}
use Rattle.phase_runner.proofs.reading.read_phases.Goals as goal

pub returns-in_err-parts : goal.returns-in_err-parts
returns-in_err-parts c =
    let p = err_from_is_err_and c.from_residual.result c.from_residual.ensures.1 in
    let r = has_parts c.args.bytes.now in
    (r.0, r.1, rw (p.1, p.2) tt)
