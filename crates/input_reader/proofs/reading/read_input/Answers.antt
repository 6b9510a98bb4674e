use Rattle.std.proofs.lemmas.Result.{err_from_is_err_and}
use Rattle.input_reader.proofs.Parsed.{is_unread}
use Rattle.input_reader.proofs.reading.read_input.Goals as goal

pub returns-in_err-bytes-clause-read : goal.returns-in_err-bytes-clause-read
returns-in_err-bytes-clause-read g c =
    let p = err_from_is_err_and c.from_residual.result c.from_residual.ensures.1 in
    rw (p.1, p.2) (is_unread _ _ _ c.in_err-bytes.ensures.bytes)
