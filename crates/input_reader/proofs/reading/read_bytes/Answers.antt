use Rattle.input_reader.proofs.Parsed.{bytes_read}
use Rattle.input_reader.proofs.reading.read_bytes.Goals as goal

pub returns-clause-bytes : goal.returns-clause-bytes
returns-clause-bytes g c = bytes_read _ _ c.read_all.result c.read_all.ensures.ok c.read_all.ensures.too_long
