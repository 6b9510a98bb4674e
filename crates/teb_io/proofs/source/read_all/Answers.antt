use Rattle.std.proofs.Common.{◌≤◌, ◌+◌, ◌++◌, length, take, arith, length-append}
use Rattle.std.proofs.lemmas.List.{length-take}
use Rattle.std.proofs.KnownBytes.{Consumes-trans}
use Rattle.teb_io.proofs.Taking.{taken_up_to}
use Rattle.teb_io.proofs.source.read_all.Goals as goal

-- the piece for which there was no memory was taken from the source too
pub returns-in_err-extend_from_slice-clause-memory : goal.returns-in_err-extend_from_slice-clause-memory
returns-in_err-extend_from_slice-clause-memory g c memory =
    let count = c.in_ok-count.count in
    let bytes = c.loop-piece.bytes.items in
    let piece = take count c.read.new.buf in
    let asked : length c.read.new.buf ≤ c.min-room.result + 1 = omega (c.read.auto.buf, length-take (c.min-room.result + 1) c.loop-piece.piece, arith) in
    let within : length (bytes ++ piece) ≤ c.args.limit + 1 =
    omega (c.loop-piece.bytes.ok.0, c.len-in-loop-piece.ensures, c.min-room.ensures, length-append bytes piece, length-take count c.read.new.buf, arith) in
    taken_up_to (c.args.limit + 1) _ _ (bytes ++ piece) (Consumes-trans _ _ _ _ _ c.loop-piece.invariant.taken c.in_ok-count.ensures.bytes.0) within
