-- The contents of a vector after a slice of the whole vector was written.
use Rattle.std.proofs.Common.{◌≡◌, ℕ, List, ◌++◌, length, take, drop, arith}
use Rattle.std.proofs.lemmas.List.{append-nil, drop_all, take_all}

pub written_back : (len : ℕ) (new old : List ℕ) → length new ≡ length old → len ≡ length old → take len (new ++ drop (length new) old) ≡ new
written_back len new old e f = rw (drop_all (length new) old (omega arith), append-nil) (take_all len new (omega arith))
