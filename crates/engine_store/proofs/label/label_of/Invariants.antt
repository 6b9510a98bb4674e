use Rattle.std.proofs.Common.{◌≡◌, take}
use Rattle.engine_store.specs.Label.{label_of}
use Rattle.engine_store.proofs.label.label_of.Given as goal

abbrev pub invariant-loop-i : goal.invariant-loop-i
invariant-loop-i l = l.label.items ≡ label_of (take l.i l.names)
