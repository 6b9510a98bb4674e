-- Vectors as lists.
use Rattle.std.specs.Prelude.{List, map, Vec}
use Rattle.std.specs.declared.alloc.Global.{Global}
use Rattle.record_journal.specs.declared.change.Change.{Change}
use Rattle.record_journal.specs.Format.{Record}

abbrev pub record_lists : List (Vec Change Global) → List Record
record_lists vs = map (λ v. v.items) vs
