-- The words of the command line.
use Rattle.std.specs.Prelude.{List, [], drop, Result, Ok, Err, String}
use Rattle.std.specs.declared.alloc.Global.{Global}
use Rattle.std.specs.declared.io.Error.{Error}
use Rattle.std.specs.declared.vec.IntoIter.{IntoIter}
use Rattle.std.specs.Vec.Iter.{into_iter_items}

-- those behind the program's name; none where one of them is no text
abbrev pub words_in : Result (IntoIter (String Global) Global) Error → List (String Global)
words_in (Ok args) = drop 1 (into_iter_items args)
words_in (Err error) = []
