-- A store in memory or in a file, as contracts see both.
use Rattle.std.specs.Prelude.{Some, None}
use Rattle.tebaldi_c.specs.Shelves.{ShelfState}
use Rattle.tebaldi_c.specs.declared.contents.Contents.{Contents}
use Rattle.tebaldi_c.specs.declared.contents.Contents.TheVariants.{Memory, File}

abbrev pub state_of : Contents → ShelfState
state_of (Memory e) = record { engine = e; file = None }
state_of (File f) = record { engine = f.engine; file = Some f.file }
