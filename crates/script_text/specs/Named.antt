-- What has a name for each number in it.
use Rattle.std.specs.Prelude.{◌<◌, All, List, length, ℤ}
use Rattle.teb_rules.specs.declared.names.Cell.{Cell}
use Rattle.teb_rules.specs.declared.names.Node.{Node}
use Rattle.teb_rules.specs.declared.names.Cause.{Cause}
use Rattle.teb_rules.specs.declared.names.Cause.TheVariants as cause
use Rattle.teb_rules.specs.declared.names.Reply.{Reply}
use Rattle.teb_rules.specs.declared.names.Reply.TheVariants as reply
use Rattle.teb_rules.specs.declared.names.naming.NameBook.{NameBook}
use Rattle.teb_rules.specs.declared.history.Event.{Event}
use Rattle.teb_rules.specs.declared.history.Event.TheVariants as event

module _ (names : NameBook) where
  abbrev pub CellNamed : Cell → Type 0
  CellNamed x = x.table.0 < length names.tables

  abbrev pub NodeNamed : Node → Type 0
  NodeNamed n = n.0 < length names.nodes

  abbrev pub CauseNamed : Cause → Type 0
  CauseNamed (cause.Late n r x) = NodeNamed n × CellNamed x
  CauseNamed (cause.First n w x) = NodeNamed n × CellNamed x
  CauseNamed (cause.Pivot n a b c d) = NodeNamed n
  CauseNamed (cause.Newer n u) = NodeNamed n
  CauseNamed _ = Unit {0}

  abbrev pub ReplyNamed : Reply → Type 0
  ReplyNamed (reply.Again u n) = NodeNamed n
  ReplyNamed (reply.Aborted c) = CauseNamed c
  ReplyNamed _ = Unit {0}

  abbrev pub EventNamed : Event → Type 0
  EventNamed (event.Began t s k i) = k.0 < length names.types
  EventNamed (event.Got t x u v) = CellNamed x
  EventNamed (event.Put t x v) = CellNamed x
  EventNamed (event.Gone t c) = CauseNamed c
  EventNamed _ = Unit {0}

  abbrev pub RowsNamed : List (Cell × ℤ) → Type 0
  RowsNamed rows = All (λ r. CellNamed r.0) rows
