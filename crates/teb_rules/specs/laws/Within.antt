-- Replies and events name only what exists: nodes of the tree, tables and types of the store.
use Rattle.std.specs.Prelude.{◌<◌, List, [], ◌∷◌, length}
use Rattle.teb_rules.specs.declared.names.Node.{Node}
use Rattle.teb_rules.specs.declared.names.Cell.{Cell}
use Rattle.teb_rules.specs.declared.names.Session.{Session}
use Rattle.teb_rules.specs.declared.names.Request.{Request}
use Rattle.teb_rules.specs.declared.names.Cause.{Cause}
use Rattle.teb_rules.specs.declared.names.Cause.TheVariants as cause
use Rattle.teb_rules.specs.declared.names.Reply.{Reply}
use Rattle.teb_rules.specs.declared.names.Reply.TheVariants.{Again, Aborted}
use Rattle.teb_rules.specs.declared.history.Event.{Event}
use Rattle.teb_rules.specs.declared.history.Event.TheVariants.{Began, Got, Put, Gone}
use Rattle.teb_rules.specs.Setup.{Store}
use Rattle.teb_rules.specs.Answer.{answer}

module _ (X : Store) where
  abbrev pub NodeWithin : Node → Type 0
  NodeWithin n = n.0 < length X.setup.tree

  abbrev pub CellWithin : Cell → Type 0
  CellWithin x = x.table.0 < X.tables

  abbrev pub CauseWithin : Cause → Type 0
  CauseWithin (cause.Late n r x) = NodeWithin n × CellWithin x
  CauseWithin (cause.First n w x) = NodeWithin n × CellWithin x
  CauseWithin (cause.Pivot n a b c d) = NodeWithin n
  CauseWithin (cause.Newer n u) = NodeWithin n
  CauseWithin _ = Unit {0}

  abbrev pub ReplyWithin : Reply → Type 0
  ReplyWithin (Again u n) = NodeWithin n
  ReplyWithin (Aborted c) = CauseWithin c
  ReplyWithin _ = Unit {0}

  abbrev pub EventWithin : Event → Type 0
  EventWithin (Began t s k i) = k.0 < X.setup.types
  EventWithin (Got t x w v) = CellWithin x
  EventWithin (Put t x v) = CellWithin x
  EventWithin (Gone t c) = CauseWithin c
  EventWithin _ = Unit {0}

  abbrev pub AllWithin : List Event → Type 0
  AllWithin [] = Unit {0}
  AllWithin (e ∷ P) = EventWithin e × AllWithin P

-- the events of a history, and the reply to every further request
pub record StaysWithin (X : Store) (H : List Event) : Type 0 where
  pub events : AllWithin X H
  pub replies : (s : Session) (r : Request) → ReplyWithin X (answer X H s r).0
