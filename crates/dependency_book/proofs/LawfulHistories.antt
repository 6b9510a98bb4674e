-- An event that the rules grant may follow the history.
use Rattle.std.proofs.Common.{List}
use Rattle.teb_rules.specs.declared.history.Event.{Event}
use Rattle.teb_rules.specs.declared.history.Event.TheVariants.{Began, Got, Put, Ready, Done, Gone, Told}
use Rattle.teb_rules.specs.Setup.{Setup}
use Rattle.teb_rules.specs.laws.Lawful.{Granted}
use Rattle.dependency_book.specs.Orderly.{MayFollow}

pub granted_follows : (S : Setup) (P : List Event) (e : Event) → Granted S P e → MayFollow P e
granted_follows S P (Began t s k i) g = g.0
granted_follows S P (Got t x w v) g = g.0.unfinished
granted_follows S P (Put t x v) g = g.unfinished
granted_follows S P (Ready t) g = g.unfinished
granted_follows S P (Done t) g = g.unfinished
granted_follows S P (Gone t c) g = g
granted_follows S P (Told t) g = g
