-- Histories in which each event may follow those before it.
use Rattle.std.specs.Prelude.{◌≡◌, suc, List, [], ◌∷◌, IsTrue}
use Rattle.teb_rules.specs.declared.history.Event.{Event}
use Rattle.teb_rules.specs.declared.history.Event.TheVariants.{Began, Got, Put, Ready, Done, Gone, Told}
use Rattle.teb_rules.specs.history.Phases.{begun_count, aborted, unfinished}

-- the event may follow P
abbrev pub MayFollow : List Event → Event → Type 0
MayFollow P (Began t s k i) = t.0 ≡ suc (begun_count P)
MayFollow P (Got t x w v) = IsTrue (unfinished P t.0)
MayFollow P (Put t x v) = IsTrue (unfinished P t.0)
MayFollow P (Ready t) = IsTrue (unfinished P t.0)
MayFollow P (Done t) = IsTrue (unfinished P t.0)
MayFollow P (Gone t c) = IsTrue (unfinished P t.0)
MayFollow P (Told t) = IsTrue (aborted P t.0)

-- each event may follow those before it
unfoldable pub Orderly : List Event → Type 0
Orderly [] = Unit {0}
Orderly (e ∷ P) = MayFollow P e × Orderly P
