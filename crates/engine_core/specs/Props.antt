-- What an engine keeps, and what a decision looks at, has one proof at most.
use Rattle.std.specs.Prelude.{ℕ, List, [], ◌∷◌}
use Rattle.std.proofs.Props.{props}
use Rattle.std.specs.Coded.{×_prop, Π_prop, →_prop, Unit-prop}
use Rattle.teb_rules.specs.declared.names.Cell.{Cell}
use Rattle.teb_rules.specs.declared.names.Txn.{Txn}
use Rattle.teb_rules.specs.declared.history.Event.{Event}
use Rattle.teb_rules.specs.declared.history.Event.TheVariants.{Began, Got, Put, Ready, Done, Gone, Told}
use Rattle.teb_rules.specs.Setup.{Setup, Store}
use Rattle.teb_rules.specs.Serializes.{Pairs}
use Rattle.version_chain.specs.Lists.{Version}
use Rattle.phase_api.specs.Versions.{HaveLastValues}
use Rattle.dependency_book.specs.Books.{Lists}
use Rattle.dependency_book.specs.Orderly.{MayFollow, Orderly}
use Rattle.timestamp_node.specs.Reads.{IsTimely}
use Rattle.snapshot_node.specs.Props.{IsAscendingBy-prop, IsNumbered-prop, Lawful-prop}
use Rattle.engine_core.specs.declared.any_control.AnyControl.{AnyControl}
use Rattle.engine_core.specs.declared.any_control.AnyControl.TheVariants.{Locks, Pipeline, Timestamp, Snapshot}
use Rattle.engine_core.specs.AnyControls.{any_stands}
use Rattle.engine_core.specs.Wholes.{IsWhole, HaveRoom}

pub HaveLastValues-prop : (H : List Event) (x : Cell) (vs : List Version) → IsProp (HaveLastValues H x vs)
HaveLastValues-prop H x [] = Unit-prop
HaveLastValues-prop H x (v ∷ vs) = ×_prop (Prim.hlevel props) (HaveLastValues-prop H x vs)

pub Pairs-prop : (R : ℕ → ℕ → Type 0) → ((s u : ℕ) → IsProp (R s u)) → (ss : List ℕ) → IsProp (Pairs R ss)
Pairs-prop R each [] = Unit-prop
Pairs-prop R each (s ∷ ss) = ×_prop (Π_prop (λ u. →_prop (each s u))) (Pairs-prop R each ss)

MayFollow-prop : (P : List Event) (e : Event) → IsProp (MayFollow P e)
MayFollow-prop P (Began t s k i) = Prim.hlevel props
MayFollow-prop P (Got t x w v) = Prim.hlevel props
MayFollow-prop P (Put t x v) = Prim.hlevel props
MayFollow-prop P (Ready t) = Prim.hlevel props
MayFollow-prop P (Done t) = Prim.hlevel props
MayFollow-prop P (Gone t c) = Prim.hlevel props
MayFollow-prop P (Told t) = Prim.hlevel props

pub Orderly-prop : (H : List Event) → IsProp (Orderly H)
unfolding Orderly
Orderly-prop [] = Unit-prop
Orderly-prop (e ∷ P) = ×_prop (MayFollow-prop P e) (Orderly-prop P)

pub IsTimely-prop : (H : List Event) → IsProp (IsTimely H)
unfolding IsTimely
IsTimely-prop [] = Unit-prop
IsTimely-prop (Began t s k i ∷ P) = IsTimely-prop P
IsTimely-prop (Got t x w v ∷ P) = ×_prop (Prim.hlevel props) (IsTimely-prop P)
IsTimely-prop (Put t x v ∷ P) = IsTimely-prop P
IsTimely-prop (Ready t ∷ P) = IsTimely-prop P
IsTimely-prop (Done t ∷ P) = IsTimely-prop P
IsTimely-prop (Gone t c ∷ P) = IsTimely-prop P
IsTimely-prop (Told t ∷ P) = IsTimely-prop P

ruleset of_controls = (props, IsAscendingBy-prop, IsNumbered-prop, Lawful-prop, IsTimely-prop)

pub any_stands-prop : (c : AnyControl) (S : Setup) (H : List Event) → IsProp (any_stands c S H)
any_stands-prop (Locks c) S H = Prim.hlevel of_controls
any_stands-prop (Pipeline c) S H = Prim.hlevel of_controls
any_stands-prop (Timestamp c) S H = Prim.hlevel of_controls
any_stands-prop (Snapshot c) S H = Prim.hlevel of_controls

ruleset of_wholes = (props, Lawful-prop, HaveLastValues-prop, Pairs-prop, Orderly-prop, any_stands-prop)

pub IsWhole-prop : (X : Store) (H : List Event) (cs : List AnyControl) (L : Cell → List Version) (b : Lists) (steps : List ℕ) (last : List Txn) → IsProp (IsWhole X H cs L b steps last)
IsWhole-prop X H cs L b steps last = Prim.hlevel of_wholes

pub HaveRoom-prop : (k history : ℕ) (cs : List AnyControl) (book versions cursors : ℕ) → IsProp (HaveRoom k history cs book versions cursors)
HaveRoom-prop k history cs book versions cursors = Prim.hlevel props

pub ruleset kept = (props, IsWhole-prop, HaveRoom-prop)
