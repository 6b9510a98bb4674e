-- What a context keeps has one proof at most.
use Rattle.std.specs.Prelude.{ℕ, List, [], ◌∷◌}
use Rattle.std.proofs.Props.{props}
use Rattle.std.specs.Coded.{×_prop, Π_prop, →_prop, Unit-prop}
use Rattle.teb_rules.specs.declared.names.Cell.{Cell}
use Rattle.teb_rules.specs.declared.history.Event.{Event}
use Rattle.teb_rules.specs.Serializes.{Pairs}
use Rattle.version_chain.specs.Lists.{Version}
use Rattle.phase_api.specs.Versions.{HaveLastValues}
use Rattle.snapshot_node.specs.Props.{IsNumbered-prop, Lawful-prop}

pub HaveLastValues-prop : (H : List Event) (x : Cell) (vs : List Version) → IsProp (HaveLastValues H x vs)
HaveLastValues-prop H x [] = Unit-prop
HaveLastValues-prop H x (v ∷ vs) = ×_prop (Prim.hlevel props) (HaveLastValues-prop H x vs)

pub Pairs-prop : (R : ℕ → ℕ → Type 0) → ((s u : ℕ) → IsProp (R s u)) → (ss : List ℕ) → IsProp (Pairs R ss)
Pairs-prop R each [] = Unit-prop
Pairs-prop R each (s ∷ ss) = ×_prop (Π_prop (λ u. →_prop (each s u))) (Pairs-prop R each ss)

pub ruleset kept = (props, IsNumbered-prop, Lawful-prop, HaveLastValues-prop, Pairs-prop)
