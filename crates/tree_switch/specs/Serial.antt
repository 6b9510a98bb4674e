-- The serial orders of the phases as one order.
use Rattle.std.specs.Prelude.{◌≡◌, ℕ, List, [], ◌∷◌, map}
use Rattle.std.specs.List.{All, flat_map}
use Rattle.teb_rules.specs.declared.names.Cell.{Cell}
use Rattle.teb_rules.specs.declared.history.Event.{Event}
use Rattle.teb_rules.specs.Ranks.{serial_order}
use Rattle.teb_rules.specs.Replay.{Values, GotsRight, after_puts}
use Rattle.teb_rules.specs.Serializes.{Serializes}
use Rattle.engine_core.specs.EngineModel.{EngineModel}
use Rattle.tree_switch.specs.Courses.{Course, phases, first, start_of, end_of}

-- transactions, each with the history of its phase
abbrev pub Order : Type 0
Order = List (List Event × ℕ)

-- the serial order of a phase, and those of phases one after the other
abbrev pub order_of : EngineModel → Order
order_of e = map (λ t. (e.events, t)) (serial_order e.store.setup e.events)

abbrev pub whole_order : List EngineModel → Order
whole_order es = flat_map order_of es

-- the table after the transactions of an order, one after the other, and that all that they read is right
abbrev pub table_along : Order → Values → Values
table_along [] T = T
table_along (r ∷ rest) T = table_along rest (after_puts r.0 r.1 T)

abbrev pub ReadsRight : Order → Values → Type 0
ReadsRight [] T = Unit {0}
ReadsRight (r ∷ rest) T = GotsRight r.0 r.1 T × ReadsRight rest (after_puts r.0 r.1 T)

-- run along the whole order from the first starting rows, the committed transactions of all phases read what they read, and leave the
-- present final table; and the order of each phase serializes its history over its own starting rows
pub record IsSerial (p : Course) : Type 0 where
  pub reads : ReadsRight (whole_order (phases p)) (start_of (first p))
  pub final : (x : Cell) → table_along (whole_order (phases p)) (start_of (first p)) x ≡ end_of p.present x
  pub each : All (λ e. Serializes e.store e.events (serial_order e.store.setup e.events)) (phases p)
