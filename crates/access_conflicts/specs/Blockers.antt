-- Which hold is in the way of an access.
use Rattle.std.specs.Prelude.{ℕ, Bool, ◌&&◌, ◌||◌, List}
use Rattle.teb_rules.specs.declared.history.Event.{Event}
use Rattle.teb_rules.specs.Setup.{Setup}
use Rattle.teb_rules.specs.Tree.{meets}
use Rattle.hold_book.specs.declared.Hold.{Hold}

-- an unfinished holder is in the way of t's access
abbrev pub in_the_way : Setup → List Event → ℕ → ℕ → Bool → Hold → Bool
in_the_way S H n t write h = (write || h.wrote) && meets S H n t h.txn.0
