-- Which history the register of a node stands for.
use Rattle.std.specs.Prelude.{◌≡◌, ◌<◌, ◌≤◌, ◌-◌, ℕ, zero, suc, min, Bool, true, false, List, length, get_or, vec_len, vec_capacity}
use Rattle.teb_rules.specs.declared.history.Event.{Event}
use Rattle.teb_rules.specs.declared.history.Event.TheVariants.{Put}
use Rattle.teb_rules.specs.history.Phases.{begun_count}
use Rattle.teb_rules.specs.Setup.{Setup}
use Rattle.teb_rules.specs.Tree.{on}
use Rattle.phase_api.specs.FactsView.{IsOrderly}
use Rattle.hold_book.specs.Books.{Held}
use Rattle.hold_book.specs.Holders.{HoldsOf}
use Rattle.access_conflicts.specs.declared.hold_register.HoldRegister.{HoldRegister}

-- the history is orderly, and the book shows the holds at node n
pub record BookStands (n : ℕ) (book : Held) (S : Setup) (H : List Event) : Type 0 where
  pub orderly : IsOrderly S H
  pub holds : HoldsOf book S H n

-- whether n is on the path of transaction t, by the list; transactions are numbered from 1
abbrev pub is_here : List Bool → ℕ → Bool
is_here here zero = false
is_here here (suc i) = get_or here i false

-- the list says of each transaction that has begun whether node n is on its path
pub record AreHere (here : List Bool) (S : Setup) (H : List Event) (n : ℕ) : Type 0 where
  pub counted : length here ≡ begun_count H
  pub told : (t : ℕ) → 0 < t → t ≤ begun_count H → is_here here t ≡ on S H n t

-- the register shows the holds at its node, and which transactions have the node on their paths
pub record Registered (r : HoldRegister) (S : Setup) (H : List Event) : Type 0 where
  pub book : BookStands r.node.0 r.book S H
  pub here : AreHere r.here.items S H r.node.0

-- for how many events it has room
abbrev pub register_spare : HoldRegister → ℕ
register_spare r = min r.book.spare (vec_capacity r.here - vec_len r.here)

-- whether an event puts
abbrev pub puts : Event → Bool
puts (Put t x v) = true
puts _ = false
