-- What each transaction has read and put.
use Rattle.std.specs.Prelude.{ℕ, Bool, false, cond, not, ◌&&◌, eqb, List, [], ◌∷◌, Option, Some, None, ℤ}
use Rattle.std.specs.List.{list_any}
use Rattle.teb_rules.specs.declared.names.Cell.{Cell}
use Rattle.teb_rules.specs.names.Cells.{same_cell}
use Rattle.teb_rules.specs.declared.history.Event.{Event}
use Rattle.teb_rules.specs.declared.history.Event.TheVariants.{Got, Put}
use Rattle.teb_rules.specs.history.Positions.{first_event, came}

-- the event is a Put, or a Got, of x by t
abbrev pub is_put : ℕ → Cell → Event → Bool
is_put t x (Put u y v) = eqb u.0 t && same_cell y x
is_put t x _ = false

abbrev pub is_got : ℕ → Cell → Event → Bool
is_got t x (Got u y w v) = eqb u.0 t && same_cell y x
is_got t x _ = false

-- the position of t's first Put of x, and of its first Got
unfoldable pub put_at : List Event → ℕ → Cell → ℕ
put_at H t x = first_event (is_put t x) H

unfoldable pub got_at : List Event → ℕ → Cell → ℕ
got_at H t x = first_event (is_got t x) H

-- t has put x, and has read it
unfoldable pub wrote : List Event → ℕ → Cell → Bool
wrote H t x = came H (put_at H t x)

unfoldable pub got : List Event → ℕ → Cell → Bool
got H t x = came H (got_at H t x)

-- the value of t's last Put of x, and what t last read there; a value is None if there is no row
unfoldable pub last_put : List Event → ℕ → Cell → Option (Option ℤ)
last_put [] t x = None
last_put (Put u y v ∷ P) t x = let r = last_put P t x in cond (eqb u.0 t && same_cell y x) (Some v) r
last_put (_ ∷ P) t x = last_put P t x

unfoldable pub last_got : List Event → ℕ → Cell → Option (Option ℤ)
last_got [] t x = None
last_got (Got u y w v ∷ P) t x = let r = last_got P t x in cond (eqb u.0 t && same_cell y x) (Some v) r
last_got (_ ∷ P) t x = last_got P t x

-- t read from u, another transaction
abbrev pub is_from : ℕ → ℕ → Event → Bool
is_from t u (Got s y w v) = eqb s.0 t && eqb w.0 u && not (eqb t u)
is_from t u _ = false

unfoldable pub read_from : List Event → ℕ → ℕ → Bool
read_from H t u = list_any (is_from t u) H
