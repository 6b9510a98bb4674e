-- What a context keeps has one proof at most.
use Rattle.std.specs.Prelude.{ℕ, List, [], ◌∷◌}
use Rattle.std.proofs.Props.{props}
use Rattle.std.specs.Coded.{×_prop, Unit-prop, le_prop}
use Rattle.teb_rules.specs.declared.history.Event.{Event}
use Rattle.teb_rules.specs.declared.history.Event.TheVariants.{Began, Got, Put, Ready, Done, Gone, Told}
use Rattle.teb_rules.specs.history.Ascending.{AllAbove, IsAscendingBy}
use Rattle.teb_rules.specs.Setup.{Setup}
use Rattle.teb_rules.specs.laws.Lawful.{Granted, Lawful}
use Rattle.batch_book.specs.Histories.{MayCome, IsNumbered}

pub AllAbove-prop : {A : Type 0} (key : A → ℕ) (n : ℕ) (xs : List A) → IsProp (AllAbove key n xs)
AllAbove-prop key n [] = Unit-prop
AllAbove-prop key n (x ∷ xs) = ×_prop le_prop (AllAbove-prop key n xs)

pub IsAscendingBy-prop : {A : Type 0} (key : A → ℕ) (xs : List A) → IsProp (IsAscendingBy key xs)
IsAscendingBy-prop key [] = Unit-prop
IsAscendingBy-prop key (x ∷ xs) = ×_prop (AllAbove-prop key (key x) xs) (IsAscendingBy-prop key xs)

MayCome-prop : (P : List Event) (e : Event) → IsProp (MayCome P e)
MayCome-prop P (Began t s k i) = Prim.hlevel props
MayCome-prop P (Done t) = Prim.hlevel props
MayCome-prop P (Gone t c) = Prim.hlevel props
MayCome-prop P (Got t x w v) = Unit-prop
MayCome-prop P (Put t x v) = Unit-prop
MayCome-prop P (Ready t) = Unit-prop
MayCome-prop P (Told t) = Unit-prop

pub IsNumbered-prop : (H : List Event) → IsProp (IsNumbered H)
unfolding IsNumbered
IsNumbered-prop [] = Unit-prop
IsNumbered-prop (e ∷ P) = ×_prop (MayCome-prop P e) (IsNumbered-prop P)

Granted-prop : (S : Setup) (P : List Event) (e : Event) → IsProp (Granted S P e)
Granted-prop S P (Began t s k i) = Prim.hlevel props
Granted-prop S P (Got t x w v) = Prim.hlevel props
Granted-prop S P (Put t x v) = Prim.hlevel props
Granted-prop S P (Ready t) = Prim.hlevel props
Granted-prop S P (Done t) = Prim.hlevel props
Granted-prop S P (Gone t c) = Prim.hlevel props
Granted-prop S P (Told t) = Prim.hlevel props

pub Lawful-prop : (S : Setup) (H : List Event) → IsProp (Lawful S H)
unfolding Lawful
Lawful-prop S [] = Unit-prop
Lawful-prop S (e ∷ P) = ×_prop (Granted-prop S P e) (Lawful-prop S P)

pub ruleset kept = (props, IsAscendingBy-prop, IsNumbered-prop, Lawful-prop)
