-- Slots that are free.
use Rattle.std.proofs.Common.{◌≡◌, ◌<◌, ℕ, zero, suc, List, [], ◌∷◌, ◌++◌, take, replicate, length, get_or, Option, Some, None, true, refl, ◌∙◌, ap, arith}
use Rattle.std.proofs.lemmas.List.{take_all}
use Rattle.std.specs.Option.{is_none}
use Rattle.teb_rules.specs.declared.names.Cell.{Cell}
use Rattle.hold_book.specs.declared.slots.Alone.{Alone}
use Rattle.hold_book.specs.Slots.{hold_in}

none_more : {A : Type 0} (d : A) (n i : ℕ) → get_or (replicate n d) i d ≡ d
none_more d zero i = refl
none_more d (suc n) zero = refl
none_more d (suc n) (suc i) = none_more d n i

more_slots : {A : Type 0} (d : A) (ss : List A) (n i : ℕ) → get_or (ss ++ replicate n d) i d ≡ get_or ss i d
more_slots d [] n i = none_more d n i
more_slots d (s ∷ ss) n zero = refl
more_slots d (s ∷ ss) n (suc i) = more_slots d ss n i

-- the slots that a resize adds are free
pub resized : {A : Type 0} (d : A) (ss : List A) (m n i : ℕ) → length ss < m → get_or (take m ss ++ replicate n d) i d ≡ get_or ss i d
resized {A} d ss m n i l = ap (λ (ts : List A). get_or (ts ++ replicate n d) i d) (take_all m ss (omega (arith, l))) ∙ more_slots d ss n i

-- no cell is in a free slot
pub held_nowhere : (x : Cell) (o : Option Alone) → is_none o ≡ true → hold_in x o ≡ None
held_nowhere x None e = refl
held_nowhere x (Some a) e = absurd (cc)
