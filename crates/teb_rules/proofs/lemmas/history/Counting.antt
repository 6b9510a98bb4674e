-- The number of begun transactions after one more event.
use Rattle.std.proofs.Common.{◌≡◌, ◌+◌, ◌≤◌, true, false, List, [], ◌∷◌, length, refl, arith}
use Rattle.teb_rules.specs.declared.history.Event.{Event}
use Rattle.teb_rules.specs.declared.history.Event.TheVariants.{Began, Got, Put, Ready, Done, Gone, Told}
use Rattle.teb_rules.specs.history.Phases.{begun_count}
use Rattle.teb_rules.specs.history.Written.{is_begin}

pub count_begin : (e : Event) (P : List Event) → is_begin e ≡ true → begun_count (e ∷ P) ≡ begun_count P + 1
unfolding begun_count
count_begin (Began t s k i) P h = omega arith
count_begin _ P h = absurd (cc)

pub count_other : (e : Event) (P : List Event) → is_begin e ≡ false → begun_count (e ∷ P) ≡ begun_count P
unfolding begun_count
count_other (Began t s k i) P h = absurd (cc)
count_other (Got t x w v) P h = refl
count_other (Put t x v) P h = refl
count_other (Ready t) P h = refl
count_other (Done t) P h = refl
count_other (Gone t c) P h = refl
count_other (Told t) P h = refl

-- at most as many transactions have begun as there are events
pub begun_fewer : (H : List Event) → begun_count H ≤ length H
unfolding begun_count
begun_fewer [] = omega arith
begun_fewer (Began t s k i ∷ H) = let z = begun_fewer H in omega arith
begun_fewer (_ ∷ H) = let z = begun_fewer H in omega arith
