-- Memory for calls that come one after the other.
use Rattle.std.proofs.Common.{◌≡◌, ℕ, ◌+◌, ◌-◌, ◌≤◌, max, refl, ap, ◌∙◌, arith}
use Rattle.crash_disk.specs.declared.room.Room.{Room}
use Rattle.crash_disk.specs.declared.room.Room.TheVariants.{Reserved, Growing}
use Rattle.crash_disk.specs.Spare.{Spare, Covers, IsNoLess, UsesUp, raised}

pub uses_then : (k n e k' n' e' K N E : ℕ) (a b c : Spare) (x y z : ℕ) → k + k' ≤ K → n + n' ≤ N → e ≤ E → e' ≤ E → UsesUp k n e a b x y → UsesUp k' n' e' b c y z → UsesUp K N E a c x z
uses_then k n e k' n' e' K N E a b c x y z le-k le-n le-e le-e' one two = record {
  calls = omega (arith, one.calls, two.calls);
  bytes = omega (arith, one.bytes, two.bytes);
  stays = omega (arith, one.stays, two.stays);
  enough = λ s.
      let first : Covers a k n e = record { calls = omega (arith, s.calls); bytes = omega (arith, s.bytes); within = omega (arith, s.within) } in
      let then : Covers b k' n' e' = record { calls = omega (arith, s.calls, one.calls); bytes = omega (arith, s.bytes, one.bytes); within = omega (arith, s.within, one.stays) } in
      two.enough then ∙ one.enough first;
}

pub uses_less : (k n e K N E : ℕ) (a b : Spare) (x y : ℕ) → k ≤ K → n ≤ N → e ≤ E → UsesUp k n e a b x y → UsesUp K N E a b x y
uses_less k n e K N E a b x y le-k le-n le-e one = record {
  calls = omega (arith, one.calls);
  bytes = omega (arith, one.bytes);
  stays = one.stays;
  enough = λ s. one.enough (record { calls = omega (arith, s.calls); bytes = omega (arith, s.bytes); within = omega (arith, s.within) });
}

pub covers_more : (k n e : ℕ) (a b : Spare) → IsNoLess a b → Covers a k n e → Covers b k n e
covers_more k n e a b more s = record { calls = omega (arith, s.calls, more.calls); bytes = omega (arith, s.bytes, more.bytes); within = omega (arith, s.within, more.end) }

-- memory for n more
pub raised_covers : (r : Room) (n used has more : ℕ) → used + n ≤ max has more → (r ≡ Reserved → used + n ≤ has) → n ≤ raised r has more - used
raised_covers Reserved n used has more wide fits = omega (arith, fits refl)
raised_covers Growing n used has more wide fits = omega (arith, wide)

-- if nothing was used, the spare is unchanged
pub uses_none : (k n e : ℕ) (a b : Spare) (x y : ℕ) → b ≡ a → y ≡ x → UsesUp k n e a b x y
uses_none k n e a b x y is same = record {
  calls = omega (arith, ap (λ (s : Spare). s.calls) is);
  bytes = omega (arith, ap (λ (s : Spare). s.bytes) is);
  stays = omega (arith, ap (λ (s : Spare). s.end) is);
  enough = λ s. same;
}
