-- A disk that ends before its halves is given its front.
use Rattle.std.proofs.Common.{◌≡◌, inl, inr, ℕ, ◌≤◌, List, [], ◌∷◌, length, take, drop, refl, sym, ◌∙◌, ap, arith}
use Rattle.crash_disk.specs.Disk.{IsTorn, Holds}
use Rattle.record_journal.specs.Format.{Record}
use Rattle.record_journal.proofs.Torn.{holds_middle}
use Rattle.epoch_journal.specs.declared.current.Current.{Current}
use Rattle.epoch_journal.specs.declared.current.Current.TheVariants as current
use Rattle.epoch_journal.specs.declared.current.Half.TheVariants.{Second}
use Rattle.epoch_journal.specs.Layout.{Layout, front, selected_by}
use Rattle.epoch_journal.specs.Halves.{HasRecords, IsAt, IsSettled}
use Rattle.epoch_journal.proofs.Sizes.{length-front}
use Rattle.epoch_journal.proofs.Fronts.{behind_front}
use Rattle.epoch_journal.proofs.Switching.{settled_has}

pub at_has : (l : Layout) (rs : List Record) (x : Current) (f : List ℕ) → IsAt l rs x f → HasRecords l rs f
at_has l rs current.Blank f at = inr (at.0, inr at.1)
at_has l rs (current.Half h) f at = settled_has l h rs f at

module _ (l : Layout) (rs : List Record) (f : List ℕ) (none : rs ≡ []) (short : length f ≤ 13) where
  pub first_byte : (c : List ℕ) → IsTorn 0 1 f c → HasRecords l rs c
  first_byte c torn = inr (none, inr (omega (arith, torn.no_longer)))

  module _ (mid bytes : List ℕ) (torn : IsTorn 0 1 f mid) (is : bytes ≡ front l.capacity) where
    twelve : length bytes ≡ 12
    twelve = ap length is ∙ length-front l.capacity

    pub front_bytes : (c : List ℕ) → IsTorn 1 (length bytes) mid c → HasRecords l rs c
    front_bytes c fronted = inr (none, inr (omega (arith, fronted.no_longer, torn.no_longer, twelve)))

    pub fronted : (byte : ℕ) (c : List ℕ) → selected_by byte ≡ Second → Holds 0 (byte ∷ []) mid → IsTorn 1 (length bytes) mid c → Holds 1 bytes c → IsSettled l Second rs c
    fronted byte c second selector turn holds = record {
      fronted = record {
        long = omega (arith, holds.within 11 (omega (arith, twelve)));
        is = ap (λ (n : ℕ). take n (drop 1 c)) (sym twelve) ∙ holds_middle 1 bytes c holds (omega (arith, twelve)) ∙ is;
      };
      selects = ap selected_by (turn.stays 0 (omega (arith, selector.within 0 (omega arith))) (inl (omega arith)) ∙ selector.each 0 (omega arith)) ∙ second;
      has = inr (refl, none, omega (arith, turn.no_longer, torn.no_longer, twelve, behind_front l.capacity Second));
    }
