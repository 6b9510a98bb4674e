-- The other half becomes the current one.
use Rattle.std.proofs.Common.{◌≡◌, inl, inr, ⊎_elim, ◌⊎◌, ℕ, ◌+◌, ◌-◌, ◌<◌, ◌≤◌, List, [], ◌∷◌, ◌++◌, length, drop, refl, sym, ◌∙◌, ap, subst, arith, append_assoc, length-append}
use Rattle.crash_disk.specs.Disk.{IsTorn, IsOutside, Holds}
use Rattle.record_journal.specs.Format.{Record, body, records}
use Rattle.record_journal.proofs.Torn.{two_parts, holds_middle}
use Rattle.epoch_journal.specs.declared.current.Half.{Half}
use Rattle.epoch_journal.specs.declared.current.Half.TheVariants.{First, Second}
use Rattle.epoch_journal.specs.Layout.{Layout, other_half, selected_by, half_of, half_size, half_at, half, header}
use Rattle.epoch_journal.specs.Halves.{HasRecords, HasOneOf, IsFronted, IsHalf, IsResting, IsSettled, IsPiece, IsEither}
use Rattle.epoch_journal.proofs.Fronts.{behind_front, same_selector, same_front, same_fronted, turned_fronted, same_half, holds_half, far_half, half_front, rests_half}

apart : (capacity : ℕ) (h : Half) (p n m i : ℕ) → p ≡ half_at capacity (other_half h) → n ≤ half_size capacity → i < m → m ≤ half_size capacity → IsOutside p n (half_at capacity h + i)
apart capacity First p n m i is few lt le = inl (omega (arith, is, few, lt, le))
apart capacity Second p n m i is few lt le = inr (omega (arith, is, few, lt, le))

low : (capacity : ℕ) (h : Half) → h ≡ Second → half_at capacity (other_half h) ≡ 13
low capacity First is = absurd (cc is)
low capacity Second is = refl

pub two_values : (a b : Half) → (a ≡ b) ⊎ (a ≡ other_half b)
two_values First First = inl refl
two_values First Second = inr refl
two_values Second First = inr refl
two_values Second Second = inl refl

pub settled_has : (l : Layout) (h : Half) (rs : List Record) (c : List ℕ) → IsSettled l h rs c → HasRecords l rs c
settled_has l h rs c settled = ⊎_elim
    (λ whole. inl (record { fronted = settled.fronted; has = subst (λ (b : Half). IsHalf l rs (half l b c)) (sym settled.selects) whole }))
    (λ none. inr (none.1, inl (record { fronted = settled.fronted; second = settled.selects ∙ none.0; short = none.2 })))
    settled.has

pub either_has : (l : Layout) (h : Half) (rs : List Record) (r : Record) (c : List ℕ) → IsEither l h rs r c → HasOneOf l rs (r ∷ []) c
either_has l h rs r c (inl old) = inl (settled_has l h rs c old)
either_has l h rs r c (inr new) = inr (settled_has l (other_half h) (r ∷ []) c new)

-- a write of the first byte that makes this half current
turned : (l : Layout) (h : Half) (rs : List Record) (f c : List ℕ) → IsTorn 0 1 f c → half_of c ≡ h → IsSettled l h rs f → IsSettled l h rs c
turned l h rs f c turn is settled = record {
  fronted = turned_fronted l.capacity f c turn settled.fronted;
  selects = is;
  has = ⊎_elim
      (λ whole. inl (subst (IsHalf l rs) (sym (same_half l h f c turn (omega (arith, settled.fronted.long)))) whole))
      (λ none. inr (none.0, none.1, omega (arith, turn.no_longer, none.2, settled.fronted.long)))
      settled.has;
}

module _ (l : Layout) (h : Half) (rs : List Record) (r : Record) (piece f : List ℕ) (is_piece : IsPiece l r piece) (settled : IsSettled l h rs f) (room : length piece ≤ half_size l.capacity)
  where
    -- the other half is being written
    elsewhere : (p : ℕ) (c : List ℕ) → p ≡ half_at l.capacity (other_half h) → IsTorn p (length piece) f c → IsSettled l h rs c
    elsewhere p c is torn = record {
      fronted = same_fronted l.capacity p (length piece) f c torn (omega (arith, is, behind_front l.capacity (other_half h))) settled.fronted;
      selects = same_selector p (length piece) f c torn (omega (arith, is, behind_front l.capacity (other_half h))) (omega (arith, settled.fronted.long)) ∙ settled.selects;
      has = ⊎_elim (λ whole. inl (still whole)) (λ none. inr (none.0, none.1, omega (arith, torn.no_longer, none.2, is, low l.capacity h none.0, room))) settled.has;
    }
      where
        still : IsHalf l rs (half l h f) → IsHalf l rs (half l h c)
        still whole =
            let m = length (header l.label) + length (records rs) + 1 in
            half_front l rs m (half l h f) (half l h c) whole refl
            (same_front m (half_at l.capacity h) p (length piece) f c torn (far_half l h rs f whole)
            (λ i lt. apart l.capacity h p (length piece) m i is room lt (omega (arith, whole.within))))

    pub still_current : (p : ℕ) (c : List ℕ) → p ≡ half_at l.capacity (other_half h) → IsTorn p (length piece) f c → IsEither l h rs r c
    still_current p c is torn = inl (elsewhere p c is torn)

    length-piece : length piece ≡ length (header l.label) + length (records (r ∷ [])) + 1
    length-piece = omega (arith, ap length is_piece.is, length-append (header l.label) (1 ∷ (body r ++ 0 ∷ [])), length-append (body r) (0 ∷ []), length-append (body r) [])

    module _ (p : ℕ) (mid : List ℕ) (is : p ≡ half_at l.capacity (other_half h)) (torn : IsTorn p (length piece) f mid) (holds : Holds p piece mid) where
      so : IsSettled l h rs mid
      so = elsewhere p mid is torn

      abbrev there : List ℕ
      there = half l (other_half h) mid

      begun : there ≡ header l.label ++ (records (r ∷ []) ++ 0 ∷ drop (length piece) there)
      begun =
          two_parts (length piece) there piece (holds_middle 0 piece there (holds_half (half_at l.capacity (other_half h)) 0 p piece mid (omega (arith, is)) holds) (omega (arith, length-piece)))
          ∙ ap (λ (t : List ℕ). t ++ drop (length piece) there) is_piece.is
          ∙ append_assoc (header l.label) (1 ∷ (body r ++ 0 ∷ [])) (drop (length piece) there)
          ∙ ap (λ (t : List ℕ). header l.label ++ (1 ∷ t)) (append_assoc (body r) (0 ∷ []) (drop (length piece) there) ∙ sym (append_assoc (body r) [] (0 ∷ drop (length piece) there)))

      rests : (c : List ℕ) → IsTorn 0 1 mid c → half_of c ≡ other_half h → IsResting l (other_half h) (r ∷ []) (length piece - 1) c
      rests c turn selects = record {
        fronted = turned_fronted l.capacity mid c turn so.fronted;
        selects = selects;
        fit = (is_piece.fits, tt);
        size = omega (arith, length-piece);
        rest = drop (length piece) there;
        is = same_half l (other_half h) mid c turn (omega (arith, so.fronted.long)) ∙ begun;
      }

      pub either : (c : List ℕ) → IsTorn 0 1 mid c → IsEither l h rs r c
      either c turn = ⊎_elim
          (λ same. inl (turned l h rs mid c turn same so))
          (λ other.
          let resting = rests c turn other in
          inr (record { fronted = resting.fronted; selects = other; has = inl (rests_half l (other_half h) (r ∷ []) (length piece - 1) c resting (omega (arith, room, length-piece))) }))
          (two_values (half_of c) h)

      pub switched : (v : ℕ) (c : List ℕ) → selected_by v ≡ other_half h → IsTorn 0 1 mid c → Holds 0 (v ∷ []) c → IsResting l (other_half h) (r ∷ []) (length piece - 1) c
      switched v c chosen turn written = rests c turn (ap selected_by (written.each 0 (omega arith)) ∙ chosen)

-- the final state alone, whatever the disk had after its front
module _ (l : Layout) (h : Half) (r : Record) (piece f : List ℕ) (is_piece : IsPiece l r piece) (fronted : IsFronted l.capacity f)
    (p : ℕ) (mid : List ℕ) (is : p ≡ half_at l.capacity (other_half h)) (torn : IsTorn p (length piece) f mid) (holds : Holds p piece mid) where
  mid_fronted : IsFronted l.capacity mid
  mid_fronted = same_fronted l.capacity p (length piece) f mid torn (omega (arith, is, behind_front l.capacity (other_half h))) fronted

  abbrev written : List ℕ
  written = half l (other_half h) mid

  piece_length : length piece ≡ length (header l.label) + length (records (r ∷ [])) + 1
  piece_length = omega (arith, ap length is_piece.is, length-append (header l.label) (1 ∷ (body r ++ 0 ∷ [])), length-append (body r) (0 ∷ []), length-append (body r) [])

  piece_written : written ≡ header l.label ++ (records (r ∷ []) ++ 0 ∷ drop (length piece) written)
  piece_written =
      two_parts (length piece) written piece (holds_middle 0 piece written (holds_half (half_at l.capacity (other_half h)) 0 p piece mid (omega (arith, is)) holds) (omega (arith, piece_length)))
      ∙ ap (λ (t : List ℕ). t ++ drop (length piece) written) is_piece.is
      ∙ append_assoc (header l.label) (1 ∷ (body r ++ 0 ∷ [])) (drop (length piece) written)
      ∙ ap (λ (t : List ℕ). header l.label ++ (1 ∷ t)) (append_assoc (body r) (0 ∷ []) (drop (length piece) written) ∙ sym (append_assoc (body r) [] (0 ∷ drop (length piece) written)))

  pub rests_fronted : (v : ℕ) (c : List ℕ) → selected_by v ≡ other_half h → IsTorn 0 1 mid c → Holds 0 (v ∷ []) c → IsResting l (other_half h) (r ∷ []) (length piece - 1) c
  rests_fronted v c chosen turn held = record {
    fronted = turned_fronted l.capacity mid c turn mid_fronted;
    selects = ap selected_by (held.each 0 (omega arith)) ∙ chosen;
    fit = (is_piece.fits, tt);
    size = omega (arith, piece_length);
    rest = drop (length piece) written;
    is = same_half l (other_half h) mid c turn (omega (arith, mid_fronted.long)) ∙ piece_written;
  }
