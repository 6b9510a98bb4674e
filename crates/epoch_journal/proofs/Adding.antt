-- Adding records to the current half.
use Rattle.std.proofs.Common.{◌≡◌, inl, inr, ◌⊎◌, ℕ, ◌+◌, ◌<◌, ◌≤◌, List, [], ◌∷◌, ◌++◌, length, get_or, drop, sym, ◌∙◌, ap, arith, append_assoc, length-append}
use Rattle.std.proofs.lemmas.Bool.{cases_eq}
use Rattle.crash_disk.specs.Disk.{IsTorn, Holds}
use Rattle.record_journal.specs.Format.{Record, RecordFits, records}
use Rattle.epoch_journal.specs.declared.current.Half.{Half}
use Rattle.epoch_journal.specs.Layout.{Layout, half_size, half_at, half, header}
use Rattle.epoch_journal.specs.Bodies.{AreBodies}
use Rattle.epoch_journal.specs.Halves.{IsHalf, IsResting, IsOneOf}
use Rattle.epoch_journal.proofs.Fronts.{behind_front, same_selector, same_front, same_fronted, torn_half, holds_half, far_half, half_front, rests_half}
use Rattle.epoch_journal.proofs.Staging.{written_behind, marked}
use Rattle.epoch_journal.proofs.Bodies.{records-append, all_append, length-bodies, marked_bodies}

module _ (l : Layout) (h : Half) (rs more : List Record) (end : ℕ) (bytes f : List ℕ) (added : AreBodies more bytes) (some : 0 < length bytes) (resting : IsResting l h rs end f)
    (room : end + 1 + length bytes ≤ half_size l.capacity) where
  abbrev b : ℕ
  b = half_at l.capacity h

  abbrev pre : List ℕ
  pre = header l.label ++ records rs

  size : end ≡ length pre
  size = omega (arith, resting.size, length-append (header l.label) (records rs))

  length-more : length (records (rs ++ more)) ≡ length (records rs) + length bytes
  length-more = omega (arith, ap length (records-append rs more), length-append (records rs) (records more), length-bodies more bytes added)

  shut : IsHalf l rs (half l h f)
  shut = rests_half l h rs end f resting (omega (arith, room))

  long : b + (end + 1) ≤ length f
  long = omega (arith, far_half l h rs f shut, resting.size)

  pub behind : (p : ℕ) (c : List ℕ) → p ≡ b + end + 1 → IsTorn p (length bytes) f c → IsOneOf l h rs more c
  behind p c is torn = record {
    fronted = same_fronted l.capacity p (length bytes) f c torn (omega (arith, is, behind_front l.capacity h)) resting.fronted;
    selects = same_selector p (length bytes) f c torn (omega (arith, is)) (omega (arith, long)) ∙ resting.selects;
    has = inl (half_front l rs (end + 1) (half l h f) (half l h c) shut (omega (arith, resting.size))
        (same_front (end + 1) b p (length bytes) f c torn long (λ i lt. inl (omega (arith, is, lt)))));
  }

  module _ (p : ℕ) (mid : List ℕ) (is : p ≡ b + end + 1) (torn : IsTorn p (length bytes) f mid) (holds : Holds p bytes mid) where
    abbrev rest : List ℕ
    rest = drop (end + 1 + length bytes) (half l h mid)

    abbrev tail : List ℕ
    tail = bytes ++ rest

    staged : half l h mid ≡ pre ++ 0 ∷ tail
    staged =
        written_behind pre end size bytes (half l h f) resting.rest (half l h mid) (resting.is ∙ sym (append_assoc (header l.label) (records rs) (0 ∷ resting.rest))) some
        (torn_half b (end + 1) p (length bytes) f mid (omega (arith, is)) (omega (arith, long)) torn) (holds_half b (end + 1) p bytes mid (omega (arith, is)) holds)

    longer : b + (end + 1) ≤ length mid
    longer = omega (arith, long, torn.no_shorter)

    parts : (q : ℕ) (c : List ℕ) → q ≡ b + end → IsTorn q 1 mid c → half l h c ≡ pre ++ get_or (half l h c) end 0 ∷ tail
    parts q c same mark = marked pre end size (half l h mid) tail (half l h c) staged (torn_half b end q 1 mid c same (omega (arith, longer)) mark)

    spelled : records rs ++ 1 ∷ tail ≡ records (rs ++ more) ++ 0 ∷ rest
    spelled =
        ap (λ (t : List ℕ). records rs ++ (t ++ rest)) (marked_bodies more bytes added some)
        ∙ ap (λ (t : List ℕ). records rs ++ t) (append_assoc (records more) (0 ∷ []) rest)
        ∙ sym (append_assoc (records rs) (records more) (0 ∷ rest))
        ∙ ap (λ (t : List ℕ). t ++ 0 ∷ rest) (sym (records-append rs more))

    opened : (x : List ℕ) (g : ℕ) → x ≡ pre ++ g ∷ tail → g ≡ 1 → x ≡ header l.label ++ (records (rs ++ more) ++ 0 ∷ rest)
    opened x g split is_open = split ∙ ap (λ (n : ℕ). pre ++ n ∷ tail) is_open ∙ append_assoc (header l.label) (records rs) (1 ∷ tail) ∙ ap (λ (t : List ℕ). header l.label ++ t) spelled

    pub at_mark : (q : ℕ) (c : List ℕ) → q ≡ b + end → IsTorn q 1 mid c → IsOneOf l h rs more c
    at_mark q c same mark = record {
      fronted = same_fronted l.capacity q 1 mid c mark (omega (arith, same, behind_front l.capacity h)) (behind p mid is torn).fronted;
      selects = same_selector q 1 mid c mark (omega (arith, same, behind_front l.capacity h)) (omega (arith, longer)) ∙ (behind p mid is torn).selects;
      has = cases;
    }
      where
        cases : IsHalf l rs (half l h c) ⊎ IsHalf l (rs ++ more) (half l h c)
        cases = elim (cases_eq (get_or (half l h c) end 0) 1) [
          | inl is_open ↦ inr (record {
            fit = all_append RecordFits rs more resting.fit added.fit;
            within = omega (arith, length-more, resting.size, room);
            mark = 0;
            ends = λ zero_one. omega arith;
            rest = rest;
            is = opened (half l h c) (get_or (half l h c) end 0) (parts q c same mark) is_open;
          })
          | inr is_shut ↦ inl (record {
            fit = shut.fit;
            within = shut.within;
            mark = get_or (half l h c) end 0;
            ends = is_shut;
            rest = tail;
            is = parts q c same mark ∙ append_assoc (header l.label) (records rs) (get_or (half l h c) end 0 ∷ tail);
          })
        ]

    pub rests : (q : ℕ) (c : List ℕ) → q ≡ b + end → IsTorn q 1 mid c → Holds q (1 ∷ []) c → IsResting l h (rs ++ more) (end + length bytes) c
    rests q c same mark written =
        let one = at_mark q c same mark in
        let here = holds_half b end q (1 ∷ []) c same written in
        record {
          fronted = one.fronted;
          selects = one.selects;
          fit = all_append RecordFits rs more resting.fit added.fit;
          size = omega (arith, length-more, resting.size);
          rest = rest;
          is = opened (half l h c) (get_or (half l h c) end 0) (parts q c same mark) (ap (λ (k : ℕ). get_or (half l h c) k 0) (omega arith) ∙ here.each 0 (omega arith));
        }
