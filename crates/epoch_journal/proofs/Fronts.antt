-- What a write leaves of the bytes outside its range.
use Rattle.std.proofs.Common.{◌≡◌, inl, inr, ℕ, ◌+◌, ◌-◌, ◌<◌, ◌≤◌, List, [], ◌∷◌, ◌++◌, length, get_or, take, drop, sym, ◌∙◌, ap, arith, append_assoc, length-append, length-drop}
use Rattle.std.proofs.lemmas.List.{ext_get_or, get_or-take, get_or-drop, length-take, drop-drop, take_at}
use Rattle.crash_disk.specs.Disk.{IsTorn, IsOutside, Holds}
use Rattle.record_journal.specs.Format.{Record, records}
use Rattle.record_journal.proofs.Torn.{two_parts, torn_back}
use Rattle.epoch_journal.specs.declared.current.Half.{Half}
use Rattle.epoch_journal.specs.declared.current.Half.TheVariants.{First, Second}
use Rattle.epoch_journal.specs.Layout.{Layout, selected_by, half_of, half_size, half_at, half, header}
use Rattle.epoch_journal.specs.Halves.{IsFronted, IsHalf, IsResting}

pub behind_front : (capacity : ℕ) (h : Half) → 13 ≤ half_at capacity h
behind_front capacity First = omega arith
behind_front capacity Second = omega arith

pub same_selector : (at n : ℕ) (f c : List ℕ) → IsTorn at n f c → 0 < at → 0 < length f → half_of c ≡ half_of f
same_selector at n f c torn some long = ap selected_by (torn.stays 0 long (inl some))

pub same_front : (m b at n : ℕ) (f c : List ℕ) → IsTorn at n f c → b + m ≤ length f → ((i : ℕ) → i < m → IsOutside at n (b + i)) → take m (drop b c) ≡ take m (drop b f)
same_front m b at n f c torn long outside =
    ext_get_or 0 (take m (drop b c)) (take m (drop b f)) (omega (arith, length-take m (drop b c), length-take m (drop b f), length-drop b c, length-drop b f, torn.no_shorter)) same
  where
    same : (i : ℕ) → i < length (take m (drop b c)) → get_or (take m (drop b c)) i 0 ≡ get_or (take m (drop b f)) i 0
    same i lt =
        let below : i < m = omega (arith, length-take m (drop b c)) in
        get_or-take m (drop b c) i 0 below
        ∙ get_or-drop b c i 0
        ∙ torn.stays (b + i) (omega arith) (outside i below)
        ∙ sym (get_or-drop b f i 0)
        ∙ sym (get_or-take m (drop b f) i 0 below)

-- a write after the front keeps it, and so does one of the first byte alone
pub same_fronted : (capacity at n : ℕ) (f c : List ℕ) → IsTorn at n f c → 13 ≤ at → IsFronted capacity f → IsFronted capacity c
same_fronted capacity at n f c torn after fronted = record {
  long = omega (arith, fronted.long, torn.no_shorter);
  is = same_front 12 1 at n f c torn (omega (arith, fronted.long)) (λ i lt. inl (omega (arith, after, lt))) ∙ fronted.is;
}

pub turned_fronted : (capacity : ℕ) (f c : List ℕ) → IsTorn 0 1 f c → IsFronted capacity f → IsFronted capacity c
turned_fronted capacity f c torn fronted = record {
  long = omega (arith, fronted.long, torn.no_shorter);
  is = same_front 12 1 0 1 f c torn (omega (arith, fronted.long)) (λ i lt. inr (omega arith)) ∙ fronted.is;
}

pub torn_half : (b at p n : ℕ) (f c : List ℕ) → p ≡ b + at → b ≤ length f → IsTorn p n f c → IsTorn at n (drop b f) (drop b c)
torn_half b at p n f c is le torn = record {
  stays = λ i lt out. get_or-drop b c i 0 ∙ torn.stays (b + i) (omega (arith, lt, length-drop b f)) (shift i out) ∙ sym (get_or-drop b f i 0);
  no_shorter = omega (arith, length-drop b f, length-drop b c, torn.no_shorter);
  no_longer = omega (arith, length-drop b f, length-drop b c, torn.no_longer, le, is);
}
  where
    shift : (i : ℕ) → IsOutside at n i → IsOutside p n (b + i)
    shift i (inl lt) = inl (omega (arith, lt, is))
    shift i (inr le) = inr (omega (arith, le, is))

pub holds_half : (b at p : ℕ) (bytes c : List ℕ) → p ≡ b + at → Holds p bytes c → Holds at bytes (drop b c)
holds_half b at p bytes c is holds = record {
  within = λ i lt. omega (arith, length-drop b c, holds.within i lt, is);
  each = λ i lt. get_or-drop b c (at + i) 0 ∙ ap (λ (k : ℕ). get_or c k 0) (omega (arith, is)) ∙ holds.each i lt;
}

-- a write of the first byte alone changes neither half
pub same_behind : (b : ℕ) (f c : List ℕ) → IsTorn 0 1 f c → 0 < length f → 0 < b → drop b c ≡ drop b f
same_behind b f c torn some far = shorter (b - 1) (omega arith)
  where
    shorter : (k : ℕ) → b ≡ 1 + k → drop b c ≡ drop b f
    shorter k is =
        ap (λ (n : ℕ). drop n c) is
        ∙ sym (drop-drop k 1 c)
        ∙ ap (drop k) (torn_back 0 1 f c torn (omega (arith, some)))
        ∙ drop-drop k 1 f
        ∙ ap (λ (n : ℕ). drop n f) (sym is)

pub same_half : (l : Layout) (h : Half) (f c : List ℕ) → IsTorn 0 1 f c → 0 < length f → half l h c ≡ half l h f
same_half l h f c torn some = same_behind (half_at l.capacity h) f c torn some (omega (arith, behind_front l.capacity h))

pub length_half : (l : Layout) (rs : List Record) (x : List ℕ) → IsHalf l rs x → length (header l.label) + length (records rs) + 1 ≤ length x
length_half l rs x h = omega (arith, ap length h.is, length-append (header l.label) (records rs ++ h.mark ∷ h.rest), length-append (records rs) (h.mark ∷ h.rest))

abbrev whole_of : Layout → List Record → ℕ → List ℕ
whole_of l rs mark = header l.label ++ (records rs ++ mark ∷ [])

-- a half is determined by the header, the records and the mark after them
pub half_front : (l : Layout) (rs : List Record) (m : ℕ) (x y : List ℕ) → IsHalf l rs x → m ≡ length (header l.label) + length (records rs) + 1 → take m y ≡ take m x → IsHalf l rs y
half_front l rs m x y h is same = record {
  fit = h.fit;
  within = h.within;
  mark = h.mark;
  ends = h.ends;
  rest = drop m y;
  is = two_parts m y (whole_of l rs h.mark) (same ∙ front) ∙ regroup (drop m y);
}
  where
    regroup : (rest : List ℕ) → whole_of l rs h.mark ++ rest ≡ header l.label ++ (records rs ++ h.mark ∷ rest)
    regroup rest = append_assoc (header l.label) (records rs ++ h.mark ∷ []) rest ∙ ap (λ (t : List ℕ). header l.label ++ t) (append_assoc (records rs) (h.mark ∷ []) rest)

    front : take m x ≡ whole_of l rs h.mark
    front =
        ap (λ (t : List ℕ). take m t) (h.is ∙ sym (regroup h.rest))
        ∙ take_at (whole_of l rs h.mark) h.rest m (omega (arith, is, length-append (header l.label) (records rs ++ h.mark ∷ []), length-append (records rs) (h.mark ∷ [])))

pub rests_half : (l : Layout) (h : Half) (rs : List Record) (end : ℕ) (f : List ℕ) → IsResting l h rs end f → end < half_size l.capacity → IsHalf l rs (half l h f)
rests_half l h rs end f resting below = record { fit = resting.fit; within = omega (arith, below, resting.size); mark = 0; ends = λ is. omega arith; rest = resting.rest; is = resting.is }

pub far_half : (l : Layout) (h : Half) (rs : List Record) (f : List ℕ) → IsHalf l rs (half l h f) → half_at l.capacity h + (length (header l.label) + length (records rs) + 1) ≤ length f
far_half l h rs f has = omega (arith, length_half l rs (half l h f) has, length-drop (half_at l.capacity h) f)
