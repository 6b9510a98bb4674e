-- What a torn write leaves, in terms of lists.
use Rattle.std.proofs.Common.{◌≡◌, inl, inr, ℕ, ◌+◌, ◌-◌, ◌<◌, ◌≤◌, List, ◌++◌, length, get_or, take, drop, sym, ◌∙◌, ap, arith, length-drop, take-append-drop, append_assoc}
use Rattle.std.proofs.lemmas.List.{ext_get_or, get_or-take, get_or-drop, length-take, drop-drop}
use Rattle.crash_disk.specs.Disk.{IsTorn, Holds}

pub torn_front : (at n : ℕ) (old c : List ℕ) → IsTorn at n old c → at ≤ length old → take at c ≡ take at old
torn_front at n old c torn le = ext_get_or 0 (take at c) (take at old) (omega (arith, length-take at c, length-take at old, torn.no_shorter)) same
  where
    same : (i : ℕ) → i < length (take at c) → get_or (take at c) i 0 ≡ get_or (take at old) i 0
    same i lt =
        let below : i < at = omega (arith, length-take at c) in
        get_or-take at c i 0 below ∙ torn.stays i (omega arith) (inl below) ∙ sym (get_or-take at old i 0 below)

pub torn_size : (at n : ℕ) (old c : List ℕ) → IsTorn at n old c → at + n ≤ length old → length c ≡ length old
torn_size at n old c torn le = omega (arith, torn.no_shorter, torn.no_longer)

pub torn_back : (at n : ℕ) (old c : List ℕ) → IsTorn at n old c → at + n ≤ length old → drop (at + n) c ≡ drop (at + n) old
torn_back at n old c torn le = ext_get_or 0 (drop (at + n) c) (drop (at + n) old) (omega (arith, length-drop (at + n) c, length-drop (at + n) old, torn_size at n old c torn le)) same
  where
    same : (i : ℕ) → i < length (drop (at + n) c) → get_or (drop (at + n) c) i 0 ≡ get_or (drop (at + n) old) i 0
    same i lt =
        get_or-drop (at + n) c i 0
        ∙ torn.stays (at + n + i) (omega (arith, length-drop (at + n) c, torn_size at n old c torn le)) (inr (omega arith))
        ∙ sym (get_or-drop (at + n) old i 0)

pub holds_long : (at : ℕ) (bytes c : List ℕ) → Holds at bytes c → 0 < length bytes → at + length bytes ≤ length c
holds_long at bytes c holds some = omega (arith, holds.within (length bytes - 1) (omega arith))

pub holds_middle : (at : ℕ) (bytes c : List ℕ) → Holds at bytes c → 0 < length bytes → take (length bytes) (drop at c) ≡ bytes
holds_middle at bytes c holds some = ext_get_or 0 (take (length bytes) (drop at c)) bytes size same
  where
    size : length (take (length bytes) (drop at c)) ≡ length bytes
    size = omega (arith, length-take (length bytes) (drop at c), length-drop at c, holds_long at bytes c holds some)

    same : (i : ℕ) → i < length (take (length bytes) (drop at c)) → get_or (take (length bytes) (drop at c)) i 0 ≡ get_or bytes i 0
    same i lt =
        let below : i < length bytes = omega (arith, size) in
        get_or-take (length bytes) (drop at c) i 0 below ∙ get_or-drop at c i 0 ∙ holds.each i below

-- a list in two parts, and in three
pub two_parts : (at : ℕ) (c front : List ℕ) → take at c ≡ front → c ≡ front ++ drop at c
two_parts at c front is = sym (take-append-drop at c) ∙ ap (λ (l : List ℕ). l ++ drop at c) is

pub three_parts : (at n : ℕ) (c front middle : List ℕ) → take at c ≡ front → take n (drop at c) ≡ middle → c ≡ (front ++ middle) ++ drop (at + n) c
three_parts at n c front middle is is_middle =
    two_parts at c front is
    ∙ ap (λ (l : List ℕ). front ++ l) (two_parts n (drop at c) middle is_middle ∙ ap (λ (l : List ℕ). middle ++ l) (drop-drop n at c))
    ∙ sym (append_assoc front middle (drop (at + n) c))
