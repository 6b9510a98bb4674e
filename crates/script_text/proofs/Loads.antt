-- Bytes that are tested together: a mask has one bit for each, and its lowest set bit is the first place that passes a test.
use Rattle.std.proofs.Common.{◌≡◌, ℕ, zero, suc, ◌+◌, ◌-◌, ◌*◌, ◌/◌, ◌%◌, ◌^◌, ◌<◌, ◌≤◌, Bool, true, false, not, cond, eqb}
use Rattle.std.proofs.Common.{add-one, List, [], ◌∷◌, map, length, take, drop, Fits, w8, refl, sym, ap, ap₂, ◌∙◌, arith}
use Rattle.std.proofs.lemmas.Bool.{agree_below, agree_below_at, eq-eqb, ne_eqb}
use Rattle.std.proofs.Math.Nat.{add-mul-mod_self_left, mul_assoc, pow-le-pow_right, zero-div, div-one, pow-suc, mul_comm, div-div-eq-div-mul}
use Rattle.std.proofs.lemmas.Nat.{pow-add}
use Rattle.std.proofs.lemmas.Simd.{mask_l-lt, mask_l-mod, chunk-drop, length-chunk, leading_from_mask_l, trailing_mask_l}
use Rattle.std.proofs.lemmas.List.{length-map, length-take-le, take_at, take-map, drop-map, drop-take}
use Rattle.std.proofs.Math.Seq.{take-add}
use Rattle.std.proofs.lemmas.List.Folds.{prefix_len-append}
use Rattle.std.proofs.lemmas.List.Sums.{prefix_len-le-length, prefix_len_passes, prefix_len-drop_yes}
use Rattle.std.specs.List.{position_or_len, prefix_len}
use lib.Lanes.{zip2, mask_l, top, chunk, Each1}
use lib.Count.{count_trailing_zeros, under}

zip2-map : (h : ℕ → ℕ → ℕ) (f g : ℕ → ℕ) (xs : List ℕ) → zip2 h (map f xs) (map g xs) ≡ map (λ x. h (f x) (g x)) xs
zip2-map h f g [] = refl
zip2-map h f g (x ∷ xs) = ap (λ r. h (f x) (g x) ∷ r) (zip2-map h f g xs)

-- an operation on two vectors that were computed lane by lane from v
pub joined : (h : ℕ → ℕ → ℕ) (f g : ℕ → ℕ) (v : List ℕ) {a b : List ℕ} → a ≡ map f v → b ≡ map g v → zip2 h a b ≡ map (λ x. h (f x) (g x)) v
joined h f g v p q = ap₂ (zip2 h) p q ∙ zip2-map h f g v

module _ (f : ℕ → ℕ) (p : ℕ → Bool) (all : agree_below (λ x. top 7 (f x)) p 256 ≡ true) where
  each_byte : (v : List ℕ) → Each1 (Fits w8) v → map (top 7) (map f v) ≡ map p v
  each_byte [] fits = refl
  each_byte (x ∷ xs) fits = ap₂ (λ b bs. b ∷ bs) (agree_below_at (λ y. top 7 (f y)) p 256 x all fits.0.fits) (each_byte xs fits.1)

  -- a mask that is computed lane by lane tells which bytes pass p
  pub masked : (v z : List ℕ) → length v ≤ 64 → Each1 (Fits w8) v → z ≡ map f v → mask_l (map (top 7) z) % 2 ^ 64 ≡ mask_l (map p v)
  masked v z short fits e = ap (λ l. mask_l l % 2 ^ 64) (ap (map (top 7)) e ∙ each_byte v fits) ∙ mask_l-mod (map p v) 64 (omega (arith, length-map v p))

-- a mask is made of the bits of the first places and those of the others
mask_parts : (bs : List Bool) (n : ℕ) → n ≤ length bs → mask_l bs ≡ mask_l (take n bs) + 2 ^ n * mask_l (drop n bs)
mask_parts bs zero h = omega arith
mask_parts [] (suc n) h = absurd (omega (arith, h))
mask_parts (b ∷ bs) (suc n) h =
    let next : 2 ^ suc n * mask_l (drop n bs) ≡ 2 * (2 ^ n * mask_l (drop n bs)) = ap (λ m. m * mask_l (drop n bs)) (pow-suc 2 n ∙ mul_comm (2 ^ n) 2) ∙ mul_assoc 2 (2 ^ n) (mask_l (drop n bs)) in
    omega (arith, mask_parts bs n (omega (arith, h)), next)

-- the mask of the first places
mask_front : (bs : List Bool) (n : ℕ) → n ≤ length bs → mask_l bs % 2 ^ n ≡ mask_l (take n bs)
mask_front bs n h =
    ap (λ m. m % 2 ^ n) (mask_parts bs n h) ∙ add-mul-mod_self_left (mask_l (take n bs)) (2 ^ n) (mask_l (drop n bs))
    ∙ mask_l-mod (take n bs) n (omega (arith, length-take-le n bs h))

-- a prefix of a prefix
pub take_less : (d : List ℕ) (n m : ℕ) → n ≤ m → m ≤ length d → take n (take m d) ≡ take n d
take_less d n m h room =
    let e : n + (m - n) ≡ m = omega (arith, h) in
    ap (λ k. take n (take k d)) (sym e) ∙ ap (take n) (take-add n (m - n) d) ∙ take_at (take n d) (take (m - n) (drop n d)) n (length-take-le n d (omega (arith, h, room)))

-- the mask of a line, from the mask of the bytes at its place
pub line_mask : (p : ℕ → Bool) (d line : List ℕ) (m : ℕ) → m ≤ length d → length line ≤ m → line ≡ take (length line) d → mask_l (map p (take m d)) % 2 ^ length line ≡ mask_l (map p line)
line_mask p d line m room short is =
    let n = length line in
    mask_front (map p (take m d)) n (omega (arith, length-map (take m d) p, length-take-le m d room, short))
    ∙ ap mask_l (take-map p n (take m d) ∙ ap (map p) (take_less d n m short room ∙ sym is))

-- shifting a bit by at most 32 places keeps it
pub one_bit : (n : ℕ) → n ≤ 32 → 1 * 2 ^ n % 2 ^ 64 ≡ 2 ^ n
one_bit n small = omega (arith, pow-le-pow_right {n = 2} (omega arith) small)

half : (b : Bool) (n : ℕ) → (cond b 1 0 + 2 * n) / 2 ≡ n
half true n = omega arith
half false n = omega arith

mask_behind : (bs : List Bool) (i : ℕ) → mask_l bs / 2 ^ i ≡ mask_l (drop i bs)
mask_behind [] zero = refl
mask_behind [] (suc i) = zero-div (2 ^ suc i)
mask_behind (b ∷ bs) zero = div-one (mask_l (b ∷ bs))
mask_behind (b ∷ bs) (suc i) =
    ap (λ n. mask_l (b ∷ bs) / n) (pow-suc 2 i ∙ mul_comm (2 ^ i) 2) ∙ sym (div-div-eq-div-mul (mask_l (b ∷ bs)) 2 (2 ^ i)) ∙ ap (λ n. n / 2 ^ i) (half b (mask_l bs)) ∙ mask_behind bs i

-- the mask of the bytes after the first i
pub mask_after : (p : ℕ → Bool) (xs : List ℕ) (mask i : ℕ) → mask ≡ mask_l (map p xs) → mask / 2 ^ i ≡ mask_l (map p (drop i xs))
mask_after p xs mask i is = ap (λ m. m / 2 ^ i) is ∙ mask_behind (map p xs) i ∙ ap mask_l (drop-map p i xs)

-- shifting by i and then by j is shifting by i + j
pub shifted : (m i j : ℕ) → m / 2 ^ i / 2 ^ j ≡ m / 2 ^ (i + j)
shifted m i j = div-div-eq-div-mul m (2 ^ i) (2 ^ j) ∙ ap (λ k. m / k) (sym (pow-add 2 i j))

-- the lowest bit that is not set
low_zero : (b : Bool) (k m : ℕ) → m < 2 ^ k → count_trailing_zeros (suc k) (2 ^ suc k - 1 - (cond b 1 0 + 2 * m)) ≡ cond b (1 + count_trailing_zeros k (2 ^ k - 1 - m)) 0
unfolding count_trailing_zeros
low_zero true k m small =
    let n : ℕ = 2 ^ suc k - 1 - (1 + 2 * m) in
    let even : n % 2 ≡ 0 = omega (arith, pow-suc 2 k, small) in
    let rest : n / 2 ≡ 2 ^ k - 1 - m = omega (arith, pow-suc 2 k, small) in
    ap₂ (λ d r. under d (count_trailing_zeros k r)) even rest ∙ omega arith
low_zero false k m small =
    let n : ℕ = 2 ^ suc k - 1 - (0 + 2 * m) in
    let odd : n % 2 ≡ 1 = omega (arith, pow-suc 2 k, small) in
    ap (λ d. under d (count_trailing_zeros k (n / 2))) odd

zero_le : (k : ℕ) → 0 ≤ k
zero_le k = omega arith

-- the lowest bit that is not set is the first place that fails the test, if at least one bit is above all bytes
pub ones_at_front : (p : ℕ → Bool) (k : ℕ) (xs : List ℕ) → length xs < k → count_trailing_zeros k (2 ^ k - 1 - mask_l (map p xs)) ≡ prefix_len p xs
ones_at_front p zero xs h = absurd (omega (arith, h))
ones_at_front p (suc k) [] h = low_zero false k 0 (omega (arith, pow-le-pow_right {n = 2} (omega arith) (zero_le k)))
ones_at_front p (suc k) (x ∷ xs) h =
    let room : length xs < k = omega (arith, h) in
    let fewer : length (map p xs) ≤ k = omega (arith, length-map xs p, room) in
    let small : mask_l (map p xs) < 2 ^ k = omega (arith, mask_l-lt (map p xs), pow-le-pow_right {n = 2} (omega arith) fewer) in
    low_zero (p x) k (mask_l (map p xs)) small ∙ ap (λ n. cond (p x) (1 + n) 0) (ones_at_front p k xs room)

none_passes : (b : Bool) (n l m : ℕ) → n ≤ l → cond (not b) (1 + n) 0 ≡ 1 + l → (n ≡ l → m ≡ 0) → cond b 1 0 + 2 * m ≡ 0
none_passes true n l m le e more = let no : ⊥ = omega arith in absurd no
none_passes false n l m le e more = let z = more (omega arith) in omega arith

module _ (p : ℕ → Bool) where
  empty_mask : (xs : List ℕ) → position_or_len p xs ≡ length xs → mask_l (map p xs) ≡ 0
  empty_mask [] e = refl
  empty_mask (x ∷ xs) e = none_passes (p x) _ (length xs) _ (prefix_len-le-length (λ y. not (p y)) xs) (omega arith) (empty_mask xs)

  split : (d : List ℕ) (i n : ℕ)
      → position_or_len p (drop i d) ≡ cond (eqb (position_or_len p (chunk i n d)) (length (chunk i n d))) (length (chunk i n d) + position_or_len p (drop (i + n) d)) (position_or_len p (chunk i n d))
  split d i n = ap (position_or_len p) (chunk-drop i n d) ∙ prefix_len-append (λ x. not (p x)) (chunk i n d) (drop (i + n) d)

  -- no bit is set
  pub run_through : (d : List ℕ) (i n : ℕ) → i + n ≤ length d → mask_l (map p (chunk i n d)) ≡ 0 → position_or_len p (drop i d) ≡ n + position_or_len p (drop (i + n) d)
  run_through d i n room none =
      let c = chunk i n d in
      split d i n ∙ ap (λ b. cond b (length c + position_or_len p (drop (i + n) d)) (position_or_len p c)) (eq-eqb _ _ (leading_from_mask_l p c none))
      ∙ ap (λ k. k + position_or_len p (drop (i + n) d)) (length-chunk i n d room)

  -- the lowest bit that is set
  pub run_stops : (d : List ℕ) (i n : ℕ) → i + n ≤ length d → n ≤ 64 → 0 < mask_l (map p (chunk i n d)) → position_or_len p (drop i d) ≡ count_trailing_zeros 64 (mask_l (map p (chunk i n d)))
  run_stops d i n room short some =
      let c = chunk i n d in
      split d i n ∙ ap (λ b. cond b (length c + position_or_len p (drop (i + n) d)) (position_or_len p c)) (ne_eqb _ _ (λ (e : position_or_len p c ≡ length c). omega (arith, empty_mask c e)))
      ∙ sym (trailing_mask_l p 64 c (omega (arith, length-chunk i n d room)) some)

  pub stop_within : (d : List ℕ) (i n : ℕ) → i + n ≤ length d → n ≤ 64 → 0 < mask_l (map p (chunk i n d)) → count_trailing_zeros 64 (mask_l (map p (chunk i n d))) < n
  stop_within d i n room short some =
      let c = chunk i n d in
      let long = length-chunk i n d room in
      let stops : position_or_len p c ≡ length c → ⊥ = λ e. omega (arith, empty_mask c e, some) in
      omega (arith, trailing_mask_l p 64 c (omega (arith, long)) some, prefix_len-le-length (λ x. not (p x)) c, long, stops)

  -- the mask of the first n bytes, without the first i
  module _ (d : List ℕ) (mask i n : ℕ) (room : n ≤ length d) (is : mask ≡ mask_l (map p (chunk 0 n d))) (within : i ≤ n) where
    rest_mask : mask / 2 ^ i ≡ mask_l (map p (chunk i (n - i) d))
    rest_mask =
        ap (λ m. m / 2 ^ i) is ∙ mask_behind (map p (chunk 0 n d)) i
        ∙ ap mask_l (drop-map p i (take n d) ∙ ap (map p) (ap (λ m. drop i (take m d)) (omega arith) ∙ drop-take i (n - i) d))

    -- no bit of the rest is set
    pub none_ahead : mask / 2 ^ i ≡ 0 → position_or_len p (drop i d) ≡ n - i + position_or_len p (drop n d)
    none_ahead none =
        let end : i + (n - i) ≡ n = omega (arith, within) in
        run_through d i (n - i) (omega (arith, room, within)) (sym rest_mask ∙ none) ∙ ap (λ k. n - i + position_or_len p (drop k d)) end

  -- the lowest set bit of the rest
  module _ (d : List ℕ) (mask i n : ℕ) (room : n ≤ length d) (short : n ≤ 64) (is : mask ≡ mask_l (map p (chunk 0 n d))) (within : i ≤ n) (some : mask / 2 ^ i ≡ 0 → ⊥) where
    behind : mask / 2 ^ i ≡ mask_l (map p (chunk i (n - i) d))
    behind = rest_mask d mask i n room is within

    pub next_at : i + count_trailing_zeros 64 (mask / 2 ^ i) ≡ i + position_or_len p (drop i d)
    next_at = ap (λ k. i + k) (ap (count_trailing_zeros 64) behind ∙ sym (run_stops d i (n - i) (omega arith) (omega arith) (omega (arith, behind, some))))

    pub next_within : i + count_trailing_zeros 64 (mask / 2 ^ i) < n
    next_within = omega (arith, ap (count_trailing_zeros 64) behind, stop_within d i (n - i) (omega arith) (omega arith) (omega (arith, behind, some)))

  -- a search from a place before the first that passes finds that one
  pub looked_for_from : (d : List ℕ) (j : ℕ) → j ≤ position_or_len p d → j + position_or_len p (drop j d) ≡ position_or_len p d
  looked_for_from d zero h = omega arith
  looked_for_from d (suc j) h =
      let before = looked_for_from d j (omega (arith, h)) in
      let within = prefix_len-le-length (λ x. not (p x)) d in
      let passes = prefix_len_passes (λ x. not (p x)) d j 0 (omega (arith, h)) in
      let step = rw add-one at (prefix_len-drop_yes (λ x. not (p x)) d j 0 (omega (arith, h, within)) passes) in
      omega (arith, before, step)
