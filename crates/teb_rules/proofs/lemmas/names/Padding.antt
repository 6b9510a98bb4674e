-- Reading and writing one of the places of a fixed-size list.
use Rattle.std.proofs.Common.{◌≡◌, ℕ, zero, suc, ◌+◌, ◌<◌, List, [], ◌∷◌, ◌++◌, length, take, slice_get, slice_index_or, slice_set}
use Rattle.std.proofs.Common.{Bool, false, if◌then◌else◌, Option, Some, None, is_some, unwrap_or, pos, ℤ, refl, sym, ◌∙◌, ap, arith}
use Rattle.std.proofs.lemmas.List.{length-take-le, length_push, take_more_set}
use Rattle.teb_rules.specs.names.Padding.{padded, padded_to, joined, held, flags, numbers}

pub read_joined : (k i : ℕ) (bs : List Bool) (vs : List ℤ) → i < length (take k (joined bs vs))
    → slice_get (take k (joined bs vs)) i ≡ Some (if slice_index_or bs i false then Some (slice_index_or vs i (pos 0)) else None)
read_joined zero i bs vs h = absurd (omega arith)
read_joined (suc k) i [] vs h = absurd (omega arith)
read_joined (suc k) i (b ∷ bs) [] h = absurd (omega arith)
read_joined (suc k) zero (b ∷ bs) (v ∷ vs) h = refl
read_joined (suc k) (suc i) (b ∷ bs) (v ∷ vs) h = read_joined k i bs vs (omega arith)

joined_itself : (xs : List (Option ℤ)) → joined (flags xs) (numbers xs) ≡ xs
joined_itself [] = refl
joined_itself (None ∷ xs) = ap (λ (ys : List (Option ℤ)). None ∷ ys) (joined_itself xs)
joined_itself (Some v ∷ xs) = ap (λ (ys : List (Option ℤ)). Some v ∷ ys) (joined_itself xs)

joined_back : (bs : List Bool) (vs : List ℤ) (xs : List (Option ℤ)) → vs ≡ numbers xs → bs ≡ flags xs → joined bs vs ≡ xs
joined_back bs vs xs v b = ap (λ (ls : List Bool). joined ls vs) b ∙ ap (joined (flags xs)) v ∙ joined_itself xs

length-padded_to : (n : ℕ) (xs : List (Option ℤ)) → length (padded_to n xs) ≡ n
length-padded_to zero xs = refl
length-padded_to (suc n) [] = ap suc (length-padded_to n [])
length-padded_to (suc n) (x ∷ xs) = ap suc (length-padded_to n xs)

abbrev rest : List (Option ℤ) → List (Option ℤ)
rest [] = []
rest (x ∷ xs) = xs

-- a value is written after the others
padded_set : (n k : ℕ) (xs : List (Option ℤ)) (v : Option ℤ) → k < n → xs ≡ padded_to n (take k xs) → slice_set xs k v ≡ padded_to n (take (suc k) (slice_set xs k v))
padded_set zero k xs v h e = absurd (omega arith)
padded_set (suc n) zero [] v h e = absurd (let q : 0 ≡ suc (length (padded_to n [])) = ap length e in omega arith)
padded_set (suc n) (suc k) [] v h e = absurd (let q : 0 ≡ suc (length (padded_to n [])) = ap length e in omega arith)
padded_set (suc n) zero (x ∷ xs) v h e = ap (λ (ys : List (Option ℤ)). v ∷ ys) (ap rest e)
padded_set (suc n) (suc k) (x ∷ xs) v h e = ap (λ (ys : List (Option ℤ)). x ∷ ys) (padded_set n k xs v (omega arith) (ap rest e))

padded_next : (n k : ℕ) (xs : List (Option ℤ)) (v : Option ℤ) → k < n → xs ≡ padded_to n (take k xs) → slice_set xs k v ≡ padded_to n (take (k + 1) (slice_set xs k v))
padded_next n k xs v h e = let q : suc k ≡ k + 1 = omega arith in padded_set n k xs v h e ∙ ap (λ (j : ℕ). padded_to n (take j (slice_set xs k v))) q

joined_set : (k : ℕ) (bs : List Bool) (vs : List ℤ) (v : Option ℤ) → joined (slice_set bs k (is_some v)) (slice_set vs k (unwrap_or v (pos 0))) ≡ slice_set (joined bs vs) k v
joined_set k [] vs v = refl
joined_set zero (b ∷ bs) [] v = refl
joined_set (suc k) (b ∷ bs) [] v = refl
joined_set zero (b ∷ bs) (w ∷ vs) None = refl
joined_set zero (b ∷ bs) (w ∷ vs) (Some v) = refl
joined_set (suc k) (b ∷ bs) (w ∷ vs) v = ap (λ (ys : List (Option ℤ)). (if b then Some w else None) ∷ ys) (joined_set k bs vs v)

flags_set : (k : ℕ) (xs : List (Option ℤ)) (v : Option ℤ) → flags (slice_set xs k v) ≡ slice_set (flags xs) k (is_some v)
flags_set k [] v = refl
flags_set zero (x ∷ xs) v = refl
flags_set (suc k) (x ∷ xs) v = ap (λ (bs : List Bool). is_some x ∷ bs) (flags_set k xs v)

numbers_set : (k : ℕ) (xs : List (Option ℤ)) (v : Option ℤ) → numbers (slice_set xs k v) ≡ slice_set (numbers xs) k (unwrap_or v (pos 0))
numbers_set k [] v = refl
numbers_set zero (x ∷ xs) v = refl
numbers_set (suc k) (x ∷ xs) v = ap (λ (vs : List ℤ). unwrap_or x (pos 0) ∷ vs) (numbers_set k xs v)

-- a value is written after k others
pub held_next : (k : ℕ) (bs : List Bool) (vs : List ℤ) (v : Option ℤ) → k < 16 → vs ≡ numbers (padded (held k bs vs)) → bs ≡ flags (padded (held k bs vs)) → (b : Bool) (w : ℤ) → b ≡ is_some v
    → w ≡ unwrap_or v (pos 0)
    → let cs = slice_set bs k b in
    let ws = slice_set vs k w in
    let more = held (k + 1) cs ws in
    (more ≡ held k bs vs ++ v ∷ []) × (length more ≡ k + 1) × (ws ≡ numbers (padded more)) × (cs ≡ flags (padded more))
held_next k bs vs v room nums fls b w flag number =
    let xs = joined bs vs in
    let same : xs ≡ padded (held k bs vs) = joined_back bs vs (padded (held k bs vs)) nums fls in
    let put : joined (slice_set bs k b) (slice_set vs k w) ≡ slice_set xs k v =
    ap (λ c. joined (slice_set bs k c) (slice_set vs k w)) flag ∙ ap (λ z. joined (slice_set bs k (is_some v)) (slice_set vs k z)) number ∙ joined_set k bs vs v in
    let full : length xs ≡ 16 = ap length same ∙ length-padded_to 16 (held k bs vs) in
    let more : held (k + 1) (slice_set bs k b) (slice_set vs k w) ≡ held k bs vs ++ v ∷ [] = ap (take (k + 1)) put ∙ take_more_set xs k v (omega (arith, room, full)) in
    let next : slice_set xs k v ≡ padded (held (k + 1) (slice_set bs k b) (slice_set vs k w)) = padded_next 16 k xs v room same ∙ ap (λ (ys : List (Option ℤ)). padded (take (k + 1) ys)) (sym put) in (
      more,
      ap length more ∙ length_push (held k bs vs) v ∙ (omega (arith, length-take-le k xs (omega (arith, room, full)))),
      ap (slice_set vs k) number ∙ ap (λ (ws : List ℤ). slice_set ws k (unwrap_or v (pos 0))) (nums ∙ ap numbers (sym same)) ∙ sym (numbers_set k xs v) ∙ ap numbers next,
      ap (slice_set bs k) flag ∙ ap (λ (ls : List Bool). slice_set ls k (is_some v)) (fls ∙ ap flags (sym same)) ∙ sym (flags_set k xs v) ∙ ap flags next,
    )
