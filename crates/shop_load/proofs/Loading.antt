-- The lines of a load, transaction by transaction.
use Rattle.std.proofs.Common.{◌≡◌, ℕ, zero, suc, ◌+◌, ◌*◌, ◌%◌, ◌<◌, ◌≤◌, ◌==◌, Bool, true, false, if◌then◌else◌, List, [], ◌∷◌, ◌++◌, length, take, get_or, refl, sym, ◌∙◌, ap, arith}
use Rattle.std.specs.List.{flat_map, range_with_len}
use Rattle.std.proofs.lemmas.List.{map_more, length-map, length-take-le, flat_map_more}
use Rattle.teb_rules.specs.declared.names.Session.{Session}
use Rattle.teb_rules.specs.declared.names.Request.{Request}
use Rattle.script_text.specs.declared.Line.{Line}
use Rattle.shop_load.specs.Loads.{Asking, asked_by, askings_at, numbered, loaded_lines, requests_by, requests_from, report, new_order, payment, delivery, state, next_state, drawn_from, key_from}

numbered_append : (n : ℕ) (xs ys : List Asking) → numbered n (xs ++ ys) ≡ numbered n xs ++ numbered (n + length xs) ys
numbered_append n [] ys = let e : n + 0 ≡ n = omega arith in rw e refl
numbered_append n (x ∷ xs) ys = let e : n + suc (length xs) ≡ n + 1 + length xs = omega arith in
    rw e (ap (λ (ls : List Line). record { number = n; session = x.0; request = x.1 } ∷ ls) (numbered_append (n + 1) xs ys))

numbered_length : (n : ℕ) (xs : List Asking) → length (numbered n xs) ≡ length xs
numbered_length n [] = refl
numbered_length n (x ∷ xs) = ap suc (numbered_length (n + 1) xs)

-- one more request of a session
pub asked_more : (n : ℕ) (s : Session) (rs : List Request) (i : ℕ) (d : Request) → i < length rs → numbered n (asked_by s (take (i + 1) rs)) ≡ numbered n (asked_by s (take i rs))
    ++ record { number = n + i; session = s; request = get_or rs i d } ∷ []
asked_more n s rs i d h =
    ap (numbered n) (map_more (λ (r : Request). (s, r)) rs i d h) ∙ numbered_append n (asked_by s (take i rs)) ((s, get_or rs i d) ∷ [])
    ∙ ap (λ (k : ℕ). numbered n (asked_by s (take i rs)) ++ record { number = n + k; session = s; request = get_or rs i d } ∷ [])
    (length-map (take i rs) (λ (r : Request). (s, r)) ∙ length-take-le i rs (omega arith))

range_more : (a n : ℕ) → range_with_len a (n + 1) ≡ range_with_len a n ++ (a + n) ∷ []
range_more a zero = let e : a + 0 ≡ a = omega arith in rw e refl
range_more a (suc n) = let e : suc n + 1 ≡ suc (n + 1) = omega arith in let f : a + suc n ≡ a + 1 + n = omega arith in
    rw (e, f) (ap (λ (l : List ℕ). a ∷ l) (range_more (a + 1) n))

-- one more transaction
pub loaded_more : (number i : ℕ) → loaded_lines number (i + 1) ≡ loaded_lines number i ++ numbered (length (loaded_lines number i) + 1) (askings_at number i)
unfolding loaded_lines
loaded_more number i =
    let f = askings_at number in
    let so_far = flat_map f (range_with_len 0 i) in
    ap (λ (l : List ℕ). numbered 1 (flat_map f l)) (range_more 0 i ∙ ap (λ (k : ℕ). range_with_len 0 i ++ k ∷ []) (let z : 0 + i ≡ i = omega arith in z))
    ∙ ap (numbered 1) (sym (flat_map_more f [] (range_with_len 0 i) i)) ∙ numbered_append 1 so_far (f i)
    ∙ ap (λ (k : ℕ). numbered 1 so_far ++ numbered k (f i)) (let z = numbered_length 1 so_far in let y : 1 + length so_far ≡ length (numbered 1 so_far) + 1 = omega arith in y)

pub loaded_none : (number : ℕ) → loaded_lines number 0 ≡ []
unfolding loaded_lines
loaded_none number = refl

-- a transaction has at most five lines
few_requests : (k i a b : ℕ) → length (requests_by k i a b) ≤ 5
few_requests k i a b = go (k == 0) (k == 1) (k == 2)
  where
    go : (x y z : Bool) → length (if x then report a b else (if y then new_order i a b else (if z then payment a b else delivery a b))) ≤ 5
    go true y z = omega arith
    go false true z = omega arith
    go false false true = omega arith
    go false false false = omega arith

pub few_lines : (n : ℕ) (s : Session) (x i : ℕ) → length (numbered n (asked_by s (requests_from x i))) ≤ 5
few_lines n s x i =
    let z = numbered_length n (asked_by s (requests_from x i)) in
    let y : length (asked_by s (requests_from x i)) ≡ length (requests_from x i) = length-map (requests_from x i) (λ (r : Request). (s, r)) in
    let w : length (requests_from x i) ≤ 5 = few_requests (drawn_from x % 4) i (key_from (next_state x)) (key_from (next_state (next_state x))) in omega arith

-- three more draws
pub state_more : (number i : ℕ) → next_state (next_state (next_state (state number (3 * i)))) ≡ state number (3 * (i + 1))
unfolding state
state_more number i = let e : 3 * (i + 1) ≡ suc (suc (suc (3 * i))) = omega arith in rw e refl

pub state_none : (number : ℕ) → state number (3 * 0) ≡ number
unfolding state
state_none number = refl
