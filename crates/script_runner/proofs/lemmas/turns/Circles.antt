-- The turn in a round that begins at any seat.
use Rattle.std.proofs.Common.{◌≡◌, ℕ, zero, suc, option_map, set, ◌+◌, ◌-◌, ◌<◌, ◌≤◌, List, [], ◌∷◌, ◌++◌, Option, Some, None}
use Rattle.std.proofs.Common.{inl, inr, get_or, length, take, drop, append_assoc, refl, sym, ◌∙◌, ap, ap₂, subst, arith, rules}
use Rattle.std.specs.List.{AllWithin, slice_get}
use Rattle.std.proofs.lemmas.Option.{slice_get-get_or, get_or_from_slice_get}
use Rattle.std.proofs.lemmas.Bool.{cases_lt}
use Rattle.std.proofs.lemmas.List.{places, length-drop, length-take-le, take-append-drop, take-append-le, drop-append-le, take-take, drop-drop, get_or_append_left}
use Rattle.std.proofs.lemmas.List.{get_or-append_right, get_or-drop, get_or-take, get_or-map, map-set, drop-set-lt, take_more_set, length-map}
use Rattle.teb_rules.specs.declared.names.Session.{Session}
use Rattle.teb_rules.specs.declared.names.Request.{Request}
use Rattle.script_text.specs.declared.Line.{Line}
use Rattle.teb_rules.specs.Scripts.{at_first}
use Rattle.teb_rules.specs.declared.history.Event.{Event}
use Rattle.teb_rules.specs.Driver.{Seat, first_offer, found, offer, seated, turn}
use Rattle.script_runner.specs.declared.turns.ring.Asked.{Asked}
use Rattle.script_runner.specs.declared.turns.cursor.Cursor.{Cursor}
use Rattle.script_walk.specs.ScriptStates.{requests_on}
use Rattle.script_runner.specs.turns.Seats.{seat_of, seats_in, round_from, scripts_on}
use Rattle.script_runner.specs.turns.Turns.{IsFirst, IsFirstAt, IsTurn, IsTurnOf}
use Rattle.script_runner.proofs.lemmas.turns.Offers.{offer_turned}

-- the seat at an index
pub seat_read : (cs : List Cursor) (i : ℕ) (c : Cursor) (d : Seat) → i < length cs → c ≡ get_or cs i c → get_or (seats_in cs) i d ≡ seat_of c
seat_read cs i c d h e = get_or-map seat_of cs i c d h ∙ ap seat_of (sym e)

-- the first seat that has an offer
pub none_first : (f : Seat → Option Request) (xs : List Seat) → ((k : ℕ) (d : Seat) → k < length xs → f (get_or xs k d) ≡ None) → first_offer f xs ≡ None
unfolding first_offer
none_first f [] h = refl
none_first f (w ∷ ws) h = ap₂ (found w ws) (h 0 w (omega arith)) (none_first f ws (λ k d l. h (suc k) d (omega (arith, l))))

pub first_at : (f : Seat → Option Request) (xs : List Seat) (j : ℕ) (r : Request) (d : Seat) → j < length xs → ((k : ℕ) (e : Seat) → k < j → f (get_or xs k e) ≡ None) → f (get_or xs j d) ≡ Some r →
    first_offer f xs ≡ Some (record { passed = take j xs; seat = get_or xs j d; request = r; behind = drop (suc j) xs })
unfolding first_offer
first_at f [] j r d l h e = absurd (omega arith)
first_at f (w ∷ ws) zero r d l h e = ap (λ (o : Option Request). found w ws o (first_offer f ws)) e
first_at f (w ∷ ws) (suc j) r d l h e = ap₂ (found w ws) (h 0 w (omega arith)) (first_at f ws j r d (omega (arith, l)) (λ k c m. h (suc k) c (omega (arith, m))) e)

-- the seats of a round by their indices
read_back : (n k : ℕ) (ws : List Seat) (d : Seat) → n + k < length ws → get_or (round_from n ws) k d ≡ get_or ws (n + k) d
read_back n k ws d l = get_or_append_left (drop n ws) (take n ws) d k (let z = length-drop n ws in omega arith) ∙ get_or-drop n ws k d

read_front : (n k : ℕ) (ws : List Seat) (d : Seat) → n ≤ length ws → k < n → get_or (round_from n ws) (length ws - n + k) d ≡ get_or ws k d
read_front n k ws d m l = get_or-append_right (drop n ws) (take n ws) (length ws - n) (length ws - n + k) d (length-drop n ws) (omega arith)
    ∙ ap (λ (i : ℕ). get_or (take n ws) i d) (let z : length ws - n + k - (length ws - n) ≡ k = omega arith in z) ∙ get_or-take n ws k d l

size : (n : ℕ) (ws : List Seat) → n ≤ length ws → length (round_from n ws) ≡ length ws
size n ws m = search (rules, places)

take_past : (xs ys : List Seat) (i : ℕ) → take (length xs + i) (xs ++ ys) ≡ xs ++ take i ys
take_past [] ys i = let e : 0 + i ≡ i = omega arith in rw e refl
take_past (x ∷ xs) ys i = let e : suc (length xs) + i ≡ suc (length xs + i) = omega arith in rw e (ap (λ (l : List Seat). x ∷ l) (take_past xs ys i))

drop_past : (xs ys : List Seat) (i : ℕ) → drop (length xs + i) (xs ++ ys) ≡ drop i ys
drop_past [] ys i = let e : 0 + i ≡ i = omega arith in rw e refl
drop_past (x ∷ xs) ys i = let e : suc (length xs) + i ≡ suc (length xs + i) = omega arith in rw e (drop_past xs ys i)

take_parts : (n m : ℕ) (xs : List Seat) → take n xs ++ take m (drop n xs) ≡ take (n + m) xs
take_parts zero m xs = let e : 0 + m ≡ m = omega arith in rw e refl
take_parts (suc n) zero [] = let e : suc n + 0 ≡ suc n = omega arith in rw e refl
take_parts (suc n) (suc m) [] = let e : suc n + suc m ≡ suc (n + suc m) = omega arith in rw e refl
take_parts (suc n) m (x ∷ xs) = let e : suc n + m ≡ suc (n + m) = omega arith in rw e (ap (λ (l : List Seat). x ∷ l) (take_parts n m xs))

-- the seats after index i, and those before it
others_back : (n i : ℕ) (ws : List Seat) → n ≤ i → i < length ws → drop (suc (i - n)) (round_from n ws) ++ take (i - n) (round_from n ws) ≡ drop (i + 1) ws ++ take i ws
others_back n i ws m l =
    let room = length-drop n ws in
    let behind : drop (suc (i - n)) (round_from n ws) ≡ drop (i + 1) ws ++ take n ws =
    drop-append-le (suc (i - n)) (drop n ws) (take n ws) (omega arith)
    ∙ ap (λ (l : List Seat). l ++ take n ws) (drop-drop (suc (i - n)) n ws ∙ ap (λ (k : ℕ). drop k ws) (let z : n + suc (i - n) ≡ i + 1 = omega arith in z)) in
    let passed : take (i - n) (round_from n ws) ≡ take (i - n) (drop n ws) = take-append-le (i - n) (drop n ws) (take n ws) (omega arith) in
    ap₂ (λ (a b : List Seat). a ++ b) behind passed ∙ append_assoc (drop (i + 1) ws) (take n ws) (take (i - n) (drop n ws))
    ∙ ap (λ (l : List Seat). drop (i + 1) ws ++ l) (take_parts n (i - n) ws ∙ ap (λ (k : ℕ). take k ws) (let z : n + (i - n) ≡ i = omega arith in z))

others_front : (n i : ℕ) (ws : List Seat) → n ≤ length ws → i < n → drop (suc (length ws - n + i)) (round_from n ws) ++ take (length ws - n + i) (round_from n ws) ≡ drop (i + 1) ws ++ take i ws
others_front n i ws m l =
    let room = length-drop n ws in
    let front = length-take-le n ws m in
    let passed : take (length ws - n + i) (round_from n ws) ≡ drop n ws ++ take i ws =
    ap (λ (k : ℕ). take k (round_from n ws)) (let z : length ws - n + i ≡ length (drop n ws) + i = omega arith in z)
    ∙ take_past (drop n ws) (take n ws) i ∙ ap (λ (l : List Seat). drop n ws ++ l) (take-take i n ws (omega arith)) in
    let behind : drop (suc (length ws - n + i)) (round_from n ws) ≡ drop (i + 1) (take n ws) =
    ap (λ (k : ℕ). drop k (round_from n ws)) (let z : suc (length ws - n + i) ≡ length (drop n ws) + (i + 1) = omega arith in z)
    ∙ drop_past (drop n ws) (take n ws) (i + 1) in
    ap₂ (λ (a b : List Seat). a ++ b) behind passed ∙ sym (append_assoc (drop (i + 1) (take n ws)) (drop n ws) (take i ws))
    ∙ ap (λ (l : List Seat). l ++ take i ws) (sym (drop-append-le (i + 1) (take n ws) (drop n ws) (omega arith)) ∙ ap (λ (l : List Seat). drop (i + 1) l) (take-append-drop n ws))

nobody : Seat
nobody = record { session = record { 0 = 0 }; state = record { rest = []; begun = None }; aborts = 0 }

-- the first seat of the round that has an offer
module _ (H : List Event) (n : ℕ) (ws : List Seat) (within : n ≤ length ws) where
  abbrev NoneIn : ℕ → ℕ → Type 0
  NoneIn i j = AllWithin (λ (w : Seat). offer H ws w ≡ None) ws i j

  none_behind : NoneIn n (length ws) → (k : ℕ) (d : Seat) → n + k < length ws → offer H (round_from n ws) (get_or (round_from n ws) k d) ≡ None
  none_behind f k d l = ap (offer H (round_from n ws)) (read_back n k ws d l) ∙ offer_turned H n ws (get_or ws (n + k) d) ∙ f (n + k) d (omega arith) l

  none_front : (m : ℕ) → m ≤ n → NoneIn 0 m → (k : ℕ) (d : Seat) → k < m → offer H (round_from n ws) (get_or (round_from n ws) (length ws - n + k) d) ≡ None
  none_front m l f k d h = ap (offer H (round_from n ws)) (read_front n k ws d within (omega arith)) ∙ offer_turned H n ws (get_or ws k d) ∙ f k d (omega arith) h

  -- no seat from n on, and none of the first m, has an offer
  none_upto : (m : ℕ) → m ≤ n → NoneIn n (length ws) → NoneIn 0 m → (k : ℕ) (d : Seat) → k < length ws - n + m → offer H (round_from n ws) (get_or (round_from n ws) k d) ≡ None
  none_upto m l f g k d h = elim (cases_lt k (length ws - n)) [
    | inl b ↦ none_behind f k d (omega arith)
    | inr b ↦ subst (λ (i : ℕ). offer H (round_from n ws) (get_or (round_from n ws) i d) ≡ None) (let z : length ws - n + (k - (length ws - n)) ≡ k = omega arith in z)
        (none_front m l g (k - (length ws - n)) d (omega arith))
  ]

  pub turn_none : NoneIn n (length ws) → NoneIn 0 n → turn H (round_from n ws) ≡ None
  unfolding turn
  turn_none f g = none_first (offer H (round_from n ws)) (round_from n ws) (λ k d l. none_upto n (omega arith) f g k d (let z = size n ws within in omega arith))

  turned_at : (j : ℕ) (a : Asked) → a.index < length ws → j < length ws → ((k : ℕ) (e : Seat) → k < j → offer H (round_from n ws) (get_or (round_from n ws) k e) ≡ None) →
      ((d : Seat) → get_or (round_from n ws) j d ≡ get_or ws a.index d) → ((d : Seat) → a.session ≡ (get_or ws a.index d).session)
      → ((d : Seat) → offer H ws (get_or ws a.index d) ≡ Some a.request.now) →
      drop (suc j) (round_from n ws) ++ take j (round_from n ws) ≡ drop (a.index + 1) ws ++ take a.index ws → IsTurnOf H n ws a
  unfolding turn
  turned_at j a l m before there s r o = record {
    of = record { passed = take j (round_from n ws); seat = get_or ws a.index nobody; request = a.request.now; behind = drop (suc j) (round_from n ws) };
    is = first_at (offer H (round_from n ws)) (round_from n ws) j a.request.now nobody (let z = size n ws within in omega arith) before
        (ap (offer H (round_from n ws)) (there nobody) ∙ offer_turned H n ws (get_or ws a.index nobody) ∙ r nobody)
        ∙ ap (λ (w : Seat). Some (record { passed = take j (round_from n ws); seat = w; request = a.request.now; behind = drop (suc j) (round_from n ws) })) (there nobody);
    seat = slice_get-get_or ws a.index nobody l;
    session = s nobody;
    request = refl;
    others = o;
  }

  pub turn_back : (a : Asked) → IsFirstAt (offer H ws) ws n (length ws) a → IsTurnOf H n ws a
  turn_back a f = turned_at (a.index - n) a f.within (let z = f.within in omega arith)
      (λ k d l. (let z = f.within in let y = f.least in
      ap (offer H (round_from n ws)) (read_back n k ws d (omega arith)) ∙ offer_turned H n ws (get_or ws (n + k) d) ∙ f.none_before (n + k) d (omega arith) (omega arith)))
      (λ d. (let z = f.within in let y = f.least in let e : n + (a.index - n) ≡ a.index = omega arith in read_back n (a.index - n) ws d (omega arith) ∙ ap (λ (i : ℕ). get_or ws i d) e))
      f.session f.request (others_back n a.index ws f.least f.within)

  pub turn_front : NoneIn n (length ws) → (a : Asked) → IsFirstAt (offer H ws) ws 0 n a → IsTurnOf H n ws a
  turn_front none a f = turned_at (length ws - n + a.index) a (let z = f.within in omega arith) (let z = f.within in omega arith)
      (λ k d l. none_upto a.index (let z = f.within in omega arith) none f.none_before k d l)
      (λ d. read_front n a.index ws d within f.within)
      f.session f.request (others_front n a.index ws within f.within)

-- the round that begins after index i, once the seat there has changed
pub round_on : (cs : List Cursor) (i : ℕ) (c : Cursor) (v : Seat) → i < length cs → seat_of c ≡ v → round_from (i + 1) (seats_in (set cs i c)) ≡ drop (i + 1) (seats_in cs) ++ take i (seats_in cs)
    ++ v ∷ []
round_on cs i c v h e =
    let n : length (seats_in cs) ≡ length cs = length-map cs seat_of in
    ap (round_from (i + 1)) (map-set seat_of cs i c ∙ ap (λ (w : Seat). set (seats_in cs) i w) e)
    ∙ ap₂ (λ (a b : List Seat). a ++ b) (drop-set-lt (i + 1) (seats_in cs) i v (omega arith)) (take_more_set (seats_in cs) i v (omega arith))
    ∙ sym (append_assoc (drop (i + 1) (seats_in cs)) (take i (seats_in cs)) (v ∷ []))

-- the seats at the start
pub seat_made : (scripts : List (Session × List Line)) (i : ℕ) (s : Session) (ls : List Line) → option_map (λ (x : Session × List Line). x.0) (slice_get scripts i) ≡ Some s
    → option_map (λ (x : Session × List Line). x.1) (slice_get scripts i) ≡ Some ls →
    seated (scripts_on (take (i + 1) scripts)) ≡ seated (scripts_on (take i scripts)) ++ record { session = s; state = at_first (requests_on ls); aborts = 0 } ∷ []
seat_made [] i s ls a b = absurd (cc)
seat_made (x ∷ xs) zero s ls a b = let e : x.0 ≡ s = cc in let f : x.1 ≡ ls = cc in
    ap₂ (λ (z : Session) (l : List Line). record { session = z; state = at_first (requests_on l); aborts = 0 } ∷ []) e f
seat_made (x ∷ xs) (suc i) s ls a b = let e : suc i + 1 ≡ suc (i + 1) = omega arith in
    rw e (ap (λ (ws : List Seat). record { session = x.0; state = at_first (requests_on x.1); aborts = 0 } ∷ ws) (seat_made xs i s ls a b))

pub seat_there : (cs : List Cursor) (i : ℕ) (c : Cursor) (w : Seat) → i < length cs → c ≡ get_or cs i c → slice_get (seats_in cs) i ≡ Some w → seat_of c ≡ w
seat_there cs i c w h e g = sym (seat_read cs i c nobody h e) ∙ get_or_from_slice_get (seats_in cs) i w nobody g

-- if no seat from n on has an offer, the first of the seats before n that has one has the turn
pub turn_last : (H : List Event) (n : ℕ) (ws : List Seat) → n ≤ length ws → AllWithin (λ (w : Seat). offer H ws w ≡ None) ws n (length ws) → (o : Option Asked) → IsFirst (offer H ws) ws 0 n o
    → IsTurn H n ws o
turn_last H n ws m none None f = turn_none H n ws m none f
turn_last H n ws m none (Some a) f = turn_front H n ws m none a f
