-- When a line is too long, and when it is not.
use Rattle.std.proofs.Common.{◌≡◌, ℕ, ◌+◌, ◌<◌, ◌≤◌, List, [], ◌++◌, length, get_or, take, Option, Some, None, IfSome, sym, ap, ◌∙◌, subst, arith, append-nil, length-append, length-take}
use Rattle.std.specs.Prelude.{◌≢◌}
use Rattle.std.proofs.lemmas.List.{get_or-take, get_or_append_left, take-append-le}
use Rattle.std.specs.Io.KnownBytes.{Consumes, IsAtEnd}
use Rattle.line_reader.specs.declared.TheConstants.{MOST_LINE_BYTES}
use Rattle.line_reader.specs.Lines.{ahead, IsFirstFeed, IsLine, IsTooLong}

-- a prefix without a line feed is a line
front_line : (m : ℕ) (bytes : List ℕ) → ((i : ℕ) → i < m → i < length bytes → get_or bytes i 0 ≢ 10) → IsLine (take m bytes)
front_line m bytes none = λ i small e.
    let in_m : i < m = omega (arith, small, length-take m bytes) in
    let in_bytes : i < length bytes = omega (arith, small, length-take m bytes) in
    none i in_m in_bytes (sym (get_or-take m bytes i 0 in_m) ∙ e)

none_in : (m : ℕ) (bytes : List ℕ) → IsLine (take m bytes) → (i : ℕ) → i < m → i < length bytes → get_or bytes i 0 ≢ 10
none_in m bytes line i in_m in_bytes e =
    line i (omega (arith, in_m, in_bytes, length-take m bytes)) (get_or-take m bytes i 0 in_m ∙ e)

feed_far : (m n : ℕ) (bytes : List ℕ) → IsFirstFeed bytes n → m ≤ n → IsLine (take m bytes)
feed_far m n bytes feed far = front_line m bytes (λ i in_m in_bytes. none_in n bytes feed.line i (omega (arith, far, in_m)) in_bytes)

feed_near : (m n : ℕ) (bytes rest : List ℕ) → IsLine (take m (bytes ++ rest)) → IsFirstFeed bytes n → n < m → ⊥
feed_near m n bytes rest line feed near =
    let few = feed.within in
    none_in m (bytes ++ rest) line n near (omega (arith, few, length-append bytes rest)) (get_or_append_left bytes rest 0 n few ∙ feed.feed)

front_more : (m : ℕ) (read rest : List ℕ) → m ≤ length read → IsLine (take m read) → IsLine (take m (read ++ rest))
front_more m read rest few line = subst IsLine (sym (take-append-le m read rest few)) line

-- long bytes without a line feed are too long
pub long_line : (bytes : List ℕ) → IsLine bytes → MOST_LINE_BYTES < length bytes → IsTooLong bytes
long_line bytes line more = record { more = more; line = front_line (MOST_LINE_BYTES + 1) bytes (λ i in_m in_bytes. line i in_bytes) }

-- bytes whose first line feed is after the limit are too long
pub far_feed : (bytes : List ℕ) (n : ℕ) → IsFirstFeed bytes n → MOST_LINE_BYTES < n → IsTooLong bytes
far_feed bytes n feed more = let within = feed.within in record { more = omega (arith, more, within); line = feed_far (MOST_LINE_BYTES + 1) n bytes feed (omega (arith, more)) }

-- the bytes ahead are too long if they begin with bytes that are
pub long_ahead : (before left : Option (List ℕ)) (read : List ℕ) → IsTooLong read → Consumes before (ahead read left) [] → IfSome before IsTooLong
long_ahead None left read long kept = tt
long_ahead (Some xs) None read long kept = absurd kept
long_ahead (Some xs) (Some ys) read long kept =
    let more = long.more in
    subst IsTooLong (sym kept) (record { more = omega (arith, more, length-append read ys); line = front_more (MOST_LINE_BYTES + 1) read ys (omega (arith, more)) long.line })

-- the bytes ahead are not too long if they have a line feed within the limit
pub near_ahead : (P : Type 0) (before left : Option (List ℕ)) (read : List ℕ) (n : ℕ) → IsFirstFeed read n → n ≤ MOST_LINE_BYTES → Consumes before (ahead read left) []
    → IfSome before (λ (bytes : List ℕ). IsTooLong bytes → P)
near_ahead P None left read n feed near kept = tt
near_ahead P (Some xs) None read n feed near kept = absurd kept
near_ahead P (Some xs) (Some ys) read n feed near kept = λ long. absurd (feed_near (MOST_LINE_BYTES + 1) n read ys (subst (λ (l : List ℕ). IsLine (take (MOST_LINE_BYTES + 1) l)) kept long.line) feed
    (omega (arith, near)))

-- the bytes ahead are not too long if they are at most the limit
pub few_ahead : (P : Type 0) (before left : Option (List ℕ)) (read : List ℕ) → length read ≤ MOST_LINE_BYTES → IsAtEnd left → Consumes before (ahead read left) []
    → IfSome before (λ (bytes : List ℕ). IsTooLong bytes → P)
few_ahead P None left read few end kept = tt
few_ahead P (Some xs) None read few end kept = absurd kept
few_ahead P (Some xs) (Some ys) read few end kept = λ long.
    let more = long.more in
    let whole : xs ≡ read = kept ∙ ap (λ (l : List ℕ). read ++ l) end ∙ append-nil read in
    absurd (omega (arith, more, few, ap length whole))
