-- The conditions under which an order lists each committed transaction once and no other.
use Rattle.std.proofs.Common.{◌≡◌, ℕ, zero, suc, ◌+◌, ◌<◌, ◌==◌, Bool, true, false, not, ◌&&◌, ◌||◌, List, [], ◌∷◌, ◌++◌, length, take, get_or, None, refl, ap, sym, ◌∙◌, arith, inl, inr}
use Rattle.std.specs.List.{list_all}
use Rattle.std.proofs.lemmas.Bool.{and_parts, and_from, and_left, and_right, or_parts, or_cases, not-false}
use Rattle.std.proofs.lemmas.Bool.Decides.{nat_tests}
use Rattle.std.proofs.lemmas.List.Folds.{list_all-append, list_any-append, list_any_at, list_all_at}
use Rattle.std.proofs.lemmas.List.{take_more}
use Rattle.audit_check.specs.Items.{Item}
use Rattle.audit_check.specs.Items.Item.{Start, Began, Got, Put, Ready, Done, Gone, Told, Order, Row, End}
use Rattle.audit_check.specs.Faults.{is_among, are_distinct, are_distinct_and, wrong_order}
use Rattle.audit_check.specs.Audit.{first_line}
use Rattle.audit_check.specs.Standings.{commits, committed}
use Rattle.audit_check.specs.Tables.{order_in}
use Rattle.audit_check.specs.Keeps.{commit_passes}
use Rattle.audit_check.specs.Views.{views, line_view}
use Rattle.audit_check.specs.declared.line.Line.{Line}
use Rattle.audit_check.proofs.FirstLines.{views_append, first_parts}
use Rattle.teb_rules.proofs.lemmas.names.Bools.{and_true, or_false, or_swap}

and_turned : (a b : Bool) → (a && b) ≡ (b && a)
and_turned true true = refl
and_turned true false = refl
and_turned false true = refl
and_turned false false = refl

-- the commits of a list of lines, line by line
commits-append : (a b : List Item) → commits (a ++ b) ≡ commits a ++ commits b
unfolding commits
commits-append [] b = refl
commits-append (Done t ∷ a) b = ap (λ (l : List ℕ). t ∷ l) (commits-append a b)
commits-append (Start x v ∷ a) b = commits-append a b
commits-append (Began t ∷ a) b = commits-append a b
commits-append (Got t x u v ∷ a) b = commits-append a b
commits-append (Put t x v ∷ a) b = commits-append a b
commits-append (Ready t ∷ a) b = commits-append a b
commits-append (Gone t ∷ a) b = commits-append a b
commits-append (Told t ∷ a) b = commits-append a b
commits-append (Order ts ∷ a) b = commits-append a b
commits-append (Row x v ∷ a) b = commits-append a b
commits-append (End ∷ a) b = commits-append a b

one_passes : (p : ℕ → Bool) (i : Item) → list_all p (commits (i ∷ [])) ≡ commit_passes p i
unfolding commits
one_passes p (Done t) = and_true (p t)
one_passes p (Start x v) = refl
one_passes p (Began t) = refl
one_passes p (Got t x u v) = refl
one_passes p (Put t x v) = refl
one_passes p (Ready t) = refl
one_passes p (Gone t) = refl
one_passes p (Told t) = refl
one_passes p (Order ts) = refl
one_passes p (Row x v) = refl
one_passes p End = refl

none_pass : (p : ℕ → Bool) → true ≡ list_all p (commits [])
unfolding commits
none_pass p = refl

pub commits_pass : (p : ℕ → Bool) (lines : List Line) → list_all (λ l. commit_passes p (line_view l)) lines ≡ list_all p (commits (views lines))
commits_pass p [] = none_pass p
commits_pass p (l ∷ ls) =
    ap (λ b. commit_passes p (line_view l) && b) (commits_pass p ls)
    ∙ and_turned (commit_passes p (line_view l)) (list_all p (commits (views ls)))
    ∙ ap (λ b. list_all p (commits (views ls)) && b) (sym (one_passes p (line_view l)))
    ∙ sym (list_all-append p (commits (views ls)) (commits (line_view l ∷ [])))
    ∙ ap (list_all p) (sym (commits-append (views ls) (line_view l ∷ [])))
    ∙ ap (λ (is : List Item). list_all p (commits is)) (sym (views_append (l ∷ []) ls))

-- a list without repetitions stays so if a new transaction is appended
distinct_push : (xs : List ℕ) (t : ℕ) → are_distinct xs ≡ true → is_among xs t ≡ false → are_distinct (xs ++ t ∷ []) ≡ true
distinct_push [] t h new = refl
distinct_push (x ∷ xs) t h new =
    let (here, more) = and_parts (not (is_among xs x)) (are_distinct xs) h in
    let (other, rest) = or_parts (x == t) (is_among xs t) new in
    let apart : (t == x) ≡ false = grind (arith, nat_tests, other) in
    rw (list_any-append (λ s. s == x) xs (t ∷ []), apart, or_false (is_among xs x)) (and_from (not (is_among xs x)) (are_distinct (xs ++ t ∷ [])) here (distinct_push xs t more rest))

module _ (p : ℕ → Bool) (ts : List ℕ) (i t : ℕ) (within : i < length ts) (is : t ≡ get_or ts i 0) where
  front : take (i + 1) ts ≡ take i ts ++ t ∷ []
  front = take_more ts i 0 within ∙ ap (λ x. take i ts ++ x ∷ []) (sym is)

  pub one_more : are_distinct_and p (take i ts) ≡ true → is_among (take i ts) t ≡ false → p t ≡ true → are_distinct_and p (take (i + 1) ts) ≡ true
  one_more h new passes =
      let (once, all) = and_parts (are_distinct (take i ts)) (list_all p (take i ts)) h in
      let each : list_all p (take i ts ++ t ∷ []) ≡ true = list_all-append p (take i ts) (t ∷ []) ∙ and_from (list_all p (take i ts)) (p t && true) all (and_from (p t) true passes refl) in
      rw front (and_from (are_distinct (take i ts ++ t ∷ [])) (list_all p (take i ts ++ t ∷ [])) (distinct_push (take i ts) t once new) each)

  pub among_more : (n : ℕ) → is_among (take (i + 1) ts) n ≡ (t == n || is_among (take i ts) n)
  among_more n = rw front (list_any-append (λ s. s == n) (take i ts) (t ∷ []) ∙ ap (λ b. is_among (take i ts) n || b) (or_false (t == n)) ∙ or_swap (is_among (take i ts) n) (t == n))

-- a list that repeats a transaction is not distinct
repeated : (ts : List ℕ) (i : ℕ) → i < length ts → is_among (take i ts) (get_or ts i 0) ≡ true → are_distinct ts ≡ false
repeated [] i within again = absurd (omega (arith, within))
repeated (x ∷ xs) zero within again = absurd (cc)
repeated (x ∷ xs) (suc i) within again =
    elim (or_cases (x == get_or xs i 0) (is_among (take i xs) (get_or xs i 0)) again) [
      | inl here ↦ and_left (not (is_among xs x)) (are_distinct xs) (ap not (list_any_at (λ s. s == x) xs i 0 (omega (arith, within)) (grind (arith, nat_tests, here))))
      | inr later ↦ and_right (not (is_among xs x)) (are_distinct xs) (repeated xs i (omega (arith, within)) later)
    ]

pub not_distinct : (p : ℕ → Bool) (ts : List ℕ) (i t : ℕ) → i < length ts → t ≡ get_or ts i 0 → is_among (take i ts) t ≡ true → are_distinct_and p ts ≡ false
not_distinct p ts i t within is again = and_left (are_distinct ts) (list_all p ts) (repeated ts i within (ap (is_among (take i ts)) (sym is) ∙ again))

pub not_passing : (p : ℕ → Bool) (ts : List ℕ) (i t : ℕ) → i < length ts → t ≡ get_or ts i 0 → p t ≡ false → are_distinct_and p ts ≡ false
not_passing p ts i t within is fails = and_right (are_distinct ts) (list_all p ts) (list_all_at p ts i 0 within (ap p (sym is) ∙ fails))

order_right : (H : List Item) (ts : List ℕ) → wrong_order H [] (Order ts) ≡ false → are_distinct ts ≡ true
order_right H ts right =
    let listed = not-false (are_distinct_and (committed H) ts && list_all (is_among ts) (commits H)) right in
    (and_parts (are_distinct ts) (list_all (committed H) ts) (and_parts (are_distinct_and (committed H) ts) (list_all (is_among ts) (commits H)) listed).0).0

-- if no line is wrong, the order lists no transaction twice
pub order_once : (H past : List Item) → first_line (wrong_order H) past ≡ None → are_distinct (order_in past) ≡ true
unfolding order_in
order_once H [] none = refl
order_once H (Order ts ∷ past) none = order_right H ts (first_parts (wrong_order H) past (Order ts) none).1
order_once H (Start x v ∷ past) none = order_once H past (first_parts (wrong_order H) past (Start x v) none).0
order_once H (Began t ∷ past) none = order_once H past (first_parts (wrong_order H) past (Began t) none).0
order_once H (Got t x u v ∷ past) none = order_once H past (first_parts (wrong_order H) past (Got t x u v) none).0
order_once H (Put t x v ∷ past) none = order_once H past (first_parts (wrong_order H) past (Put t x v) none).0
order_once H (Ready t ∷ past) none = order_once H past (first_parts (wrong_order H) past (Ready t) none).0
order_once H (Done t ∷ past) none = order_once H past (first_parts (wrong_order H) past (Done t) none).0
order_once H (Gone t ∷ past) none = order_once H past (first_parts (wrong_order H) past (Gone t) none).0
order_once H (Told t ∷ past) none = order_once H past (first_parts (wrong_order H) past (Told t) none).0
order_once H (Row x v ∷ past) none = order_once H past (first_parts (wrong_order H) past (Row x v) none).0
order_once H (End ∷ past) none = order_once H past (first_parts (wrong_order H) past (End) none).0
