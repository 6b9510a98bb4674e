-- A well-formed text has the order line, and if that is right it lists exactly the transactions that commit.
use Rattle.std.proofs.Common.{◌≡◌, ℕ, ◌≤◌, ◌==◌, Bool, true, false, nat_le, nat_lt, not, if◌then◌else◌, ◌&&◌, List, [], ◌∷◌, length, Option, Some, None, refl, ap, sym, subst, ◌∙◌, arith, inl, inr}
use Rattle.std.specs.Prelude.{Result, Ok, Err}
use Rattle.std.specs.List.{list_all}
use Rattle.std.specs.Option.{ok_or}
use Rattle.std.proofs.lemmas.Bool.{and_parts, both_ways, cases_Bool, eqb-true, false_from_ne_true, or_cases, or_left, or_right, not-false}
use Rattle.std.proofs.lemmas.Bool.Decides.{nat_tests}
use Rattle.std.proofs.lemmas.Option.{cond_some}
use Rattle.audit_check.specs.Items.{Item}
use Rattle.audit_check.specs.Items.Item.{Start, Began, Got, Put, Ready, Done, Gone, Told, Order, Row, End}
use Rattle.audit_check.specs.Audit.{first_line}
use Rattle.audit_check.specs.Faults.{is_among, are_distinct, are_distinct_and, wrong_order}
use Rattle.audit_check.specs.Lines.{fits, fitting, is_over, item_of, items_from, items_of, may_follow, next_line, part_after, parts_of, repeats, ◌>>=ʳ◌}
use Rattle.audit_check.specs.Reading.{◌>>=◌}
use Rattle.audit_check.specs.Standings.{committed, commits}
use Rattle.audit_check.specs.Tables.{order_in}
use Rattle.audit_check.proofs.FirstLines.{first_parts}

-- each item may follow the items before it
abbrev Fits : List Item → Type 0
Fits [] = Unit {0}
Fits (i ∷ past) = (fits past i ≡ true) × Fits past

kept_fits : (past : List Item) (o : Option Item) (i : Item) → (o >>= (λ j. if fits past j then Some j else None)) ≡ Some i → fits past i ≡ true
kept_fits past None i h = absurd (cc)
kept_fits past (Some j) i h =
    let (test, same) = cond_some (fits past j) j i h in
    ap (fits past) (sym same) ∙ test

fitting_fits : (past : List Item) (l : List ℕ) (i : Item) → fitting past l ≡ Some i → fits past i ≡ true
unfolding fitting
fitting_fits past l i h = kept_fits past (item_of l) i h

next_ok : {A B : Type 0} → (o : Option A) (n : ℕ) (k : A → Result B ℕ) (x : B) → (ok_or o n >>=ʳ k) ≡ Ok x → (i : A) × (o ≡ Some i) × (k i ≡ Ok x)
next_ok None n k x e = absurd (cc)
next_ok (Some i) n k x e = (i, refl, e)

over_ok : (past H : List Item) (l : List ℕ) (b : Bool) → is_over past l ≡ b → (if b then Ok past else Err (next_line past)) ≡ Ok H → Fits past → Fits H × (part_after H ≡ 4)
over_ok past H l true over e f =
    let same : past ≡ H = cc in
    let (ends, empty) = and_parts (part_after past == 4) (length l == 0) over in
    (subst Fits same f, ap part_after (sym same) ∙ eqb-true (part_after past) 4 ends)
over_ok past H l false over e f = absurd (cc)

items_fit : (past : List Item) (ls : List (List ℕ)) (H : List Item) → items_from past ls ≡ Ok H → Fits past → Fits H × (part_after H ≡ 4)
unfolding items_from
items_fit past [] H e f = absurd (cc)
items_fit past (l ∷ []) H e f = over_ok past H l (is_over past l) refl e f
items_fit past (l ∷ m ∷ ls) H e f =
    let (i, says, more) = next_ok (fitting past l) (next_line past) (λ i. items_from (i ∷ past) (m ∷ ls)) H e in
    items_fit (i ∷ past) (m ∷ ls) H more (fitting_fits past l i says, f)

-- a row or the end follows the order
row_behind : (p : ℕ) (b : Bool) → (may_follow p 3 && b) ≡ true → 2 ≤ p
row_behind p b h =
    let (first, more) = and_parts (may_follow p 3) b h in
    let (low, rest) = and_parts (nat_le p 3) (nat_lt 1 p && nat_lt p 4) first in
    let (above, below) = and_parts (nat_lt 1 p) (nat_lt p 4) rest in
    grind (arith, nat_tests, above)

end_behind : (p : ℕ) (b : Bool) → (may_follow p 4 && b) ≡ true → 2 ≤ p
end_behind p b h =
    let (first, more) = and_parts (may_follow p 4) b h in
    let (low, rest) = and_parts (nat_le p 4) (nat_lt 1 p && nat_lt p 4) first in
    let (above, below) = and_parts (nat_lt 1 p) (nat_lt p 4) rest in
    grind (arith, nat_tests, above)

abbrev lists_each : List Item → List ℕ → Bool
lists_each H ts = are_distinct_and (committed H) ts && list_all (is_among ts) (commits H)

order_there : (H Q : List Item) → Fits Q → 2 ≤ part_after Q → first_line (wrong_order H) Q ≡ None → lists_each H (order_in Q) ≡ true
unfolding order_in
order_there H [] f low none = absurd (omega (arith, low))
order_there H (Order ts ∷ Q) f low none = not-false (lists_each H ts) (first_parts (wrong_order H) Q (Order ts) none).1
order_there H (Row x v ∷ Q) f low none = order_there H Q f.1 (row_behind (part_after Q) (not (repeats Q (Row x v))) f.0) (first_parts (wrong_order H) Q (Row x v) none).0
order_there H (End ∷ Q) f low none = order_there H Q f.1 (end_behind (part_after Q) (not (repeats Q End)) f.0) (first_parts (wrong_order H) Q End none).0
order_there H (Start x v ∷ Q) f low none = absurd (omega (arith, low))
order_there H (Began t ∷ Q) f low none = absurd (omega (arith, low))
order_there H (Got t x u v ∷ Q) f low none = absurd (omega (arith, low))
order_there H (Put t x v ∷ Q) f low none = absurd (omega (arith, low))
order_there H (Ready t ∷ Q) f low none = absurd (omega (arith, low))
order_there H (Done t ∷ Q) f low none = absurd (omega (arith, low))
order_there H (Gone t ∷ Q) f low none = absurd (omega (arith, low))
order_there H (Told t ∷ Q) f low none = absurd (omega (arith, low))

passes_among : (p : ℕ → Bool) (ts : List ℕ) (t : ℕ) → list_all p ts ≡ true → is_among ts t ≡ true → p t ≡ true
passes_among p [] t all among = absurd (cc)
passes_among p (s ∷ ss) t all among =
    let (here, more) = and_parts (p s) (list_all p ss) all in
    elim (or_cases (s == t) (is_among ss t) among) [
      | inl same ↦ ap p (sym (eqb-true s t same)) ∙ here
      | inr later ↦ passes_among p ss t more later
    ]

among_commits : (Q : List Item) (t : ℕ) → committed Q t ≡ true → is_among (commits Q) t ≡ true
unfolding commits committed
among_commits [] t h = absurd (cc)
among_commits (Done u ∷ Q) t h =
    elim (or_cases (u == t) (committed Q t) h) [
      | inl here ↦ or_left (u == t) (is_among (commits Q) t) here
      | inr later ↦ or_right (u == t) (is_among (commits Q) t) (among_commits Q t later)
    ]
among_commits (Start x v ∷ Q) t h = among_commits Q t h
among_commits (Began u ∷ Q) t h = among_commits Q t h
among_commits (Got u x w v ∷ Q) t h = among_commits Q t h
among_commits (Put u x v ∷ Q) t h = among_commits Q t h
among_commits (Ready u ∷ Q) t h = among_commits Q t h
among_commits (Gone u ∷ Q) t h = among_commits Q t h
among_commits (Told u ∷ Q) t h = among_commits Q t h
among_commits (Order us ∷ Q) t h = among_commits Q t h
among_commits (Row x v ∷ Q) t h = among_commits Q t h
among_commits (End ∷ Q) t h = among_commits Q t h

listed_is : (H : List Item) (ts : List ℕ) (t : ℕ) → lists_each H ts ≡ true → is_among ts t ≡ committed H t
listed_is H ts t h =
    let (distinct, all) = and_parts (are_distinct_and (committed H) ts) (list_all (is_among ts) (commits H)) h in
    let (once, done) = and_parts (are_distinct ts) (list_all (committed H) ts) distinct in
    elim (cases_Bool (is_among ts t)) [
      | inl listed ↦ listed ∙ sym (passes_among (committed H) ts t done listed)
      | inr other ↦ other ∙ sym (false_from_ne_true (committed H t) (λ c. both_ways (is_among ts t) other (passes_among (is_among ts) (commits H) t all (among_commits H t c))))
    ]

pub order_lists : (text : List ℕ) (H : List Item) → items_of text ≡ Ok H → first_line (wrong_order H) H ≡ None → (t : ℕ) → is_among (order_in H) t ≡ committed H t
unfolding items_of
order_lists text H is none t =
    let (fit, ends) = items_fit [] (parts_of text) H is tt in
    listed_is H (order_in H) t (order_there H H fit (omega (arith, ends)) none)
