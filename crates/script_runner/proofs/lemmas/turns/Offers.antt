-- What a session is offered, whatever the order of the sessions.
use Rattle.std.proofs.Common.{◌≡◌, ◌<◌, ℕ, zero, suc, Bool, true, false, not, leb, ◌&&◌, ◌||◌, List, [], ◌∷◌, ◌++◌, is_some, length, get_or, set, take, drop, refl, sym, ◌∙◌, ap, ap₂, arith}
use Rattle.std.proofs.Math.Bool.{beq}
use Rattle.std.specs.List.{list_any, list_all}
use Rattle.std.proofs.lemmas.List.{take-append-drop}
use Rattle.teb_rules.proofs.lemmas.names.Bools.{or_swap}
use Rattle.teb_rules.specs.declared.history.Event.{Event}
use Rattle.teb_rules.specs.Alone.{is_quiet}
use Rattle.teb_rules.specs.Scripts.{asks}
use Rattle.teb_rules.specs.Driver.{Seat, due, chosen, may_begin, offer, unless_passed}
use Rattle.script_runner.specs.declared.turns.cursor.Cursor.{Cursor}
use Rattle.script_runner.specs.turns.Seats.{seat_of, seats_in, round_from}

pub any_kept : (p : Seat → Bool) (cs : List Cursor) → list_any (λ (c : Cursor). p (seat_of c)) cs ≡ list_any p (seats_in cs)
any_kept p [] = refl
any_kept p (c ∷ cs) = ap (λ b. p (seat_of c) || b) (any_kept p cs)

pub all_kept : (p : Seat → Bool) (cs : List Cursor) → list_all (λ (c : Cursor). p (seat_of c)) cs ≡ list_all p (seats_in cs)
all_kept p [] = refl
all_kept p (c ∷ cs) = ap (λ b. p (seat_of c) && b) (all_kept p cs)

any_append : (p : Seat → Bool) (xs ys : List Seat) → list_any p (xs ++ ys) ≡ (list_any p xs || list_any p ys)
any_append p [] ys = refl
any_append p (x ∷ xs) ys = ap (λ b. p x || b) (any_append p xs ys) ∙ assoc (p x)
  where
    assoc : (a : Bool) → a || (list_any p xs || list_any p ys) ≡ ((a || list_any p xs) || list_any p ys)
    assoc true = refl
    assoc false = refl

all_append : (p : Seat → Bool) (xs ys : List Seat) → list_all p (xs ++ ys) ≡ (list_all p xs && list_all p ys)
all_append p [] ys = refl
all_append p (x ∷ xs) ys = ap (λ b. p x && b) (all_append p xs ys) ∙ assoc (p x)
  where
    assoc : (a : Bool) → a && (list_all p xs && list_all p ys) ≡ ((a && list_all p xs) && list_all p ys)
    assoc true = refl
    assoc false = refl

and_swap : (a b : Bool) → (a && b) ≡ (b && a)
and_swap true true = refl
and_swap true false = refl
and_swap false true = refl
and_swap false false = refl

any_turned : (p : Seat → Bool) (n : ℕ) (ws : List Seat) → list_any p (round_from n ws) ≡ list_any p ws
any_turned p n ws = any_append p (drop n ws) (take n ws) ∙ or_swap (list_any p (drop n ws)) (list_any p (take n ws)) ∙ sym (any_append p (take n ws) (drop n ws))
    ∙ ap (list_any p) (take-append-drop n ws)

all_turned : (p : Seat → Bool) (n : ℕ) (ws : List Seat) → list_all p (round_from n ws) ≡ list_all p ws
all_turned p n ws = all_append p (drop n ws) (take n ws) ∙ and_swap (list_all p (drop n ws)) (list_all p (take n ws)) ∙ sym (all_append p (take n ws) (drop n ws))
    ∙ ap (list_all p) (take-append-drop n ws)

-- a session has the same offer in every rotation of the round
pub offer_turned : (H : List Event) (n : ℕ) (ws : List Seat) (w : Seat) → offer H (round_from n ws) w ≡ offer H ws w
offer_turned H n ws w = ap (λ (b : Bool). unless_passed (is_some w.state.begun || b) (asks w.state))
    (ap₂ (λ (a b : Bool). not a || ((due w && b) && is_quiet H)) (any_turned due n ws) (all_turned (λ v. not (due v) || leb w.session.0 v.session.0) n ws))

-- replacing a cursor by one that passes the same test does not change whether one passes
pub any_set : (p : Cursor → Bool) (cs : List Cursor) (i : ℕ) (c d : Cursor) → i < length cs → p c ≡ p (get_or cs i d) → list_any p (set cs i c) ≡ list_any p cs
any_set p [] i c d l e = absurd (omega arith)
any_set p (x ∷ cs) zero c d l e = ap (λ (b : Bool). b || list_any p cs) e
any_set p (x ∷ cs) (suc i) c d l e = ap (λ (b : Bool). p x || b) (any_set p cs i c d (omega (arith, l)) e)

-- two booleans that do not differ are equal
pub not_other : (a b : Bool) → not (beq a b) ≡ false → a ≡ b
not_other true true e = refl
not_other true false e = absurd (cc)
not_other false true e = absurd (cc)
not_other false false e = refl

-- which sessions may begin, by those that are due and the one that is chosen
pub begins_freely : (H : List Event) (ws : List Seat) (w : Seat) → list_any due ws ≡ false → may_begin H ws w ≡ true
begins_freely H ws w e = rw e refl

pub begins_alone : (H : List Event) (ws : List Seat) (w : Seat) → list_any due ws ≡ true → chosen ws w ≡ true → may_begin H ws w ≡ is_quiet H
begins_alone H ws w e f = rw (e, f) refl

pub begins_not : (H : List Event) (ws : List Seat) (w : Seat) → list_any due ws ≡ true → chosen ws w ≡ false → may_begin H ws w ≡ false
begins_not H ws w e f = rw (e, f) refl

pub chosen_if : (cs : List Cursor) (w : Seat) → due w ≡ true → chosen (seats_in cs) w ≡ list_all (λ (c : Cursor). not (due (seat_of c)) || leb w.session.0 c.session.0) cs
chosen_if cs w e = rw e (sym (all_kept (λ (v : Seat). not (due v) || leb w.session.0 v.session.0) cs))
