-- An event has occurred if and only if some event of the history passes its test.
use Rattle.std.proofs.Common.{◌≡◌, suc, ◌<◌, ◌≤◌, Bool, true, false, cond, ◌||◌, ltb, List, [], ◌∷◌, ◌++◌, length, reverse, refl, sym, ◌∙◌, ap, arith, lt-ltb, le-ltb, ltb-true}
use Rattle.std.specs.List.{list_any}
use Rattle.std.proofs.lemmas.List.{reverse-append}
use Rattle.teb_rules.specs.declared.history.Event.{Event}
use Rattle.teb_rules.specs.history.Positions.{first, first_event, newest, came}

pub first_le : (p : List Event → Bool) (H : List Event) → first p H ≤ length H
unfolding first
first_le p [] = omega arith
first_le p (e ∷ P) = go (ltb (first p P) (length P)) (p (e ∷ P)) (first_le p P)
  where
    go : (b c : Bool) → first p P ≤ length P → cond b (first p P) (cond c (length P) (suc (length P))) ≤ suc (length P)
    go true c h = omega arith
    go false true h = omega arith
    go false false h = omega arith

pub came_any : (q : Event → Bool) (H : List Event) → came H (first_event q H) ≡ list_any q H
unfolding first_event first
came_any q [] = refl
came_any q (e ∷ P) = go (ltb (first (newest q) P) (length P)) refl (q e) (came_any q P)
  where
    go : (b : Bool) → ltb (first (newest q) P) (length P) ≡ b → (c : Bool) → ltb (first (newest q) P) (length P) ≡ list_any q P →
        ltb (cond b (first (newest q) P) (cond c (length P) (suc (length P)))) (suc (length P)) ≡ (c || list_any q P)
    go true e true ih = let z = ltb-true _ _ e in lt-ltb _ _ (omega arith)
    go true e false ih = let z = ltb-true _ _ e in lt-ltb _ _ (let y : first (newest q) P < suc (length P) = omega arith in y) ∙ sym e ∙ ih
    go false e true ih = lt-ltb _ _ (let y : length P < suc (length P) = omega arith in y)
    go false e false ih = le-ltb _ _ (let y : suc (length P) ≤ suc (length P) = omega arith in y) ∙ sym e ∙ ih

any_append : (q : Event → Bool) (xs ys : List Event) → list_any q (xs ++ ys) ≡ (list_any q xs || list_any q ys)
any_append q [] ys = refl
any_append q (x ∷ xs) ys = rw (any_append q xs ys) (or_assoc (q x) (list_any q xs) (list_any q ys))
  where
    or_assoc : (a b c : Bool) → (a || (b || c)) ≡ ((a || b) || c)
    or_assoc true b c = refl
    or_assoc false b c = refl

pub any_reverse : (q : Event → Bool) (xs : List Event) → list_any q (reverse xs) ≡ list_any q xs
any_reverse q [] = refl
any_reverse q (x ∷ xs) = ap (list_any q) (reverse-append (x ∷ []) xs) ∙ any_append q (reverse xs) (x ∷ []) ∙ rw (any_reverse q xs) (swap (list_any q xs) (q x))
  where
    swap : (a b : Bool) → (a || (b || false)) ≡ (b || a)
    swap true true = refl
    swap true false = refl
    swap false true = refl
    swap false false = refl
