-- The rows of a square.
use Rattle.std.proofs.Common.{◌≡◌, ℕ, ◌<◌, ◌≤◌, Bool, true, false, ◌&&◌, ◌||◌, eqb, List, length, get_or, set, refl, sym, inl, inr, get_or-set_same, get_or-set_other, eq-eqb, ne_eqb}
use Rattle.std.proofs.lemmas.Bool.{cases_eq}
use Rattle.std.proofs.lemmas.List.{get_or_past}
use Rattle.static_steps.specs.Squares.{is_in, leads_in}
use Rattle.static_steps.proofs.Bits.{none_in}
use Rattle.teb_rules.proofs.lemmas.names.Bools.{or_false}

-- there are no arrows after the last row
pub no_row : (rows : List ℕ) (a b : ℕ) → length rows ≤ a → leads_in rows a b ≡ false
unfolding leads_in
no_row rows a b h = rw (get_or_past rows a 0 h) (none_in b)

pub or_both : (x e m i : Bool) → ((x || (e && i)) || (m && i)) ≡ (x || ((e || m) && i))
or_both true e m i = refl
or_both false true m true = refl
or_both false true true false = refl
or_both false true false false = refl
or_both false false m i = refl

-- a set is added to one row
pub row_joined : (rows : List ℕ) (t r later : ℕ) → t < length rows → ((b : ℕ) → is_in r b ≡ (is_in (get_or rows t 0) b || is_in later b)) → (a b : ℕ)
    → leads_in (set rows t r) a b ≡ (leads_in rows a b || (eqb t a && is_in later b))
unfolding leads_in
row_joined rows t r later h f a b = elim (cases_eq t a) [
  | inl e ↦ (let s = get_or-set_same rows t r 0 h in rw (eq-eqb t a e, ← e, s) (f b))
  | inr e ↦ (let s = get_or-set_other rows t a r 0 (λ q. e (sym q)) in rw (ne_eqb t a e, s) (sym (or_false (is_in (get_or rows a 0) b))))
]
