-- A transaction that is not a writer, as chains change.
use Rattle.std.proofs.Common.{true, false, Bool, IsTrue, ◌↔◌, cond, not, eqb, ne_eqb, ◌||◌, ◌≡◌, ◌≢◌, ℕ, zero, suc, List, [], ◌∷◌, insert, refl, sym, ◌∙◌, ap, subst, Option, None, ℤ}
use Rattle.std.proofs.lemmas.Bool.{or_from, or_parts}
use Rattle.std.specs.Bool.{OnTrue}
use Rattle.teb_rules.specs.declared.names.Cell.{Cell}
use Rattle.teb_rules.specs.names.Cells.{same_cell}
use Rattle.version_chain.specs.Lists.{Version, writers_of, is_writer, first_place, next_place, set_value, without}
use Rattle.version_chain.proofs.Cells.{same_cell-exact}
use Rattle.chain_pool.proofs.Seen.{apart_from}

pub on_true : (b : Bool) (X Y : Type 0) → (IsTrue b ↔ X) → (X → Y) → OnTrue b Y
on_true true X Y h f = f (h.0 refl)
on_true false X Y h f = tt

pub first_place-absent : (vs : List Version) (t : ℕ) → is_writer vs t ≡ false → None ≡ first_place (λ w. eqb w t) (writers_of vs)
first_place-absent [] t off = refl
first_place-absent (v ∷ vs) t off =
    let two = or_parts (eqb v.0.0 t) (is_writer vs t) off in
    rw two.0 (ap next_place (first_place-absent vs t two.1))

put : (vs : List Version) (i : ℕ) (v : Version) (t : ℕ) → v.0.0 ≢ t → is_writer vs t ≡ false → is_writer (insert vs i v) t ≡ false
put vs zero v t other off = or_from _ _ (ne_eqb _ _ other) off
put [] (suc i) v t other off = or_from _ _ (ne_eqb _ _ other) refl
put (w ∷ vs) (suc i) v t other off =
    let two = or_parts (eqb w.0.0 t) (is_writer vs t) off in
    or_from _ _ two.0 (put vs i v t other two.1)

written : (i : ℕ) (value : Option ℤ) (vs : List Version) (t : ℕ) → is_writer (set_value i value vs) t ≡ is_writer vs t
written i value [] t = refl
written zero value (v ∷ vs) t = refl
written (suc i) value (v ∷ vs) t = ap (λ b. eqb v.0.0 t || b) (written i value vs t)

pub absent-without : (u : ℕ) (vs : List Version) (t : ℕ) → is_writer vs t ≡ false → is_writer (without u vs) t ≡ false
absent-without u [] t off = refl
absent-without u (v ∷ vs) t off =
    let two = or_parts (eqb v.0.0 t) (is_writer vs t) off in
    at (eqb v.0.0 u) two.0 (absent-without u vs t two.1)
  where
    at : (b : Bool) → eqb v.0.0 t ≡ false → is_writer (without u vs) t ≡ false → is_writer (cond (not b) (v ∷ without u vs) (without u vs)) t ≡ false
    at true here rest = rest
    at false here rest = or_from _ _ here rest

-- the chain of one cell changes
module _ (L M : Cell → List Version) (cell : Cell) (elsewhere : (x : Cell) → (cell ≡ x → ⊥) → M x ≡ L x) (t : ℕ) (x : Cell) (off : is_writer (L x) t ≡ false) where
  off_here : cell ≡ x → is_writer (L cell) t ≡ false
  off_here e = subst (λ (y : Cell). is_writer (L y) t ≡ false) (sym e) off

  in_each : (cell ≡ x → is_writer (M cell) t ≡ false) → is_writer (M x) t ≡ false
  in_each here = at (same_cell x cell) refl
    where
      at : (b : Bool) → same_cell x cell ≡ b → is_writer (M x) t ≡ false
      at true e = let is = same_cell-exact x cell e in subst (λ (y : Cell). is_writer (M y) t ≡ false) (sym is) (here (sym is))
      at false e = ap (λ (l : List Version). is_writer l t) (elsewhere x (apart_from x cell e)) ∙ off

  pub absent-put : (i : ℕ) (v : Version) → M cell ≡ insert (L cell) i v → (cell ≡ x → v.0.0 ≢ t) → is_writer (M x) t ≡ false
  absent-put i v is other = in_each (λ e. ap (λ (l : List Version). is_writer l t) is ∙ put (L cell) i v t (other e) (off_here e))

  pub absent-written : (i : ℕ) (value : Option ℤ) → M cell ≡ set_value i value (L cell) → is_writer (M x) t ≡ false
  absent-written i value is = in_each (λ e. ap (λ (l : List Version). is_writer l t) is ∙ (written i value (L cell) t ∙ off_here e))
