-- Two cells differ if and only if their row keys differ, since tables have distinct names.
use Rattle.std.proofs.Common.{◌≡◌, ℕ, zero, suc, ◌<◌, ◌==◌, false, ◌&&◌, List, [], ◌∷◌, length, refl, ap, sym, ◌∙◌, arith, inl, inr}
use Rattle.std.specs.List.{IsDistinct, AllByRecursion}
use Rattle.std.specs.Str.{bytes_eq}
use Rattle.std.proofs.lemmas.Bool.{cases_eq, eq-eqb, ne_eqb}
use Rattle.std.proofs.lemmas.Cmp.{nat_list_eq_equiv}
use Rattle.teb_rules.specs.declared.names.Cell.{Cell}
use Rattle.teb_rules.specs.declared.names.naming.NameBook.{NameBook}
use Rattle.teb_rules.specs.names.Cells.{same_cell}
use Rattle.script_text.specs.Texts.{name_of}
use Rattle.script_text.specs.Named.{CellNamed}
use Rattle.audit_check.specs.Items.{same_row_key}
use Rattle.audit_law.specs.Printed.{row_key_of}

name_within : (P : List ℕ → Type 0) (ts : List (List ℕ)) (i : ℕ) → AllByRecursion P ts → i < length ts → P (name_of ts i)
name_within P [] i h within = absurd (omega (arith, within))
name_within P (t ∷ ts) zero h within = h.0
name_within P (t ∷ ts) (suc i) h within = name_within P ts i h.1 (omega (arith, within))

names_apart : (ts : List (List ℕ)) (i j : ℕ) → IsDistinct bytes_eq ts → i < length ts → j < length ts → (i ≡ j → ⊥) → bytes_eq (name_of ts i) (name_of ts j) ≡ false
unfolding IsDistinct
names_apart [] i j distinct here there apart = absurd (omega (arith, here))
names_apart (t ∷ ts) zero zero distinct here there apart = absurd (apart refl)
names_apart (t ∷ ts) zero (suc j) distinct here there apart = name_within (λ y. bytes_eq t y ≡ false) ts j distinct.0 (omega (arith, there))
names_apart (t ∷ ts) (suc i) zero distinct here there apart = nat_list_eq_equiv.symm (name_of ts i) t ∙ name_within (λ y. bytes_eq t y ≡ false) ts i distinct.0 (omega (arith, here))
names_apart (t ∷ ts) (suc i) (suc j) distinct here there apart = names_apart ts i j distinct.1 (omega (arith, here)) (omega (arith, there)) (λ e. apart (ap suc e))

names_same : (ts : List (List ℕ)) (i j : ℕ) → IsDistinct bytes_eq ts → i < length ts → j < length ts → bytes_eq (name_of ts i) (name_of ts j) ≡ (i == j)
names_same ts i j distinct here there = elim (cases_eq i j) [
  | inl same ↦ ap (λ k. bytes_eq (name_of ts i) (name_of ts k)) (sym same) ∙ nat_list_eq_equiv.refl (name_of ts i) ∙ sym (eq-eqb i j same)
  | inr apart ↦ names_apart ts i j distinct here there apart ∙ sym (ne_eqb i j apart)
]

module _ (names : NameBook) (distinct : IsDistinct bytes_eq names.tables) where
  pub row_keys_same : (x y : Cell) → CellNamed names x → CellNamed names y → same_row_key (row_key_of names x) (row_key_of names y) ≡ same_cell x y
  row_keys_same x y here there = ap (λ b. b && x.key == y.key) (names_same names.tables x.table.0 y.table.0 distinct here there)
