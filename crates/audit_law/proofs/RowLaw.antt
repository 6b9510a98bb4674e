-- The final rows are those of the last table.
use Rattle.std.proofs.Common.{◌≡◌, ℕ, ◌==◌, Bool, true, false, not, cond, List, [], ◌∷◌, ◌++◌, Option, Some, refl, ap, sym, ◌∙◌, inl, inr}
use Rattle.std.specs.Prelude.{ℤ, is_some}
use Rattle.std.specs.List.{All, IsDistinct, list_any}
use Rattle.std.specs.Str.{bytes_eq}
use Rattle.std.proofs.lemmas.Bool.{and_left, and_right, and_parts, and_from, eq-eqb, eqb-true, cases_Bool, or_from, or_left, or_right, not_from_true}
use Rattle.std.proofs.lemmas.List.Elements.{All-head, All-tail}
use Rattle.teb_rules.specs.declared.names.Cell.{Cell}
use Rattle.teb_rules.specs.declared.names.naming.NameBook.{NameBook}
use Rattle.teb_rules.specs.names.Cells.{same_cell}
use Rattle.teb_rules.specs.names.Rows.{row_of}
use Rattle.teb_rules.specs.declared.history.Event.{Event}
use Rattle.teb_rules.specs.declared.history.Event.TheVariants as event
use Rattle.teb_rules.specs.Replay as rule
use Rattle.script_text.specs.Named.{CellNamed}
use Rattle.audit_check.specs.Items.{Item, RowKey, same_row_key}
use Rattle.audit_check.specs.Items.Item.{End}
use Rattle.audit_check.specs.Faults.{is_missing, row_keys_in, same_value, wrong_row}
use Rattle.audit_check.specs.Lines.{is_row}
use Rattle.audit_check.specs.Tables.{last_table}
use Rattle.audit_law.specs.Printed.{EventFits, RowFits, row_key_of}
use Rattle.audit_law.proofs.Agreement.{Agree, by_row_key}
use Rattle.audit_law.proofs.Ascending.{HasRow}
use Rattle.audit_law.proofs.Behind.{row_items, RowsRight}
use Rattle.audit_law.proofs.Bridge.{items, starts}
use Rattle.audit_law.proofs.RowKeys.{row_keys_same}
use Rattle.audit_law.proofs.ReadLaw.{itself}

module _ (names : NameBook) (distinct : IsDistinct bytes_eq names.tables) where
  -- no row key of a line passes a test that no named cell passes
  module _ (p : RowKey → Bool) (none : (x : Cell) → CellNamed names x → p (row_key_of names x) ≡ false) where
    no_start : (rows : List (Cell × ℤ)) → All (RowFits names) rows → list_any p (row_keys_in (starts (by_row_key names rows))) ≡ false
    unfolding row_keys_in
    no_start [] fit = refl
    no_start (r ∷ rows) fit =
        or_from (p (row_key_of names r.0)) (list_any p (row_keys_in (starts (by_row_key names rows)))) (none r.0 (All-head (RowFits names) r rows fit).0.0)
        (no_start rows (All-tail (RowFits names) r rows fit))

    pub no_row_key : (rows : List (Cell × ℤ)) (H : List Event) → All (RowFits names) rows → All (EventFits names) H → list_any p (row_keys_in (items names (by_row_key names rows) H)) ≡ false
    unfolding row_keys_in
    no_row_key rows [] fit fits = no_start rows fit
    no_row_key rows (event.Put t x v ∷ P) fit fits =
        or_from (p (row_key_of names x)) (list_any p (row_keys_in (items names (by_row_key names rows) P))) (none x (All-head (EventFits names) (event.Put t x v) P fits).1.0)
        (no_row_key rows P fit (All-tail (EventFits names) (event.Put t x v) P fits))
    no_row_key rows (event.Began t s k i ∷ P) fit fits = no_row_key rows P fit (All-tail (EventFits names) (event.Began t s k i) P fits)
    no_row_key rows (event.Got t x u v ∷ P) fit fits = no_row_key rows P fit (All-tail (EventFits names) (event.Got t x u v) P fits)
    no_row_key rows (event.Ready t ∷ P) fit fits = no_row_key rows P fit (All-tail (EventFits names) (event.Ready t) P fits)
    no_row_key rows (event.Done t ∷ P) fit fits = no_row_key rows P fit (All-tail (EventFits names) (event.Done t) P fits)
    no_row_key rows (event.Gone t c ∷ P) fit fits = no_row_key rows P fit (All-tail (EventFits names) (event.Gone t c) P fits)
    no_row_key rows (event.Told t ∷ P) fit fits = no_row_key rows P fit (All-tail (EventFits names) (event.Told t) P fits)

  -- a cell with a final row has a line
  pub lined : (x : Cell) (rows : List (Cell × ℤ)) (Z : List Item) → CellNamed names x → All (RowFits names) rows → is_some (row_of rows x) ≡ true
      → list_any (is_row (row_key_of names x)) (row_items (by_row_key names rows) ++ Z) ≡ true
  lined x [] Z named fit has = absurd (cc)
  lined x (r ∷ rows) Z named fit has = elim (cases_Bool (same_cell r.0 x)) [
    | inl here ↦ or_left (same_row_key (row_key_of names x) (row_key_of names r.0)) (list_any (is_row (row_key_of names x)) (row_items (by_row_key names rows) ++ Z))
        (row_keys_same names distinct x r.0 named (All-head (RowFits names) r rows fit).0.0 ∙ turned x r.0 here)
    | inr other ↦ or_right (same_row_key (row_key_of names x) (row_key_of names r.0)) (list_any (is_row (row_key_of names x)) (row_items (by_row_key names rows) ++ Z))
        (lined x rows Z named (All-tail (RowFits names) r rows fit) (ap is_some (sym (left (same_cell r.0 x) other (Some r.1) (row_of rows x))) ∙ has))
  ]
    where
      left : (b : Bool) → b ≡ false → (o q : Option ℤ) → cond b o q ≡ q
      left b h o q = rw h

      turned : (y z : Cell) → same_cell z y ≡ true → same_cell y z ≡ true
      turned y z h =
          let (tables, keys) = and_parts (z.table.0 == y.table.0) (z.key == y.key) h in
          and_from (y.table.0 == z.table.0) (y.key == z.key) (eq-eqb y.table.0 z.table.0 (sym (eqb-true z.table.0 y.table.0 tables))) (eq-eqb y.key z.key (sym (eqb-true z.key y.key keys)))

  module _ (W : List Item) (rows : List (Cell × ℤ)) (T : rule.Values) (agree : Agree names distinct (last_table W) T) (is : (x : Cell) → row_of rows x ≡ T x) where
    pub rows_right : (rs : List (Cell × ℤ)) → All (RowFits names) rs → All (HasRow rows) rs → RowsRight (wrong_row W) (by_row_key names rs)
    rows_right [] fit have = tt
    rows_right (r ∷ rs) fit have =
        let held : last_table W (row_key_of names r.0) ≡ Some r.1 = agree.each r.0 (All-head (RowFits names) r rs fit).0.0 ∙ sym (is r.0) ∙ All-head (HasRow rows) r rs have in (
          λ past. not_from_true (same_value (last_table W (row_key_of names r.0)) (Some r.1)) (ap (λ v. same_value v (Some r.1)) held ∙ itself (Some r.1)),
          rows_right rs (All-tail (RowFits names) r rs fit) (All-tail (HasRow rows) r rs have),
        )

    -- no row is missing at the end
    pub none_missing : (starting : List (Cell × ℤ)) (H : List Event) (ts : List ℕ) (past : List Item) → All (RowFits names) starting → All (EventFits names) H
        → ((x : Cell) → CellNamed names x → is_some (row_of rows x) ≡ true → list_any (is_row (row_key_of names x)) past ≡ true)
        → row_keys_in W ≡ row_keys_in (items names (by_row_key names starting) H) → wrong_row W past End ≡ false
    none_missing starting H ts past fit fits has row_keys =
        ap (list_any (is_missing W past)) row_keys ∙ no_row_key (is_missing W past) here starting H fit fits
      where
        here : (x : Cell) → CellNamed names x → is_missing W past (row_key_of names x) ≡ false
        here x named = elim (cases_Bool (is_some (row_of rows x))) [
          | inl some ↦ and_right (is_some (last_table W (row_key_of names x))) (not (list_any (is_row (row_key_of names x)) past)) (ap not (has x named some))
          | inr none ↦ and_left (is_some (last_table W (row_key_of names x))) (not (list_any (is_row (row_key_of names x)) past)) (ap is_some (agree.each x named ∙ sym (is x)) ∙ none)
        ]
